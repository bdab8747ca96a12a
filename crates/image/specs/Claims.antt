-- What is claimed of an image's header, and of why it is refused.
use Rattle.std.specs.Prelude.{ℕ, ◌≡◌, List, [], ◌∷◌, map, false}
use Rattle.rom.specs.declared.Layout.{Layout}
use Rattle.rom.specs.Refusal.{first_met, Exact}
use Rattle.image.specs.declared.Arguments.{Arguments}
use Rattle.image.specs.Image.{magic_causes}
use Rattle.image.specs.Arguments.{header_causes}
use Rattle.image.specs.Cases.{header_answered, header_cases}

-- a header's refusal is exact: other than 0, its cause is met and none before it is; 0, none is met
abbrev pub ExactHeader : Type 0
ExactHeader = (image : List ℕ) (a : Arguments) → Exact (header_causes image a) (first_met (header_causes image a))

-- its causes stand in this order, whatever the image and the arguments are
abbrev pub HeaderOrder : Type 0
HeaderOrder = (image : List ℕ) (a : Arguments) →
    map (λ cause. cause.number) (header_causes image a) ≡ 1 ∷ 2 ∷ 3 ∷ 4 ∷ 29 ∷ 30 ∷ 5 ∷ 6 ∷ 7 ∷ 38 ∷ 8 ∷ 9 ∷ 10 ∷ 11 ∷ []

-- a Magic Packet block is judged only where the caller says that it is there
abbrev pub UntoldUnjudged : Type 0
UntoldUnjudged = (l : Layout) (image : List ℕ) → l.magic ≡ false → first_met (magic_causes l image) ≡ 0

-- each worked header is answered as it says
abbrev pub HeadersWorked : Type 0
HeadersWorked = map header_answered header_cases ≡ header_cases
