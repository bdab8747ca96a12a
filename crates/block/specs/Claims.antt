-- What is claimed of what a block is found to be.
use Rattle.std.specs.Prelude.{ℕ, ◌≡◌, Bool, true, ◌&&◌, List, take}
use Rattle.rom.specs.Geometry.{none}
use Rattle.rom.specs.Bytes.{pick, one, byte_at, Bytes}
use Rattle.block.specs.Answer.{Refused}
use Rattle.format.specs.Block.{size_of, kind_of, is_known, facts_of, is_listed, is_power, is_default, resets_a_phy, refusal_in, refusal_of}
use Rattle.block.specs.Answer.{block_in, block_of, number_of, size_in, listed_in, kind_in, invalid_in, default_in, phy_reset_in}
use Rattle.block.specs.Answer.{code_in, capabilities_in, mode_in}

-- the answer's number is the block's refusal, and an accepted block has its size
abbrev pub AnswersRefusal : Type 0
AnswersRefusal = (row level : ℕ) (s : List ℕ) →
    (number_of (block_of row level s) ≡ refusal_of row level s)
    × (refusal_of row level s ≡ 0 → size_in (block_of row level s) ≡ size_of row s)

-- and says whether the block is listed, and the kind in its entry
abbrev pub AnswersEntry : Type 0
AnswersEntry = (row level : ℕ) (s : List ℕ) → refusal_of row level s ≡ 0 →
    (listed_in (block_of row level s) ≡ one (is_listed row level s))
    × (kind_in (block_of row level s) ≡ pick (is_listed row level s) (kind_of row s) 0)

-- and the media code and the capability word of a listed block, as its fields have them
abbrev pub AnswersMedium : Type 0
AnswersMedium = (row level : ℕ) (s : List ℕ) → refusal_of row level s ≡ 0 →
    (code_in (block_of row level s) ≡ pick (is_listed row level s) (facts_of (kind_of row s) s).code none)
    × (capabilities_in (block_of row level s) ≡ pick (is_listed row level s) (facts_of (kind_of row s) s).capabilities 0)

-- and its flags
abbrev pub AnswersFlags : Type 0
AnswersFlags = (row level : ℕ) (s : List ℕ) → refusal_of row level s ≡ 0 →
    (invalid_in (block_of row level s) ≡ (is_listed row level s && (facts_of (kind_of row s) s).active_invalid))
    × (default_in (block_of row level s) ≡ is_default row level s)
    × (phy_reset_in (block_of row level s) ≡ resets_a_phy row level s)

-- and the mode byte of a power block, which is behind its type
abbrev pub AnswersMode : Type 0
AnswersMode = (row level : ℕ) (s : List ℕ) → refusal_of row level s ≡ 0
    → mode_in (block_of row level s) ≡ pick (is_power row level s) (byte_at s 2) 0

-- a refused block has its number and no more, in every version
abbrev pub AnswersRefused : Type 0
AnswersRefused = (first : Bool) (row level n : ℕ) (s : List ℕ) → (n ≡ 0 → ⊥) →
    (refusal_of row level s ≡ n → block_of row level s ≡ Refused n)
    × (refusal_in first row level s ≡ n → block_in first row level s ≡ Refused n)

-- a level matters only by whether it knows the block
abbrev pub OnlyKnown : Type 0
OnlyKnown = (row older newest : ℕ) (s : List ℕ) → is_known older (kind_of row s) ≡ is_known newest (kind_of row s)
    → block_of row older s ≡ block_of row newest s

-- an accepted block is its own bytes: where another rest begins with them, the same block stands there, with the same size and
-- kind and, if the level knows it, the same facts
abbrev pub OwnBytes : Type 0
OwnBytes = (row level : ℕ) (s other : List ℕ) → Bytes s → refusal_of row level s ≡ 0 → take (size_of row s) other ≡ take (size_of row s) s →
    (block_of row level other ≡ block_of row level s)
    × (size_of row other ≡ size_of row s)
    × (kind_of row other ≡ kind_of row s)
    × (is_known level (kind_of row s) ≡ true → facts_of (kind_of row s) other ≡ facts_of (kind_of row s) s)

-- in version 1 the answer's number is the refusal there, and an accepted block is found to be what it is in versions 3 and 4
abbrev pub AnswersFirst : Type 0
AnswersFirst = (first : Bool) (row level : ℕ) (s : List ℕ) →
    (number_of (block_in first row level s) ≡ refusal_in first row level s)
    × (refusal_in first row level s ≡ 0 → block_in first row level s ≡ block_of row level s)
