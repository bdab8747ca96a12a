-- Lists of calls, and what is seen after each of them (document 01, 'The walk'; document 02, request 5).
use Rattle.std.specs.Prelude.{ℕ, ◌≡◌, List, [], ◌∷◌, Bool, true, false}
use Rattle.rom.specs.Bytes.{pick}
use Rattle.rom.specs.Refusal.{first_met}
use Rattle.image.specs.declared.Arguments.{Arguments}
use Rattle.walk.specs.declared.Walk.{Walk}
use Rattle.walk.specs.declared.Walked.{Walked}
use Rattle.walk.specs.declared.Way.{Way}
use Rattle.walk.specs.declared.Way.TheVariants.{EveryLook, Once, Fixed}
use Rattle.walk.specs.Walk.{is_up, look_causes, load_for, look_for, clear_for}

-- a load of the image at hand, a look with a report, or a clear
pub data Call : Type 0 where
  load : Call
  look : List ℕ → Call
  clear : Call

-- one call: a load takes this image with these arguments
unfoldable pub call : List ℕ → Arguments → Walk → Call → Walked
call image a w load = load_for w image a
call image a w (look report) = look_for w report
call image a w clear = clear_for w

-- fresh, or loaded with settled, selected block or none, looks, switches
pub data Seen : Type 0 where
  fresh : Seen
  loaded : Bool → ℕ → ℕ → ℕ → Seen

unfoldable pub seen : Walk → Seen
seen w = pick w.loaded (loaded w.settled w.selected w.looks w.switches) fresh

-- what is compared after a call: acceptance or refusal number, then the walk
pub record After : Type 0 where
  pub number : ℕ
  pub walk : Seen

unfoldable pub after : Walked → After
after r = record { number = r.number; walk = seen r.walk }

-- after each call of a list, each of which gets the walk that the last one returned
unfoldable pub run : List ℕ → Arguments → Walk → List Call → List After
run image a w [] = []
run image a w (c ∷ cs) = after (call image a w c) ∷ run image a (call image a w c).walk cs

-- at each call of a list, with the walk that it gets
abbrev pub Each : (Walk → Call → Type 0) → List ℕ → Arguments → Walk → List Call → Type 0
Each p image a w [] = Unit {0}
Each p image a w (c ∷ cs) = p w c × Each p image a (call image a w c).walk cs

-- at no look of the list that the walk accepts is a block of these up
abbrev pub DownAt : (ℕ → Bool) → Walk → Call → Type 0
DownAt these w load = Unit {0}
DownAt these w (look report) = first_met (look_causes w report) ≡ 0 → (k : ℕ) → these k ≡ true → is_up report k ≡ false
DownAt these w clear = Unit {0}

abbrev pub Down : (ℕ → Bool) → List ℕ → Arguments → Walk → List Call → Type 0
Down these image a w cs = Each (DownAt these) image a w cs

-- by the way to walk: links play no part under a fixed type
abbrev pub QuietAt : Way → (ℕ → Bool) → Walk → Call → Type 0
QuietAt EveryLook these = DownAt these
QuietAt Once these = DownAt these
QuietAt Fixed these = λ w c. Unit {0}

-- each look at a loaded walk is refused with this number
abbrev pub RefusedAt : ℕ → Walk → Call → Type 0
RefusedAt n w load = Unit {0}
RefusedAt n w (look report) = w.loaded ≡ true → (look_for w report).number ≡ n
RefusedAt n w clear = Unit {0}
