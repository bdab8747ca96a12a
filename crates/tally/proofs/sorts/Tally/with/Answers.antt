-- A default counts where none is before it, and has its number then. Assumes nothing.
use Rattle.std.proofs.Common.{ℕ, ◌≡◌, ◌<◌, Bool, true, false, Option, Some, None, IfSome, arith, refl, ap, ◌∙◌}
use borrow.Author.Tests.{ne_eqb}
use Rattle.std.specs.Option.{option_or}
use Rattle.std.specs.Bool.{then_some}
use Rattle.rom.specs.Geometry.{none}
use mir.Val.{bool_byte}
use Rattle.rom.specs.Bytes.{pick, one}
use Rattle.rom.specs.Numbers.{number_or_none}
use Rattle.tally.specs.Inside.{first_number}
use Rattle.tally.proofs.sorts.Tally.with.Goals as goal
use Rattle.tally.proofs.sorts.Tally.with.Goals.{in-Listed, in-Reset, in-Power, in-Unknown}

first_or : (old : Option ℕ) (marked : Bool) (k : ℕ) → IfSome old (λ j. j < none)
    → number_or_none (option_or old (then_some marked k)) ≡ first_number (number_or_none old) marked k
unfolding first_number pick
first_or None true k h = refl
first_or None false k h = refl
first_or (Some j) marked k h = rw (ne_eqb j none (λ e. omega arith)) refl

byte-one : (t : Bool) → bool_byte t ≡ one t
byte-one true = refl
byte-one false = refl

pub returns : goal.returns
returns c = elim c.match-block.branch [
  | in-Listed w ↦
      let m = w.in-Listed.medium in
      let e = w.or-self.ensures ∙ ap (option_or c.args.self.default_number) w.then_some.ensures in
      let first = first_or _ m.is_default c.args.number c.args.self.default_bound in
      rw (w.self-is, e, w.from.ensures, w.from-in-Listed.ensures, first, w.in-Listed.is, byte-one m.resets_phy, byte-one m.is_default) refl
  | in-Reset w ↦ rw (w.self-is, w.in-Reset.is) refl
  | in-Power w ↦ rw (w.self-is, w.in-Power.is) refl
  | in-Unknown w ↦ rw (w.self-is, w.in-Unknown.is) refl
]
