-- What a look selects, as the code finds it. Assumes nothing.
use Rattle.std.proofs.Common.{◌≡◌, ℕ, ◌+◌, ◌<◌, Bool, true, false, ◌||◌, List, ◌∙◌, arith}
use Rattle.std.proofs.Common.{Option, Some, None, MatchOption, IfSome, is_some, unwrap_or}
use Rattle.std.proofs.Math.Bool.{or-true, or-false}
use borrow.Author.Tests.{ne_eqb}
use Rattle.rom.specs.Geometry.{none}
use Rattle.rom.specs.Bytes.{pick}
use Rattle.rom.specs.Numbers.{number_or_none}
use Rattle.rom.proofs.Truth.{and-true}
use Rattle.walk.specs.declared.Walk.{Walk}
use Rattle.walk.specs.Walk.{stays, up_in, choice, sensed, chosen, switched, stepped}
use Rattle.autosense.specs.Inside.{choice_from}

module _ (w : Walk) (report : List ℕ) where
  -- a walk that stays is settled
  pub sensed_staying : stays w report ≡ true → choice true w.selected ≡ sensed w report
  unfolding sensed stays pick
  sensed_staying e =
      let settled : w.settled ≡ true = (and-true w.settled _ (and-true _ _ e).0).0 in
      rw (e, settled)

  pub sensed_up : (r : Option ℕ) → stays w report ≡ false → number_or_none r ≡ up_in w report → IfSome r (λ k. k < none)
      → choice_from w r ≡ sensed w report
  unfolding sensed pick
  sensed_up (Some k) e u below = rw (e, ← u, ne_eqb k 255 (λ e. omega arith))
  sensed_up None e u below = rw (e, ← u)

  -- where a type is fixed or not
  pub chosen_from : (fixed block : Option ℕ)
      → MatchOption fixed (sensed w report ≡ chosen w report) (λ k. choice true k ≡ chosen w report)
      → MatchOption fixed (choice_from w block ≡ sensed w report) (λ k. block ≡ Some k) → choice_from w block ≡ chosen w report
  chosen_from (Some k) block c e = rw e c
  chosen_from None block c e = e ∙ c

  pub stepped_from : (block : Option ℕ) {settled : Bool} {selected looks switches : ℕ} → choice_from w block ≡ chosen w report
      → settled ≡ (w.settled || is_some block) → selected ≡ unwrap_or block w.default_number → looks ≡ w.looks + 1
      → switches ≡ switched w.switches w.selected selected
      → record {
        loaded = w.loaded;
        connection = w.connection;
        blocks = w.blocks;
        rows = w.rows;
        default_number = w.default_number;
        settled = settled;
        selected = selected;
        looks = looks;
        switches = switches;
      } ≡ stepped w report
  unfolding stepped
  stepped_from (Some k) c s t l n = rw (← c, s, n, t, l, or-true)
  stepped_from None c s t l n = rw (← c, s, n, t, l, or-false)
