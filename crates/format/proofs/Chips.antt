-- The rows of the chips, each by one test that is computed over them all. Assumes nothing.
use Prim.Native.Nat.{ℕ, ◌<◌}
use mathlib.Core.Path.{◌≡◌, refl, ap, sym}
use mathlib.Core.Bool.{Bool, true, false, ◌||◌, ◌&&◌, not}
use mathlib.Core.List.{[], ◌++◌}
use lib.Dec.{T, eqb, leb, ltb, ltb→lt}
use lib.ListN.{get_or}
use borrow.Author.Tests.{lt-leb, ne_eqb, eqb-false}
use Rattle.rom.proofs.Truth.{or-false}
use Rattle.rom.specs.Bytes.{pick, is_in}
use Rattle.format.specs.Chips.{chips, place_of, row_of, permitted_rows, is_permitted, newest_level, kind_compact}
use Rattle.format.specs.Chips.{taken_as, the_first_edition}
use Rattle.format.specs.Chips.{the_later_edition, first_codes, later_codes, is_read}
use Rattle.format.specs.Chips.{connections21041, connections21140, connections21142, connection_rows, is_connection}
use Rattle.format.specs.Claims.{NamedRows, EachItsOwn}
use Rattle.format.proofs.Rows.{in_row}

pub named-rows : NamedRows
unfolding row_of place_of chips pick
named-rows = (refl, refl)

-- a permitted type is one that the newest level knows
pub permitted-type : (row kind : ℕ) → is_permitted row kind ≡ true → kind < kind_compact → kind < newest_level
unfolding is_permitted permitted_rows is_in
permitted-type row kind e h =
    let t : T (is_in kind (get_or permitted_rows row [])) = rw e tt in
    ltb→lt kind newest_level
    (simp (lt-leb kind_compact kind h) at (in_row (λ x. leb kind_compact x || ltb x newest_level) permitted_rows tt row kind t))

-- ## The two editions

-- no row has a code of edition 1.00, so 1.01 reads none
pub no-first : (row code : ℕ) → is_in code first_codes ≡ true → is_read the_later_edition row code ≡ false
unfolding first_codes is_read pick is_connection connection_rows connections21041 connections21140 connections21142 is_in
no-first row code old = go (is_in code (get_or connection_rows row [])) refl
  where
    go : (t : Bool) → is_in code (get_or connection_rows row []) ≡ t → t ≡ false
    go true e =
        let n : T (not (is_in code first_codes)) = in_row (λ x. not (is_in x first_codes)) connection_rows tt row code (rw e tt) in
        absurd (rw old at n)
    go false e = refl

-- and edition 1.00 reads none that 1.01 has in their place
pub no-later : (row code : ℕ) → is_in code later_codes ≡ true → is_read the_first_edition row code ≡ false
unfolding is_read pick
no-later row code e = ap (λ (t : Bool). not t && is_connection row (taken_as code)) e

other-codes : (row code : ℕ) → is_in code (first_codes ++ later_codes) ≡ false → is_read the_first_edition row code
    ≡ is_read the_later_edition row code
unfolding is_read taken_as is_in first_codes later_codes pick
other-codes row code e =
    let a = or-false (eqb 0x0200 code) _ e in
    let b = or-false (eqb 0x0203 code) _ a.1 in
    rw (
      b.1,
      ne_eqb code 0x0200 (λ z. eqb-false 0x0200 code a.0 (sym z)),
      ne_eqb code 0x0203 (λ z. eqb-false 0x0203 code b.0 (sym z)),
    )

pub each-its-own : EachItsOwn
unfolding is_read taken_as is_in first_codes later_codes pick
each-its-own row = (refl, refl, refl, refl, λ code. refl, no-first row 0x0200 refl, no-first row 0x0203 refl, other-codes row)
