-- The rows, filled by one store for each listed block, are the flags of all blocks. Assumes nothing.
use Rattle.std.proofs.Common.{◌≡◌, ℕ, suc, ◌+◌, ◌-◌, ◌<◌, ◌≤◌, Bool, true, false, ◌&&◌, List, [], ◌∷◌, ◌++◌, length, map, set, replicate}
use Rattle.std.proofs.Common.{take, drop, refl, ap, sym, ◌∙◌, append_assoc, append-nil, length-append, arith}
use Rattle.std.proofs.lemmas.List.{map-append, length-map}
use Rattle.std.proofs.Math.Seq.{set-append_seam}
use Rattle.std.specs.Int.{from_bool}
use native.Mathlib.Nat.{sub-zero}
use Rattle.rom.specs.Bytes.{pick, one}
use Rattle.rom.specs.Refusal.{first_met}
use Rattle.format.specs.Chips.{taken_as}
use Rattle.format.specs.Block.{size_of, is_listed, refusal_of, the_later_version}
use Rattle.block.specs.Answer.{Verdict}
use Rattle.block.specs.Answer.{Listed, Reset, Power, Unknown, Refused}
use Rattle.block.specs.declared.Medium.{Medium}
use Rattle.block.specs.Answer.{block_of, size_in, listed_in, invalid_in, code_in, capabilities_in}
use Rattle.block.proofs.Seen.{answers-refusal, answers-entry, answers-medium, answers-flags, fits}
use Rattle.leaf.specs.Leaf.{cut, block_causes}
use Rattle.leaf.proofs.Cuts.{cut-more, cut-none, rest_part, first-accepted}
use Rattle.walk.specs.declared.Rows.{Rows}
use Rattle.walk.specs.Walk.{way_of, is_fixed, has_medium, row_length, no_flags, flags, is_invalid, is_fixed_medium, no_rows, rows_of}
use Rattle.walk.proofs.Taken.{same-way-taken}

-- ## A row

-- the flag of one block more, in place of the first zero
flag-next : (p : List ℕ → Bool) (bs : List (List ℕ)) (s : List ℕ) {k : ℕ} → length bs ≡ k → k < row_length
    → set (flags p bs) k (one (p s)) ≡ flags p (bs ++ s ∷ [])
unfolding flags
flag-next p bs s {k} e h =
    let f = λ (s : List ℕ). one (p s) in
    let free : row_length - length bs ≡ suc (row_length - (length bs + 1)) = omega arith in
    let here : length (map f bs) ≡ k = length-map bs f ∙ e in
    rw (free, map-append f bs (s ∷ []), length-append bs (s ∷ []), append_assoc, ← here)
    (set-append_seam (map f bs) 0 (replicate (row_length - (length bs + 1)) 0) (one (p s)))

-- which is a zero too where p does not take it
flag-kept : (p : List ℕ → Bool) (bs : List (List ℕ)) (s : List ℕ) → length bs < row_length → p s ≡ false
    → flags p bs ≡ flags p (bs ++ s ∷ [])
unfolding flags
flag-kept p bs s h e =
    let f = λ (s : List ℕ). one (p s) in
    let free : row_length - length bs ≡ suc (row_length - (length bs + 1)) = omega arith in
    rw (free, map-append f bs (s ∷ []), length-append bs (s ∷ []), append_assoc, e)

-- ## What an accepted block is found to be

module _ (row level : ℕ) (s : List ℕ) (fine : refusal_of row level s ≡ 0) where
  listed-here : {m : Medium} → Listed m ≡ block_of row level s → is_listed row level s ≡ true
  listed-here {m} e = go (is_listed row level s) (ap listed_in e ∙ (answers-entry row level s fine).0)
    where
      go : (t : Bool) → 1 ≡ one t → t ≡ true
      go true e = refl
      go false e = absurd (omega arith)

  module _ {m : Medium} (e : Listed m ≡ block_of row level s) where
    invalid-here : m.active_invalid ≡ is_invalid row level s
    unfolding is_invalid
    invalid-here = ap invalid_in e ∙ (answers-flags row level s fine).0

    fixed-here : (connection : ℕ)
        → (is_fixed (way_of (taken_as connection)) && has_medium (taken_as connection) m.media_code m.capabilities)
        ≡ is_fixed_medium connection row level s
    unfolding is_fixed_medium pick
    fixed-here connection =
        let here = listed-here e in
        let code = rw here at (ap code_in e ∙ (answers-medium row level s fine).0) in
        let capabilities = rw here at (ap capabilities_in e ∙ (answers-medium row level s fine).1) in
        rw (code, capabilities, here, same-way-taken connection)

  not-listed-here : {b : Verdict} → b ≡ block_of row level s → ((m : Medium) → b ≡ Listed m → ⊥) → is_listed row level s ≡ false
  not-listed-here {b} e n = go (is_listed row level s) (sym (none b n) ∙ ap listed_in e ∙ (answers-entry row level s fine).0)
    where
      none : (b : Verdict) → ((m : Medium) → b ≡ Listed m → ⊥) → listed_in b ≡ 0
      none (Listed m) n = absurd (n m refl)
      none (Reset size) n = refl
      none (Power size mode) n = refl
      none (Unknown size) n = refl
      none (Refused number) n = refl

      go : (t : Bool) → 0 ≡ one t → t ≡ false
      go true e = absurd (omega arith)
      go false e = refl

-- ## The rows

from_one : (t : Bool) → from_bool t ≡ one t
from_one true = refl
from_one false = refl

-- those of k blocks that are passed, where others are left
pub record Filled (connection row level : ℕ) (whole left : List (List ℕ)) (k : ℕ) (rows : Rows) : Type 0 where
  pub passed : List (List ℕ)
  pub all : whole ≡ passed ++ left
  pub number : length passed ≡ k
  pub filled : rows ≡ rows_of connection row level passed
  pub accepted : first_met (block_causes the_later_version row level left) ≡ 0

pub none_filled : {connection row level : ℕ} (count : ℕ) (s : List ℕ) {rows : Rows}
    → first_met (block_causes the_later_version row level (cut row count s)) ≡ 0 → rows ≡ no_rows
    → Filled connection row level (cut row count s) (cut row (count - 0) s) 0 rows
unfolding no_rows no_flags rows_of flags
none_filled count s fine empty =
    rw (sub-zero, empty) (record { passed = []; all = refl; number = refl; filled = refl; accepted = fine })

-- one block more is passed
module _ {connection row level : ℕ} (count : ℕ) (rest : List ℕ) {whole : List (List ℕ)} {k : ℕ} {rows : Rows}
    (inv : Filled connection row level whole (cut row (count - k) rest) k rows) (more : k < count) where
  next-accepted : (refusal_of row level rest ≡ 0)
      × (first_met (block_causes the_later_version row level (cut row (count - (k + 1)) (drop (size_of row rest) rest))) ≡ 0)
  next-accepted = first-accepted row level rest _ (rw cut-more at inv.accepted)

  pub next_within : {size : ℕ} → size ≡ size_of row rest → size ≤ length rest
  next_within e = rw e (fits row level rest next-accepted.0)

  pub listed_size : {b : Verdict} {m : Medium} {size : ℕ} → b ≡ block_of row level rest → b ≡ Listed m → size ≡ m.size
      → size ≡ size_of row rest
  listed_size eb el e = e ∙ ap size_in (sym el ∙ eb) ∙ (answers-refusal row level rest).1 next-accepted.0

  next_filled : {size : ℕ} {next : Rows} → size ≡ size_of row rest → next ≡ rows_of connection row level (inv.passed ++ rest ∷ [])
      → Filled connection row level whole (cut row (count - (k + 1)) (take (length rest - size) (drop size rest))) (k + 1) next
  next_filled e f =
      let next-left = cut-more row count k rest more in
      rw (rest_part, e)
      (record {
        passed = inv.passed ++ rest ∷ [];
        all = inv.all ∙ ap (λ (bs : List (List ℕ)). inv.passed ++ bs) next-left ∙ sym (append_assoc inv.passed (rest ∷ []) _);
        number = length-append inv.passed (rest ∷ []) ∙ ap (λ (n : ℕ). n + 1) inv.number;
        filled = f;
        accepted = next-accepted.1;
      })

  module _ (few : count < row_length) {b : Verdict} (seen : b ≡ block_of row level rest) where
    short : length inv.passed < row_length
    short = omega arith

    pub listed-filled : {size taken : ℕ} {m : Medium} → size ≡ size_of row rest → b ≡ Listed m → taken ≡ taken_as connection
        → Filled connection row level whole (cut row (count - (k + 1)) (take (length rest - size) (drop size rest))) (k + 1)
        (record {
          listed = set rows.listed k 1;
          active_invalid = set rows.active_invalid k (from_bool m.active_invalid);
          fixed = set rows.fixed k (from_bool (is_fixed (way_of taken) && has_medium taken m.media_code m.capabilities));
        })
    unfolding rows_of
    listed-filled {taken = taken} {m = m} e eb et =
        let here = sym eb ∙ seen in
        let fine = next-accepted.0 in
        next_filled e
        (rw (
          inv.filled,
          from_one (is_fixed (way_of taken) && has_medium taken m.media_code m.capabilities),
          from_one m.active_invalid,
          et,
          fixed-here row level rest fine here connection,
          invalid-here row level rest fine here,
          ← flag-next (is_listed row level) inv.passed rest inv.number (omega arith),
          ← flag-next (is_invalid row level) inv.passed rest inv.number (omega arith),
          ← flag-next (is_fixed_medium connection row level) inv.passed rest inv.number (omega arith),
          listed-here row level rest fine here,
        ))

    pub unlisted-filled : {size : ℕ} → size ≡ size_of row rest → ((m : Medium) → b ≡ Listed m → ⊥)
        → Filled connection row level whole (cut row (count - (k + 1)) (take (length rest - size) (drop size rest))) (k + 1) rows
    unfolding rows_of is_invalid is_fixed_medium
    unlisted-filled e n =
        let none = not-listed-here row level rest next-accepted.0 seen n in
        let invalid : is_invalid row level rest ≡ false = rw none refl in
        let fixed : is_fixed_medium connection row level rest ≡ false = rw none refl in
        next_filled e
        (rw (
          inv.filled,
          flag-kept (is_listed row level) inv.passed rest short none,
          flag-kept (is_invalid row level) inv.passed rest short invalid,
          flag-kept (is_fixed_medium connection row level) inv.passed rest short fixed,
        ))

pub all_filled : {connection row level : ℕ} (count : ℕ) (s rest : List ℕ) {k : ℕ} {rows : Rows}
    → Filled connection row level (cut row count s) (cut row (count - k) rest) k rows → count ≤ k
    → rows ≡ rows_of connection row level (cut row count s)
all_filled {connection} {row} {level} count s rest inv h =
    inv.filled ∙ ap (rows_of connection row level) (sym (inv.all ∙ rw cut-none (append-nil inv.passed)))
