-- How long the sheet of a record is whose leaf fits: on a 21041 a block has one byte or seven, elsewhere an entry takes no more
-- of a sheet than twice its block. Assumes nothing.
use Prim.Native.Nat.{ℕ, suc, ◌+◌, ◌*◌, ◌≤◌}
use mathlib.Core.Path.{◌≡◌, refl, ap, ◌∙◌}
use mathlib.Core.Bool.{Bool, true, false}
use mathlib.Core.Logic.{◌⊎◌, inl, inr, ⊎_elim}
use mathlib.Core.List.{List, [], ◌∷◌, ◌++◌}
use native.Mathlib.Omega.{arith}
use lib.ListN.{length, length-append}
use lib.Dec.{eqb, leb}
use borrow.Author.Tests.{eqb-true, eqb-false, leb-true, leb-false}
use Rattle.rom.specs.declared.Layout.{Layout}
use Rattle.rom.specs.Geometry.{small_size, large_size, image_length}
use Rattle.rom.specs.Bytes.{pick, byte_at}
use Rattle.rom.proofs.Layouts.{length-by-size, geometry}
use Rattle.rom.proofs.Truth.{or-false}
use Rattle.format.specs.Chips.{row_of, row21041}
use Rattle.format.specs.Block.{has_ext, sia_size}
use Rattle.sheet.specs.declared.Form.{Form}
use Rattle.sheet.specs.Form.{shift}
use Rattle.sheet.specs.Record.{Entry, Plain}
use Rattle.sheet.specs.Sheet.{body_bytes, sheet_of}
use Rattle.sheet.specs.Image.{encode, encodes, leaf_of}
use Rattle.sheet.specs.Write.{any_bad, cannot_hold}
use Rattle.sheet.specs.Claims.{longest_sheet}
use Rattle.sheet.proofs.Blocks.{Good, good-compact, good-21041, good-extended, good-so, opening-compact, opening-21041}
use Rattle.sheet.proofs.Blocks.{opening-extended}
use Rattle.sheet.proofs.Sheets.{SizedFields, sheet-length}
use Rattle.sheet.proofs.Images.{leaf_room, header-some, leaf-length}

-- ## On a 21041

sia-is : (n : ℕ) → (sia_size n ≡ 1) ⊎ (sia_size n ≡ 7)
unfolding sia_size pick
sia-is n = go (has_ext n)
  where
    go : (t : Bool) → (◌≡◌ {A = ℕ} (pick t 7 1) 1) ⊎ (◌≡◌ {A = ℕ} (pick t 7 1) 7)
    go true = inr refl
    go false = inl refl

one-or-seven : (row : ℕ) (e : Entry) → row ≡ row21041 → Good row e
    → (length (encode e) ≡ length e.body) × ((length e.body ≡ 1) ⊎ (length e.body ≡ 7))
one-or-seven row e r (good-compact k c l b) = absurd (c r)
one-or-seven row e r (good-21041 k c l) =
    (ap (λ (x : List ℕ). length (x ++ e.body)) (opening-21041 e k), rw l (sia-is (byte_at e.body 0)))
one-or-seven row e r (good-extended k c l) = absurd (c r)

-- so many of the blocks have seven bytes
record Sevens (es : List Entry) : Type 0 where
  many : ℕ
  blocks : length (encodes es) ≡ length es + 6 * many
  bodies : length (body_bytes es) ≡ length (encodes es)

sevens : (row : ℕ) (es : List Entry) → row ≡ row21041 → any_bad row es ≡ false → Sevens es
unfolding any_bad encodes body_bytes
sevens row [] r h = record { many = 0; blocks = refl; bodies = refl }
sevens row (e ∷ es) r h =
    let p = or-false _ _ h in
    let w = one-or-seven row e r (good-so row e p.0) in
    let i = sevens row es r p.1 in
    let x = length-append (encode e) (encodes es) in
    let y = length-append e.body (body_bytes es) in
    ⊎_elim
    (λ one. record { many = i.many; blocks = omega (arith, w.0, one, i.blocks, x); bodies = omega (arith, w.0, i.bodies, x, y) })
    (λ seven. record {
      many = suc i.many;
      blocks = omega (arith, w.0, seven, i.blocks, x);
      bodies = omega (arith, w.0, i.bodies, x, y);
    })
    w.1

-- ## On other chips

light : (row : ℕ) (e : Entry) → (row ≡ row21041 → ⊥) → Good row e → 3 + length e.body ≤ 2 * length (encode e)
light row e r (good-compact k c l b) =
    let n = ap (λ (x : List ℕ). length (x ++ e.body)) (opening-compact e k) in omega (arith, n, l)
light row e r (good-21041 k c l) = absurd (r c)
light row e r (good-extended k c l) =
    let n = ap (λ (x : List ℕ). length (x ++ e.body)) (opening-extended e k) in omega (arith, n)

lights : (row : ℕ) (es : List Entry) → (row ≡ row21041 → ⊥) → any_bad row es ≡ false
    → 3 * length es + length (body_bytes es) ≤ 2 * length (encodes es)
unfolding any_bad encodes body_bytes
lights row [] r h = omega arith
lights row (e ∷ es) r h =
    let p = or-false _ _ h in
    omega (
      arith,
      light row e r (good-so row e p.0),
      lights row es r p.1,
      length-append (encode e) (encodes es),
      length-append e.body (body_bytes es),
    )

-- ## A leaf that fits

-- n blocks with t bytes of bodies, k of them of seven bytes and the others of one
most : (n k t : ℕ) → n ≤ 255 → t ≡ n + 6 * k → t ≤ 475 → 3 * n + t ≤ 1236
most n k t h e f = ⊎_elim (λ g. omega (arith, g)) (λ g. omega (arith, g)) (few k)
  where
    few : (k : ℕ) → (k ≤ 36) ⊎ (37 ≤ k)
    few k = go (leb k 36) refl
      where
        go : (b : Bool) → leb k 36 ≡ b → (k ≤ 36) ⊎ (37 ≤ k)
        go true e = inl (leb-true _ _ e)
        go false e = inr (leb-false _ _ e)

module _ (l : Layout) (p : Plain) (holds : cannot_hold p ≡ false) (fits : length (leaf_of p) ≤ leaf_room l)
    (few : length p.entries ≤ 255) where
  good : any_bad (row_of p.chip) p.entries ≡ false
  unfolding cannot_hold
  good = (or-false (any_bad (row_of p.chip) p.entries) _ holds).0

  short : 37 + length (encodes p.entries) ≤ image_length l.size
  short =
      let g = geometry l in
      omega (arith, (header-some (row_of p.chip)).0, leaf-length p, fits)

  parts-short : 3 * length p.entries + length (body_bytes p.entries) ≤ pick (eqb l.size large_size) 1236 364
  unfolding pick
  parts-short = go (eqb (row_of p.chip) row21041) refl (eqb l.size large_size) (rw (← length-by-size l.size) short)
    where
      go : (r : Bool) → eqb (row_of p.chip) row21041 ≡ r → (b : Bool) → 37 + length (encodes p.entries) ≤ pick b large_size small_size
          → 3 * length p.entries + length (body_bytes p.entries) ≤ pick b 1236 364
      go true er true h =
          let v = sevens (row_of p.chip) p.entries (eqb-true _ _ er) good in
          most (length p.entries) v.many (length (body_bytes p.entries)) few (v.bodies ∙ v.blocks) (omega (arith, v.bodies, h))
      go true er false h =
          let v = sevens (row_of p.chip) p.entries (eqb-true _ _ er) good in omega (arith, v.bodies, v.blocks, h)
      go false er true h = omega (arith, lights (row_of p.chip) p.entries (eqb-false _ _ er) good, h)
      go false er false h = omega (arith, lights (row_of p.chip) p.entries (eqb-false _ _ er) good, h)

pub longest : (form : Form) (l : Layout) (p : Plain) → SizedFields p → cannot_hold p ≡ false → length (leaf_of p) ≤ leaf_room l
    → length p.entries ≤ 255 → length (sheet_of form p) ≤ longest_sheet form l.size
unfolding longest_sheet pick
longest form l p z holds fits few = go (eqb l.size large_size) (parts-short l p holds fits few)
  where
    go : (b : Bool) → 3 * length p.entries + length (body_bytes p.entries) ≤ pick b 1236 364
        → length (sheet_of form p) ≤ shift form + pick b 1270 398
    go true h = omega (arith, h, sheet-length form p z)
    go false h = omega (arith, h, sheet-length form p z)
