-- What a sheet's length and sum give, and the leaf of what it means. Assumes nothing.
use Rattle.std.proofs.Common.{ℕ, zero, suc, ◌+◌, ◌-◌, ◌≡◌, ◌≤◌, ◌<◌, ◌∙◌, refl, sym, ap, true, false, List, [], ◌∷◌, ◌++◌}
use Rattle.std.proofs.Common.{length, drop, arith, eqb, eq-eqb, ne_eqb, ltb-false, lt-ltb, le-ltb, lit<}
use Rattle.std.proofs.Math.ListN.{set, length-append}
use Rattle.rom.specs.declared.Layout.{Layout}
use Rattle.rom.specs.Geometry.{leaves_end}
use Rattle.rom.proofs.Layouts.{geometry}
use Rattle.rom.specs.Bytes.{byte_at}
use Rattle.rom.specs.Store.{word_bytes, put, laid}
use Rattle.rom.proofs.First.{none_here}
use Rattle.rom.proofs.Truth.{or-false, pick_true, pick-false}
use Rattle.rom.proofs.Put.{put_one, put_two, put-put, put-length, laid_word}
use Rattle.format.specs.Chips.{row_of, row21140}
use Rattle.sheet.specs.Record.{Entry, Plain}
use Rattle.sheet.specs.declared.Form.{Form}
use Rattle.sheet.specs.declared.Form.TheVariants.{Narrow, Wide}
use Rattle.sheet.specs.Form.{shifted, largest, count_in}
use Rattle.sheet.specs.Sheet.{kinds_in, sizes_in, bodies_in, entries_from, plain_from, is_sheet}
use Rattle.sheet.specs.Image.{leaf_start, encodes, control_bytes, leaf_head_of, leaf_of}
use Rattle.sheet.specs.Write.{any_bad, cannot_hold, too_many_blocks, record_causes}
use Rattle.sheet.proofs.Sheets.{whole-sheet}
use Rattle.writer.specs.Inside.{Counted}
use Rattle.writer.specs.Inside.{Holds, Writable, Roomy}

-- ## Length and sum

sheet_counted : (form : Form) (s : List ℕ) → is_sheet form s ≡ true → Counted (count_in form s) (shifted form s)
sheet_counted form s is = let w = whole-sheet form s is in record { long = omega (arith, w.long, w.total) }

pub handed-on : (form : Form) (s : List ℕ) → is_sheet form s ≡ true → {n : ℕ} {t : List ℕ} → n ≡ count_in form s → t ≡ shifted form s
    → Counted n t
handed-on form s is en et = rw (en, et) (sheet_counted form s is)

-- 33 as the code finds it
module _ (form : Form) (s : List ℕ) (n : ℕ) (en : n ≡ count_in form s) where
  pub many : n ≤ largest form → 255 < n → too_many_blocks form s ≡ true
  many most h = go form en most
    where
      go : (f : Form) → n ≡ count_in f s → n ≤ largest f → too_many_blocks f s ≡ true
      go Narrow e m = absurd (omega arith)
      go Wide e m = unfold too_many_blocks in lt-ltb 255 (count_in Wide s) (omega arith)

  pub few : n ≤ 255 → too_many_blocks form s ≡ false
  few h = go form en
    where
      go : (f : Form) → n ≡ count_in f s → too_many_blocks f s ≡ false
      go Narrow e = unfold too_many_blocks in refl
      go Wide e = unfold too_many_blocks in le-ltb 255 (count_in Wide s) (omega arith)

-- ## The leaf's head

entries-from-length : (n : ℕ) (ks ss bs : List ℕ) → length (entries_from n ks ss bs) ≡ n
unfolding entries_from
entries-from-length zero ks ss bs = refl
entries-from-length (suc n) ks ss bs = ap suc (entries-from-length n (drop 2 ks) (drop 1 ss) (drop (byte_at ss 0) bs))

pub entry-count : (n : ℕ) (s : List ℕ) → length (plain_from n s).entries ≡ n
unfolding plain_from
entry-count n s = entries-from-length n (kinds_in s) (sizes_in n s) (bodies_in n s)

-- as it is written: the word, and what follows it
module _ (room : List ℕ) (word : ℕ) (fits : 4 ≤ length room) {one : List ℕ} (is : one ≡ laid room 0 (word_bytes word)) where
  word-put : one ≡ put room 0 (word_bytes word)
  word-put = is ∙ laid_word room 0 word (omega arith)

  head-room : 4 ≤ length one
  unfolding word_bytes
  head-room = omega (arith, ap length word-put ∙ put-length room 0 (word_bytes word) (omega arith))

  joined : (ys : List ℕ) → put one 2 ys ≡ put room 0 (word_bytes word ++ ys)
  unfolding word_bytes
  joined ys = ap (λ (r : List ℕ). put r 2 ys) word-put ∙ put-put room 0 (word_bytes word) ys (omega arith)

  module _ (p : Plain) {blocks : ℕ} (eb : length p.entries ≡ blocks) {row : ℕ} (er : row ≡ row_of p.chip) (ew : word ≡ p.connection) where
    pub head-21140 : row ≡ row21140 → {control : ℕ} → control ≡ p.control
        → (4 ≡ length (leaf_head_of p)) × (set (set one 2 control) 3 blocks ≡ put room 0 (leaf_head_of p))
    unfolding leaf_head_of control_bytes word_bytes
    head-21140 e {control} ec =
        let is-head : word_bytes word ++ (control ∷ blocks ∷ []) ≡ leaf_head_of p
        = rw (ew, ec, ← eb, pick_true (eqb (row_of p.chip) row21140) (p.control ∷ []) [] (eq-eqb _ row21140 (sym er ∙ e))) refl in
        (ap length is-head, put_two one 2 control blocks head-room ∙ joined (control ∷ blocks ∷ []) ∙ ap (put room 0) is-head)

    pub head-other : (row ≡ row21140 → ⊥) → (3 ≡ length (leaf_head_of p)) × (set one 2 blocks ≡ put room 0 (leaf_head_of p))
    unfolding leaf_head_of control_bytes word_bytes
    head-other e =
        let is-head : word_bytes word ++ (blocks ∷ []) ≡ leaf_head_of p
        = rw (ew, ← eb, pick-false (eqb (row_of p.chip) row21140) (p.control ∷ []) [] (ne_eqb _ row21140 (λ g. e (er ∙ g)))) refl in
        (ap length is-head, put_one one 2 blocks (omega (arith, head-room)) ∙ joined (blocks ∷ []) ∙ ap (put room 0) is-head)

-- ## What 7, 25 and 26 leave

module _ {l : Layout} {n : ℕ} {s out : List ℕ} (w : Writable l n s out) where
  held : (any_bad (row_of (plain_from n s).chip) (plain_from n s).entries ≡ false)
      × (leaf_start + length (leaf_of (plain_from n s)) ≤ leaves_end l)
  unfolding record_causes cannot_hold
  held =
      let a = none_here _ _ (lit< tt) w.number in
      let b = none_here _ _ (lit< tt) a.1 in
      let c = none_here _ _ (lit< tt) b.1 in (
        (or-false (any_bad (row_of (plain_from n s).chip) (plain_from n s).entries) _ b.0).0,
        ltb-false (leaves_end l) (leaf_start + length (leaf_of (plain_from n s))) c.0,
      )

  pub leaf-fits : length (leaf_of (plain_from n s)) ≤ leaves_end l - leaf_start
  leaf-fits = omega (arith, held.1)

  -- the rest of an image from the leaf's place on has room
  pub leaf-roomy : {room : List ℕ} → leaves_end l ≤ leaf_start + length room → Roomy n s room
  leaf-roomy h =
      let g = geometry l in
      record { good = held.0; head = omega arith; fits = omega (arith, leaf-fits) }

-- ## The leaf behind its head

module _ {n : ℕ} {s room one : List ℕ} (w : Roomy n s room) {at : ℕ} (ea : at ≡ length (leaf_head_of (plain_from n s)))
    (is : one ≡ put room 0 (leaf_head_of (plain_from n s))) {es : List Entry} (ee : es ≡ (plain_from n s).entries) where
  split : length (leaf_of (plain_from n s)) ≡ length (leaf_head_of (plain_from n s)) + length (encodes (plain_from n s).entries)
  unfolding leaf_of
  split = length-append (leaf_head_of (plain_from n s)) (encodes (plain_from n s).entries)

  pub leaf-holds : Holds one at es
  leaf-holds =
      let same : length one ≡ length room = ap length is
      ∙ put-length room 0 (leaf_head_of (plain_from n s)) (omega (arith, w.fits, split)) in
      rw ee (record { row = row_of (plain_from n s).chip; good = w.good; fits = omega (arith, w.fits, split, ea, same) })

  pub leaf-put : {two : List ℕ} → two ≡ put one at (encodes es) → two ≡ put room 0 (leaf_of (plain_from n s))
  unfolding leaf_of
  leaf-put e =
      let place : at ≡ 0 + length (leaf_head_of (plain_from n s)) = omega (arith, ea) in
      e ∙ rw (is, ee, place) (put-put room 0 (leaf_head_of (plain_from n s)) (encodes (plain_from n s).entries)
      (omega (arith, w.fits, split)))
