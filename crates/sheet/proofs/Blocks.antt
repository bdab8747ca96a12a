-- The cut of an encoding, and the encoding of a cut: one block by its form, then many by induction. Assumes nothing.
use Prim.Native.Nat.{ℕ, zero, suc, ◌+◌, ◌-◌, ◌%◌, ◌≤◌, ◌<◌}
use mathlib.Core.Path.{◌≡◌, refl, sym, ap, ap₂, ◌∙◌}
use mathlib.Core.Bool.{Bool, true, false, ◌&&◌, ◌||◌, not}
use mathlib.Core.List.{List, [], ◌∷◌, ◌++◌, map, append_assoc}
use native.Mathlib.Omega.{arith}
use lib.ListN.{length, take, drop, length-append, length-drop, get_or-append}
use lib.Seq.{take_at, drop_at, take-add, take-append_seam, length-take-le, get_or-take}
use lib.Dec.{eqb, leb, ltb, lit<}
use borrow.Author.Tests.{eqb-true, eqb-false, leb-true, leb-false, ltb-false, eq-eqb, ne_eqb, lt-leb, le-ltb, not-false}
use Rattle.rom.specs.Bytes.{pick, byte_at, bit, Bytes}
use Rattle.rom.specs.Refusal.{first_met}
use Rattle.rom.proofs.First.{none_here}
use Rattle.rom.proofs.Truth.{true-false, or-false}
use Rattle.format.specs.Chips.{row21041, kind_compact, kind21041}
use Rattle.format.specs.Block.{is_extended, length_of, sia_size, size_of, kind_of, causes, the_later_version, refusal_of}
use Rattle.block.proofs.Whole.{BlockForm, extended-form, compact-form, form-21041}
use Rattle.leaf.specs.Leaf.{cut, block_causes}
use Rattle.leaf.proofs.Cuts.{first-accepted}
use Rattle.sheet.specs.Record.{Entry}
use Rattle.sheet.specs.Image.{is_whole, opening_of, encode, encodes, opening_length, body_of, entry_from, sizes}
use Rattle.sheet.specs.Write.{is_other_family, is_bad_body, is_bad, any_bad}
use Rattle.rom.proofs.Lists.{bytes_drop}

-- ## An entry that an image of a chip can hold

pub data Good (row : ℕ) (e : Entry) : Type 0 where
  good-compact : e.kind ≡ kind_compact → (row ≡ row21041 → ⊥) → length e.body ≡ 4 → byte_at e.body 0 < 128 → Good row e
  good-21041 : e.kind ≡ kind21041 → row ≡ row21041 → length e.body ≡ sia_size (byte_at e.body 0) → Good row e
  good-extended : e.kind < kind_compact → (row ≡ row21041 → ⊥) → length e.body ≤ 126 → Good row e

pub so-good : (row : ℕ) (e : Entry) → Good row e → is_bad row e ≡ false
unfolding is_bad is_other_family is_bad_body pick
so-good row e (good-compact k c l b) =
    simp (
      le-ltb 257 e.kind (omega arith),
      ne_eqb row 0 c,
      eq-eqb e.kind 256 k,
      ne_eqb e.kind 257 (omega arith),
      eq-eqb (length e.body) 4 l,
      lt-leb 128 (byte_at e.body 0) b,
    )
so-good row e (good-21041 k c l) =
    simp (
      le-ltb 257 e.kind (omega arith),
      eq-eqb row 0 c,
      ne_eqb e.kind 256 (omega arith),
      eq-eqb e.kind 257 k,
      eq-eqb (length e.body) (sia_size (byte_at e.body 0)) l,
    )
so-good row e (good-extended k c l) =
    simp (
      le-ltb 257 e.kind (omega arith),
      ne_eqb row 0 c,
      ne_eqb e.kind 256 (omega arith),
      ne_eqb e.kind 257 (omega arith),
      le-ltb 126 (length e.body) l,
    )

pub good-so : (row : ℕ) (e : Entry) → is_bad row e ≡ false → Good row e
unfolding is_bad is_other_family is_bad_body pick
good-so row e h =
    let p = or-false _ _ h in
    let q = or-false _ _ p.1 in
    go (eqb row 0) refl (eqb e.kind 256) refl (eqb e.kind 257) refl (ltb-false _ _ p.0) q.0 q.1
  where
    go : (r : Bool) → eqb row 0 ≡ r → (a : Bool) → eqb e.kind 256 ≡ a → (b : Bool) → eqb e.kind 257 ≡ b → e.kind ≤ 257
        → pick r (not b) b ≡ false
        → pick a (not (eqb (length e.body) 4) || leb 128 (byte_at e.body 0))
        (pick b (not (eqb (length e.body) (sia_size (byte_at e.body 0)))) (ltb 126 (length e.body))) ≡ false
        → Good row e
    go true er true ea true eb m f g = absurd (omega (arith, eqb-true e.kind 256 ea, eqb-true e.kind 257 eb))
    go false er true ea true eb m f g = absurd (omega (arith, eqb-true e.kind 256 ea, eqb-true e.kind 257 eb))
    go true er false ea true eb m f g = good-21041 (eqb-true _ _ eb) (eqb-true _ _ er) (eqb-true _ _ (not-false _ g))
    go false er true ea false eb m f g =
        let y = or-false _ _ g in
        good-compact (eqb-true _ _ ea) (eqb-false _ _ er) (eqb-true _ _ (not-false _ y.0)) (leb-false _ _ y.1)
    go false er false ea false eb m f g =
        let x = eqb-false e.kind 256 ea in
        let y = eqb-false e.kind 257 eb in
        good-extended (omega (arith, x, y)) (eqb-false _ _ er) (ltb-false _ _ g)
    go true er true ea false eb m f g = true-false f
    go true er false ea false eb m f g = true-false f
    go false er false ea true eb m f g = true-false f

-- ## The bytes before a body

module _ (e : Entry) where
  pub opening-compact : e.kind ≡ kind_compact → opening_of e ≡ []
  unfolding opening_of is_whole pick
  opening-compact k = simp (eq-eqb e.kind 256 k)

  pub opening-21041 : e.kind ≡ kind21041 → opening_of e ≡ []
  unfolding opening_of is_whole pick
  opening-21041 k = simp (ne_eqb e.kind 256 (omega arith), eq-eqb e.kind 257 k)

  pub opening-extended : e.kind < kind_compact → opening_of e ≡ (128 + (1 + length e.body)) ∷ e.kind ∷ []
  unfolding opening_of is_whole pick
  opening-extended k = simp (ne_eqb e.kind 256 (omega arith), ne_eqb e.kind 257 (omega arith))

-- a block's body, by its form
module _ {row : ℕ} {s : List ℕ} {kind size : ℕ} where
  pub whole-body : BlockForm row s false kind size → body_of row s ≡ take size s
  unfolding body_of opening_length pick
  whole-body f = simp (f.is-extended, f.is-size)

  pub extended-body : BlockForm row s true kind size → body_of row s ≡ drop 2 (take size s)
  unfolding body_of opening_length pick
  extended-body f = simp (f.is-extended, f.is-size)

pub form-of-21041 : (row : ℕ) (s : List ℕ) → row ≡ row21041 → BlockForm row s false kind21041 (sia_size (byte_at s 0))
form-of-21041 row s h = rw h (form-21041 s)

-- ## The cut of one encoding

-- what is cut off s is the entry e
pub record CutAs (row : ℕ) (s : List ℕ) (e : Entry) : Type 0 where
  pub size : size_of row s ≡ length (encode e)
  pub kind : kind_of row s ≡ e.kind
  pub body : body_of row s ≡ e.body

first_of_lem : (b r : List ℕ) → 0 < length b → byte_at (b ++ r) 0 ≡ byte_at b 0
first_of_lem b r h = get_or-append b r 0 0 h

-- a form without an opening: the body is the whole block
cut-whole : (row : ℕ) (e : Entry) (r : List ℕ) (size : ℕ) → BlockForm row (e.body ++ r) false e.kind size → opening_of e ≡ []
    → size ≡ length e.body → CutAs row (encode e ++ r) e
cut-whole row e r size f o l =
    rw o
    (record {
      size = f.is-size ∙ l ∙ ap (λ (x : List ℕ). length (x ++ e.body)) (sym o);
      kind = f.is-kind;
      body = whole-body f ∙ take_at e.body r size (sym l);
    })

pub sia-some : (n : ℕ) → 0 < sia_size n
unfolding sia_size pick
sia-some n = go (bit 6 n)
  where
    go : (t : Bool) → 0 < pick t 7 1
    go true = omega arith
    go false = omega arith

pub cut-one : (row : ℕ) (e : Entry) (r : List ℕ) → Good row e → CutAs row (encode e ++ r) e
cut-one row e r (good-compact k c l b) =
    let x = first_of_lem e.body r (omega arith) in
    let f = compact-form row (e.body ++ r) c (omega (arith, x)) in
    cut-whole row e r 4 (rw k f) (opening-compact e k) (sym l)
cut-one row e r (good-21041 k c l) =
    let some = sia-some (byte_at e.body 0) in
    let x = first_of_lem e.body r (omega arith) in
    let f = form-of-21041 row (e.body ++ r) c in
    cut-whole row e r _ (rw k f) (opening-21041 e k) (ap sia_size x ∙ sym l)
cut-one row e r (good-extended k c l) =
    let o = opening-extended e k in
    let f = extended-form row ((128 + (1 + length e.body)) ∷ e.kind ∷ (e.body ++ r)) c (omega arith) in
    let z : 1 + length_of ((128 + (1 + length e.body)) ∷ e.kind ∷ (e.body ++ r)) ≡ suc (suc (length e.body))
    = unfold length_of in omega arith in
    rw o
    (record {
      size = f.is-size ∙ z ∙ ap (λ (x : List ℕ). length (x ++ e.body)) (sym o);
      kind = f.is-kind;
      body =
          extended-body f ∙ ap (λ (m : ℕ). drop 2 (take m ((128 + (1 + length e.body)) ∷ e.kind ∷ (e.body ++ r)))) z
          ∙ take-append_seam e.body r;
    })

-- ## The encoding of one cut

-- what acceptance says of the block that starts s
pub record WholeBlock (row : ℕ) (s : List ℕ) : Type 0 where
  pub fits : size_of row s ≤ length s
  pub good : is_bad row (entry_from row s) ≡ false
  pub back : encode (entry_from row s) ≡ take (size_of row s) s

first-take : (n : ℕ) (s : List ℕ) → 0 < n → byte_at (take n s) 0 ≡ byte_at s 0
first-take n s h = get_or-take n s 0 0 h

module _ (row : ℕ) (s : List ℕ) (fits : size_of row s ≤ length s) where
  whole-compact : (row ≡ row21041 → ⊥) → byte_at s 0 < 128 → WholeBlock row s
  whole-compact c b =
      let f = compact-form row s c b in
      let n = f.is-size in
      let body = whole-body f in
      let l : length (body_of row s) ≡ 4 = ap length body ∙ length-take-le 4 s (omega (arith, n)) in
      let first : byte_at (body_of row s) 0 ≡ byte_at s 0 = ap (λ (x : List ℕ). byte_at x 0) body ∙ first-take 4 s (omega arith) in
      record {
        fits = fits;
        good = so-good row (entry_from row s) (good-compact f.is-kind c l (omega (arith, first)));
        back =
            ap (λ (x : List ℕ). x ++ body_of row s) (opening-compact (entry_from row s) f.is-kind) ∙ body
            ∙ ap (λ (x : ℕ). take x s) (sym n);
      }

  whole-21041 : row ≡ row21041 → WholeBlock row s
  whole-21041 c =
      let f = form-of-21041 row s c in
      let n = f.is-size in
      let body = whole-body f in
      let some = sia-some (byte_at s 0) in
      let first : byte_at (body_of row s) 0 ≡ byte_at s 0 = ap (λ (x : List ℕ). byte_at x 0) body ∙ first-take _ s some in
      let l : length (body_of row s) ≡ sia_size (byte_at (body_of row s) 0)
      = ap length body ∙ length-take-le _ s (omega (arith, n)) ∙ ap sia_size (sym first) in
      record {
        fits = fits;
        good = so-good row (entry_from row s) (good-21041 f.is-kind c l);
        back =
            ap (λ (x : List ℕ). x ++ body_of row s) (opening-21041 (entry_from row s) f.is-kind) ∙ body ∙ ap (λ (x : ℕ). take x s) (sym n);
      }

whole-extended : (row : ℕ) (s : List ℕ) → Bytes s → size_of row s ≤ length s → (row ≡ row21041 → ⊥) → 128 ≤ byte_at s 0
    → (byte_at s 0 % 128 ≡ 0 → ⊥) → WholeBlock row s
unfolding length_of
whole-extended row [] by fits c b z = absurd (omega arith)
whole-extended row (x ∷ []) by fits c b z =
    let n = (extended-form row (x ∷ []) c b).is-size in absurd (omega (arith, z, n))
whole-extended row (x ∷ y ∷ s) by fits c b z =
    let f = extended-form row (x ∷ y ∷ s) c b in
    let low : x < 256 = by 0 in
    let n : size_of row (x ∷ y ∷ s) ≡ suc (suc (x % 128 - 1)) = f.is-size ∙ omega (arith, z) in
    let k = f.is-kind in
    let small : kind_of row (x ∷ y ∷ s) < 256 = rw k (by 1) in
    let body : body_of row (x ∷ y ∷ s) ≡ take (x % 128 - 1) s
    = extended-body f ∙ ap (λ (m : ℕ). drop 2 (take m (x ∷ y ∷ s))) (sym f.is-size ∙ n) in
    let l : length (body_of row (x ∷ y ∷ s)) ≡ x % 128 - 1 = ap length body ∙ length-take-le (x % 128 - 1) s (omega (arith, n)) in
    let first : 128 + (1 + length (body_of row (x ∷ y ∷ s))) ≡ x = omega (arith, z, l) in
    record {
      fits = fits;
      good = so-good row (entry_from row (x ∷ y ∷ s)) (good-extended small c (omega (arith, l)));
      back = ap (λ (w : List ℕ). w ++ body_of row (x ∷ y ∷ s)) (opening-extended (entry_from row (x ∷ y ∷ s)) small)
          ∙ ap₂ (λ (u v : ℕ). u ∷ v ∷ body_of row (x ∷ y ∷ s)) first k ∙ ap (λ (w : List ℕ). x ∷ y ∷ w) body
          ∙ ap (λ (m : ℕ). take m (x ∷ y ∷ s)) (sym n);
    }

pub whole-block : (row level : ℕ) (s : List ℕ) → Bytes s → refusal_of row level s ≡ 0 → WholeBlock row s
unfolding refusal_of causes is_extended length_of
whole-block row level s by h =
    let a = none_here _ _ (lit< tt) h in
    let b = none_here _ _ (lit< tt) a.1 in
    go (eqb row 0) refl (leb 128 (byte_at s 0)) refl (ltb-false _ _ a.0) (or-false _ _ b.0).0
  where
    go : (r : Bool) → eqb row 0 ≡ r → (t : Bool) → leb 128 (byte_at s 0) ≡ t → size_of row s ≤ length s
        → ((not r && t) && eqb (byte_at s 0 % 128) 0) ≡ false → WholeBlock row s
    go true er t et f z = whole-21041 row s f (eqb-true _ _ er)
    go false er true et f z = whole-extended row s by f (eqb-false _ _ er) (leb-true _ _ et) (eqb-false _ _ z)
    go false er false et f z = whole-compact row s f (eqb-false _ _ er) (leb-false _ _ et)

-- ## Many blocks

pub same-entry : (row : ℕ) (s : List ℕ) (e : Entry) → CutAs row s e → entry_from row s ≡ e
same-entry row s e c = λ i. record { kind = c.kind i; body = c.body i }

-- the cut of encodings gives the entries back
pub cut-encodes : (row : ℕ) (es : List Entry) (r : List ℕ) → any_bad row es ≡ false
    → (map (entry_from row) (cut row (length es) (encodes es ++ r)) ≡ es)
    × (sizes row (cut row (length es) (encodes es ++ r)) ≡ length (encodes es))
unfolding cut sizes encodes any_bad
cut-encodes row [] r h = (refl, refl)
cut-encodes row (e ∷ es) r h =
    let p = or-false _ _ h in
    let c = cut-one row e (encodes es ++ r) (good-so row e p.0) in
    let next : drop (size_of row (encode e ++ (encodes es ++ r))) (encode e ++ (encodes es ++ r)) ≡ encodes es ++ r
    = drop_at (encode e) (encodes es ++ r) _ (sym c.size) in
    let ih = cut-encodes row es r p.1 in
    rw (append_assoc (encode e) (encodes es) r, next) (
      ap₂ (λ (x : Entry) (xs : List Entry). x ∷ xs) (same-entry row _ e c) ih.0,
      ap₂ (λ (x y : ℕ). x + y) c.size ih.1 ∙ sym (length-append (encode e) (encodes es)),
    )

pub entries-length : (row n : ℕ) (s : List ℕ) → length (map (entry_from row) (cut row n s)) ≡ n
unfolding cut
entries-length row zero s = refl
entries-length row (suc n) s = ap suc (entries-length row n (drop (size_of row s) s))

-- the encodings of accepted blocks are the bytes that were cut
pub record Encoded (row n : ℕ) (s : List ℕ) : Type 0 where
  pub fits : sizes row (cut row n s) ≤ length s
  pub good : any_bad row (map (entry_from row) (cut row n s)) ≡ false
  pub back : encodes (map (entry_from row) (cut row n s)) ≡ take (sizes row (cut row n s)) s

pub encodes-cut : (row level n : ℕ) (s : List ℕ) → Bytes s → first_met (block_causes the_later_version row level (cut row n s)) ≡ 0
    → Encoded row n s
unfolding cut sizes encodes any_bad
encodes-cut row level zero s by h = record { fits = omega arith; good = refl; back = refl }
encodes-cut row level (suc n) s by h =
    let z = first-accepted row level s (cut row n (drop (size_of row s) s)) h in
    let w = whole-block row level s by z.0 in
    let ih = encodes-cut row level n (drop (size_of row s) s) (bytes_drop (size_of row s) s by) z.1 in
    record {
      fits = omega (arith, w.fits, ih.fits, length-drop (size_of row s) s);
      good = simp w.good ih.good;
      back = ap₂ (λ (x y : List ℕ). x ++ y) w.back ih.back ∙ sym (take-add (size_of row s) _ s);
    }
