-- A sheet in the other form has the same counts and what follows them, and so the same meaning. Assumes nothing.
use Prim.Native.Nat.{ℕ, zero, suc, ◌+◌, ◌*◌, ◌≤◌}
use mathlib.Core.Path.{◌≡◌, refl, sym, ap, ap₂, ◌∙◌}
use mathlib.Core.Bool.{true, false, not}
use mathlib.Core.List.{List, [], ◌∷◌, ◌++◌}
use native.Mathlib.Omega.{arith}
use lib.ListN.{length, take, drop, length-append, length-drop}
use lib.Seq.{drop-drop, take-append_seam}
use lib.Dec.{lit<}
use borrow.Author.Tests.{eq-eqb, ltb-false, lt-ltb, le-ltb, not-false}
use Rattle.rom.specs.Bytes.{byte_at, word_at, Bytes}
use Rattle.rom.specs.Store.{word_bytes}
use Rattle.rom.proofs.First.{none_here}
use Rattle.rom.proofs.Lists.{word_of}
use Rattle.rom.proofs.Reached.{reached, end, stop, skip}
use Rattle.rom.proofs.Truth.{pick_true, met-not}
use Rattle.sheet.specs.declared.Form.{Form}
use Rattle.sheet.specs.declared.Form.TheVariants.{Narrow, Wide}
use Rattle.sheet.specs.Lists.{sum, over}
use Rattle.sheet.specs.Layout.{id_at, head_length}
use Rattle.sheet.specs.Form.{other, shift, shifted, count_in, total_in, counts_of}
use Rattle.sheet.specs.Sheet.{entries_from, plain_from, sheet_from, sizes_in, is_sheet}
use Rattle.sheet.specs.Convert.{Convertible, converted, too_large, convert_causes, convert_number, convert_length, converted_in}
use Rattle.sheet.specs.Claims.{OneForm, sheet_converted, ConversionReturns, ConversionMeans, ConverterOrder}
use Rattle.sheet.proofs.Sheets.{whole-sheet, counts-length, counts-back, sheet-long}

-- ## The order of a converter's causes

pub converter-order : ConverterOrder
unfolding convert_number convert_causes
converter-order from s room = (
  λ no-sheet. sym (reached (stop (ap not no-sheet))),
  λ is. (
    λ large. sym (reached (skip (met-not _ is) (stop large))),
    λ small. (
      λ short. sym (reached (skip (met-not _ is) (skip small (stop (lt-ltb room _ short))))),
      λ fits. sym (reached (skip (met-not _ is) (skip small (skip (le-ltb room _ fits) end)))),
    ),
  ),
)

pub convertible : (from : Form) (s : List ℕ) (room : ℕ) → convert_number from s room ≡ 0 → Convertible from s room
unfolding convert_number convert_causes
convertible from s room h =
    let a = none_here _ _ (lit< tt) h in
    let b = none_here _ _ (lit< tt) a.1 in
    let c = none_here _ _ (lit< tt) b.1 in
    record { is = not-false _ a.0; small = b.0; fits = ltb-false _ _ c.0 }

-- ## What a converted sheet has

abbrev pub content : Form → List ℕ → List ℕ
content from s = drop id_at (shifted from s)

pub count_kept : (from : Form) (s : List ℕ) → count_in (other from) (converted from s) ≡ count_in from s
unfolding converted word_bytes word_at
count_kept Narrow s = word_of (byte_at s 0)
count_kept Wide s = refl

total_kept : (from : Form) (s : List ℕ) → total_in (other from) (converted from s) ≡ total_in from s
unfolding converted word_bytes word_at
total_kept Narrow s = word_of (byte_at s 1)
total_kept Wide s = refl

content-kept : (from : Form) (s : List ℕ) → content (other from) (converted from s) ≡ content from s
unfolding converted word_bytes
content-kept Narrow s = refl
content-kept Wide s = refl

other-twice : (form : Form) → other (other form) ≡ form
other-twice Narrow = refl
other-twice Wide = refl

-- what stands behind the first two bytes does not go by them
behind-two : (k a b c d : ℕ) (t : List ℕ) → 2 ≤ k → drop k (a ∷ b ∷ t) ≡ drop k (c ∷ d ∷ t)
behind-two zero a b c d t h = absurd (omega arith)
behind-two (suc zero) a b c d t h = absurd (omega arith)
behind-two (suc (suc k)) a b c d t h = refl

other-two : (n a b c d : ℕ) (t : List ℕ) → plain_from n (a ∷ b ∷ t) ≡ plain_from n (c ∷ d ∷ t)
unfolding plain_from word_at
other-two n a b c d t =
    let sizes = behind-two (head_length + 2 * n) a b c d t (omega arith) in
    let bodies = behind-two (head_length + 3 * n) a b c d t (omega arith) in
    λ i. record {
      id = take 16 t;
      last_id = byte_at t 16;
      version = byte_at t 17;
      address = take 6 (drop 18 t);
      device = byte_at t 24;
      chip = word_at t 25;
      connection = word_at t 27;
      control = byte_at t 29;
      maker = take 2 (drop 30 t);
      entries = entries_from n (drop 32 t) (sizes i) (bodies i);
    }

pub same-content : (n : ℕ) (s t : List ℕ) → 2 ≤ length s → 2 ≤ length t → drop id_at s ≡ drop id_at t → plain_from n s ≡ plain_from n t
same-content n [] t h k e = absurd (omega arith)
same-content n (a ∷ []) t h k e = absurd (omega arith)
same-content n (a ∷ b ∷ s) [] h k e = absurd (omega arith)
same-content n (a ∷ b ∷ s) (c ∷ []) h k e = absurd (omega arith)
same-content n (a ∷ b ∷ s) (c ∷ d ∷ t) h k e = ap (λ (x : List ℕ). plain_from n (a ∷ b ∷ x)) e ∙ other-two n a b c d t

-- ## Its length, and that it is a sheet

pub converted-length : (from : Form) (s : List ℕ) → length (converted from s) ≡ (shift (other from) + 2) + length (content from s)
unfolding converted
converted-length from s =
    length-append (counts_of (other from) (count_in from s) (total_in from s)) (content from s)
    ∙ ap (λ (n : ℕ). n + length (content from s)) (counts-length (other from) (count_in from s) (total_in from s))

two-more : (form : Form) (s : List ℕ) → shift form + 2 ≤ length s → 2 ≤ length (shifted form s)
two-more form s h = omega (arith, length-drop (shift form) s)

module _ (from : Form) (s : List ℕ) (is : is_sheet from s ≡ true) where
  abbrev new : List ℕ
  new = converted from s

  old-long : shift from + 2 ≤ length s
  old-long = omega (arith, sheet-long from s is)

  new-long : shift (other from) + 2 ≤ length new
  new-long = omega (arith, converted-length from s)

  pub conversion-means : sheet_from (other from) new ≡ sheet_from from s
  conversion-means =
      ap (λ (n : ℕ). plain_from n (shifted (other from) new)) (count_kept from s)
      ∙ same-content (count_in from s) (shifted (other from) new) (shifted from s) (two-more (other from) new new-long)
      (two-more from s old-long) (content-kept from s)

  sizes-kept : (n : ℕ) → sizes_in n (shifted (other from) new) ≡ sizes_in n (shifted from s)
  sizes-kept n =
      let k : 32 + 2 * n + id_at ≡ head_length + 2 * n = omega arith in
      later n (shifted (other from) new) ∙ ap (drop (32 + 2 * n)) (content-kept from s) ∙ sym (later n (shifted from s))
    where
      later : (n : ℕ) (t : List ℕ) → drop (head_length + 2 * n) t ≡ drop (32 + 2 * n) (drop id_at t)
      later n t = let k : head_length + 2 * n ≡ id_at + (32 + 2 * n) = omega arith in
          ap (λ (m : ℕ). drop m t) k ∙ sym (drop-drop (32 + 2 * n) id_at t)

  pub converted-is : is_sheet (other from) new ≡ true
  unfolding is_sheet
  converted-is =
      let w = whole-sheet from s is in
      let n : length new ≡ shift (other from) + (head_length + 3 * count_in (other from) new + total_in (other from) new)
      = omega (arith, converted-length from s, length-drop id_at (shifted from s), w.long, count_kept from s, total_kept from s) in
      let t : total_in (other from) new ≡ sum (take (count_in (other from) new)
      (sizes_in (count_in (other from) new) (shifted (other from) new)))
      = total_kept from s ∙ w.total
      ∙ ap (λ (x : List ℕ). sum (take (count_in from s) x)) (sym (sizes-kept (count_in from s)))
      ∙ ap (λ (k : ℕ). sum (take k (sizes_in k (shifted (other from) new)))) (sym (count_kept from s)) in
      simp (eq-eqb _ _ n, eq-eqb _ _ t)

  -- and its own conversion is the sheet
  pub converted-back : Bytes s → converted (other from) new ≡ s
  unfolding converted
  converted-back by =
      (λ i. counts_of (other (other from)) (count_kept from s i) (total_kept from s i) ++ content-kept from s i)
      ∙ ap (λ (f : Form). counts_of f (count_in from s) (total_in from s) ++ content from s) (other-twice from)
      ∙ counts-back from s by old-long

-- ## A sheet has one form

-- a narrow total is the high byte of a wide count
pub one_form : OneForm
unfolding word_at
one_form s narrow wide =
    let n = whole-sheet Narrow s narrow in
    let w = whole-sheet Wide s wide in
    omega (arith, n.long, w.long, length-drop 2 s)

-- ## The promises

-- what stands at the buffer's front
pub front-is : (from : Form) (s first : List ℕ) → convert_number from s (length first) ≡ 0
    → sheet_converted from s first ≡ converted from s
unfolding convert_length converted_in over
front-is from s first h =
    ap₂ take (pick_true _ _ _ (eq-eqb _ _ h)) (pick_true _ _ _ (eq-eqb _ _ h)) ∙ take-append_seam (converted from s) _

pub conversion-keeps : ConversionMeans
conversion-keeps from s first h =
    let is = (convertible from s (length first) h).is in
    rw (front-is from s first h) (converted-is from s is, conversion-means from s is)

-- a byte is never too large, nor what was narrowed
small-back : (from : Form) (s : List ℕ) → Bytes s → too_large from s ≡ false → too_large (other from) (converted from s) ≡ false
unfolding too_large
small-back Narrow s by e =
    let n = count_kept Narrow s in
    let t = total_kept Narrow s in
    simp (
      le-ltb 255 (count_in Wide (converted Narrow s)) (omega (arith, n, by 0)),
      le-ltb 255 (total_in Wide (converted Narrow s)) (omega (arith, t, by 1)),
    )
small-back Wide s by e = refl

pub conversion-returns : ConversionReturns
unfolding convert_length converted_in
conversion-returns from s first buffer by h enough =
    let c = convertible from s (length first) h in
    let back = converted-back from s c.is by in
    let n : convert_number (other from) (converted from s) (length buffer) ≡ 0
    = (((converter-order (other from) (converted from s) (length buffer)).1 (converted-is from s c.is)).1
    (small-back from s by c.small)).1
    (rw back enough) in
    rw (front-is from s first h)
    (n, pick_true _ _ _ (eq-eqb _ _ n) ∙ ap length back, pick_true _ _ _ (eq-eqb _ _ n) ∙ ap (over buffer) back)
