-- The sheet of a record means that record, and a sheet is the sheet of what it means: heads are spelled out, the three parts
-- go by induction over the entries. Assumes nothing.
use Prim.Native.Nat.{ℕ, zero, suc, ◌+◌, ◌*◌, ◌/◌, ◌%◌, ◌≤◌}
use mathlib.Core.Path.{◌≡◌, refl, sym, ap, ap₂, ◌∙◌}
use mathlib.Core.Bool.{true}
use mathlib.Core.List.{List, [], ◌∷◌, ◌++◌, append_assoc, append-nil}
use native.Mathlib.Omega.{arith}
use lib.ListN.{length, take, drop, length-append, length-drop, take-append-drop}
use lib.Seq.{take_at, drop_at, take_all, take-append_seam, drop-append_seam, drop-drop, take-add, length-take-le}
use lib.Dec.{eqb}
use borrow.Author.Tests.{eqb-true, eq-eqb}
use Rattle.rom.specs.Bytes.{byte_at, word_at, Bytes}
use Rattle.rom.proofs.Truth.{and-true}
use Rattle.rom.specs.Store.{word_bytes}
use Rattle.sheet.specs.Lists.{sum}
use Rattle.sheet.specs.Layout.{head_length}
use Rattle.sheet.specs.declared.Form.{Form}
use Rattle.sheet.specs.declared.Form.TheVariants.{Narrow, Wide}
use Rattle.sheet.specs.Form.{shift, shifted, count_in, total_in, counts_of}
use Rattle.sheet.specs.Record.{Entry, Plain}
use Rattle.sheet.specs.Sheet.{head_of, kind_bytes, size_bytes, body_bytes, parts_of, sheet_of, kinds_in, sizes_in, bodies_in}
use Rattle.sheet.specs.Sheet.{entries_from, plain_from, sheet_from, is_sheet}
use Rattle.rom.proofs.Lists.{word_of, word_back, bytes_drop, spell, spelled, spelled-whole}

-- ## Records whose parts have their lengths

pub record SizedFields (p : Plain) : Type 0 where
  pub id : length p.id ≡ 16
  pub address : length p.address ≡ 6
  pub maker : length p.maker ≡ 2

-- the record with those parts spelled out
unfoldable pub spelled_out : Plain → Plain
spelled_out p = record {
  id = spell 0 16 p.id;
  last_id = p.last_id;
  version = p.version;
  address = spell 0 6 p.address;
  device = p.device;
  chip = p.chip;
  connection = p.connection;
  control = p.control;
  maker = spell 0 2 p.maker;
  entries = p.entries;
}

pub spelled_out_lem : (p : Plain) → SizedFields p → p ≡ spelled_out p
unfolding spelled_out
spelled_out_lem p z = λ i. record {
  id = spelled-whole 16 p.id z.id i;
  last_id = p.last_id;
  version = p.version;
  address = spelled-whole 6 p.address z.address i;
  device = p.device;
  chip = p.chip;
  connection = p.connection;
  control = p.control;
  maker = spelled-whole 2 p.maker z.maker i;
  entries = p.entries;
}

-- ## The three parts of entries

-- each with more behind it, they give the entries back
pub entries-of : (es : List Entry) (x y z : List ℕ)
    → entries_from (length es) (kind_bytes es ++ x) (size_bytes es ++ y) (body_bytes es ++ z) ≡ es
unfolding entries_from kind_bytes size_bytes body_bytes word_bytes word_at
entries-of [] x y z = refl
entries-of (e ∷ es) x y z =
    let k = word_of e.kind in
    let b : take (length e.body) (e.body ++ (body_bytes es ++ z)) ≡ e.body = take-append_seam e.body _ in
    let r : drop (length e.body) (e.body ++ (body_bytes es ++ z)) ≡ body_bytes es ++ z = drop-append_seam e.body _ in
    rw (append_assoc e.body (body_bytes es) z, r)
    (ap₂ (λ (x : Entry) (xs : List Entry). x ∷ xs) (λ i. record { kind = k i; body = b i }) (entries-of es x y z))

pub kind-length : (es : List Entry) → length (kind_bytes es) ≡ 2 * length es
unfolding kind_bytes word_bytes
kind-length [] = refl
kind-length (e ∷ es) = omega (arith, kind-length es)

pub size-length : (es : List Entry) → length (size_bytes es) ≡ length es
unfolding size_bytes
size-length [] = refl
size-length (e ∷ es) = ap suc (size-length es)

pub size-sum : (es : List Entry) → sum (size_bytes es) ≡ length (body_bytes es)
unfolding size_bytes body_bytes sum
size-sum [] = refl
size-sum (e ∷ es) = ap (λ (n : ℕ). length e.body + n) (size-sum es) ∙ sym (length-append e.body (body_bytes es))

-- what the parts of entries are, read from three parts that are long enough
pub record Read (n : ℕ) (ks ss bs : List ℕ) : Type 0 where
  pub count : length (entries_from n ks ss bs) ≡ n
  pub kinds : kind_bytes (entries_from n ks ss bs) ≡ take (2 * n) ks
  pub sizes : size_bytes (entries_from n ks ss bs) ≡ take n ss
  pub bodies : body_bytes (entries_from n ks ss bs) ≡ take (sum (take n ss)) bs

two-kinds : (n : ℕ) (ks : List ℕ) → 2 * suc n ≤ length ks → byte_at ks 0 ∷ byte_at ks 1 ∷ take (2 * n) (drop 2 ks) ≡ take (2 * suc n) ks
two-kinds n [] h = absurd (omega arith)
two-kinds n (x ∷ []) h = absurd (omega arith)
two-kinds n (x ∷ y ∷ ks) h =
    let m : suc (suc (2 * n)) ≡ 2 * suc n = omega arith in ap (λ (k : ℕ). take k (x ∷ y ∷ ks)) m

pub entries-read : (n : ℕ) (ks ss bs : List ℕ) → Bytes ks → 2 * n ≤ length ks → n ≤ length ss → sum (take n ss) ≤ length bs
    → Read n ks ss bs
unfolding entries_from kind_bytes size_bytes body_bytes sum word_at
entries-read zero ks ss bs by k s b = record { count = refl; kinds = refl; sizes = refl; bodies = refl }
entries-read (suc n) ks [] bs by k s b = absurd (omega arith)
entries-read (suc n) ks (x ∷ ss) bs by k s b =
    let ih = entries-read n (drop 2 ks) ss (drop x bs) (bytes_drop 2 ks by) (omega (arith, length-drop 2 ks)) (omega arith)
    (omega (arith, length-drop x bs)) in
    record {
      count = ap suc ih.count;
      kinds = ap₂ (λ (a b : List ℕ). a ++ b) (word_back (byte_at ks 0) (byte_at ks 1) (by 0)) ih.kinds ∙ two-kinds n ks k;
      sizes = ap₂ (λ (a : ℕ) (b : List ℕ). a ∷ b) (length-take-le x bs (omega arith)) ih.sizes;
      bodies = ap (λ (l : List ℕ). take x bs ++ l) ih.bodies ∙ sym (take-add x (sum (take n ss)) bs);
    }

-- ## The sheet of a record

pub head-length : (p : Plain) → SizedFields p → length (head_of p) ≡ 32
unfolding head_of word_bytes
head-length p z = simp length-append (omega (arith, z.id, z.address, z.maker))

-- behind any two bytes
abbrev behind_counts : ℕ → ℕ → Plain → List ℕ
behind_counts x y p = x ∷ y ∷ (head_of p ++ parts_of p.entries)

module _ (p : Plain) (z : SizedFields p) (x y : ℕ) where
  behind-length : length (behind_counts x y p) ≡ head_length + 3 * length p.entries + length (body_bytes p.entries)
  unfolding parts_of
  behind-length = simp length-append (omega (arith, head-length p z, kind-length p.entries, size-length p.entries))

  at-parts : kinds_in (behind_counts x y p) ≡ parts_of p.entries
  at-parts = drop_at (head_of p) _ 32 (head-length p z)

  at-sizes : sizes_in (length p.entries) (behind_counts x y p) ≡ size_bytes p.entries ++ body_bytes p.entries
  unfolding parts_of
  at-sizes =
      sym (drop-drop (2 * length p.entries) head_length (behind_counts x y p)) ∙ ap (drop (2 * length p.entries)) at-parts
      ∙ drop_at (kind_bytes p.entries) _ _ (kind-length p.entries)

  at-bodies : bodies_in (length p.entries) (behind_counts x y p) ≡ body_bytes p.entries
  at-bodies =
      let n = length p.entries in
      let m : head_length + 3 * length p.entries ≡ head_length + 2 * length p.entries + length p.entries = omega arith in
      ap (λ (k : ℕ). drop k (behind_counts x y p)) m
      ∙ sym (drop-drop (length p.entries) (head_length + 2 * length p.entries) (behind_counts x y p)) ∙ ap
      (drop (length p.entries)) at-sizes
      ∙ drop_at (size_bytes p.entries) _ _ (size-length p.entries)

  at-entries : entries_from (length p.entries) (kinds_in (behind_counts x y p)) (sizes_in (length p.entries) (behind_counts x y p))
      (bodies_in (length p.entries) (behind_counts x y p)) ≡ p.entries
  unfolding parts_of
  at-entries =
      (λ i. entries_from (length p.entries) (at-parts i) (at-sizes i) ((at-bodies ∙ sym (append-nil (body_bytes p.entries))) i))
      ∙ entries-of p.entries _ _ []

  at_sum : length (body_bytes p.entries) ≡ sum (take (length p.entries) (sizes_in (length p.entries) (behind_counts x y p)))
  at_sum =
      sym (size-sum p.entries)
      ∙ ap sum (sym (ap (take (length p.entries)) at-sizes ∙ take_at (size_bytes p.entries) _ _ (size-length p.entries)))

-- the head of a sheet whose record is spelled out computes
head-means : (p : Plain) (x y : ℕ) → entries_from (length p.entries) (kinds_in (behind_counts x y (spelled_out p)))
    (sizes_in (length p.entries) (behind_counts x y (spelled_out p)))
    (bodies_in (length p.entries) (behind_counts x y (spelled_out p))) ≡ p.entries
    → plain_from (length p.entries) (behind_counts x y (spelled_out p)) ≡ spelled_out p
unfolding plain_from spelled_out head_of word_bytes word_at spell
head-means p x y e =
    let c = word_of p.chip in
    let d = word_of p.connection in
    λ i. record {
      id = spell 0 16 p.id;
      last_id = p.last_id;
      version = p.version;
      address = spell 0 6 p.address;
      device = p.device;
      chip = c i;
      connection = d i;
      control = p.control;
      maker = spell 0 2 p.maker;
      entries = e i;
    }

behind-means : (p : Plain) (x y : ℕ) → SizedFields p → plain_from (length p.entries) (behind_counts x y p) ≡ p
unfolding spelled_out
behind-means p x y z =
    let e = spelled_out_lem p z in
    let w : SizedFields (spelled_out p) = rw (← e) z in
    ap (λ (q : Plain). plain_from (length q.entries) (behind_counts x y q)) e ∙ head-means p x y (at-entries (spelled_out p) w x y) ∙ sym e

-- ## In each form

pub counts-length : (form : Form) (n t : ℕ) → length (counts_of form n t) ≡ shift form + 2
unfolding word_bytes
counts-length Narrow n t = refl
counts-length Wide n t = refl

pub at_count : (form : Form) (p : Plain) → count_in form (sheet_of form p) ≡ length p.entries
unfolding sheet_of word_bytes word_at
at_count Narrow p = refl
at_count Wide p = word_of (length p.entries)

pub at-total : (form : Form) (p : Plain) → total_in form (sheet_of form p) ≡ length (body_bytes p.entries)
unfolding sheet_of word_bytes word_at
at-total Narrow p = refl
at-total Wide p = word_of (length (body_bytes p.entries))

-- the two bytes before the ID bytes
abbrev lowest : Form → Plain → ℕ
lowest Narrow p = length p.entries
lowest Wide p = length (body_bytes p.entries) % 256

abbrev second : Form → Plain → ℕ
second Narrow p = length (body_bytes p.entries)
second Wide p = length (body_bytes p.entries) / 256

at-shifted : (form : Form) (p : Plain) → shifted form (sheet_of form p) ≡ behind_counts (lowest form p) (second form p) p
unfolding sheet_of word_bytes
at-shifted Narrow p = refl
at-shifted Wide p = refl

module _ (form : Form) (p : Plain) (z : SizedFields p) where
  pub sheet-length : length (sheet_of form p) ≡ shift form + (head_length + 3 * length p.entries + length (body_bytes p.entries))
  unfolding sheet_of
  sheet-length =
      length-append (counts_of form (length p.entries) (length (body_bytes p.entries))) _
      ∙ omega (arith, counts-length form (length p.entries) (length (body_bytes p.entries)), behind-length p z 0 0)

  pub sheet-is : is_sheet form (sheet_of form p) ≡ true
  unfolding is_sheet
  sheet-is =
      let n : length (sheet_of form p)
      ≡ shift form + (head_length + 3 * count_in form (sheet_of form p) + total_in form (sheet_of form p))
      = omega (arith, sheet-length, at_count form p, at-total form p) in
      let t : total_in form (sheet_of form p)
      ≡ sum (take (count_in form (sheet_of form p)) (sizes_in (count_in form (sheet_of form p)) (shifted form (sheet_of form p)))) =
      at-total form p ∙ at_sum p z (lowest form p) (second form p)
      ∙ sym (ap₂ (λ (k : ℕ) (s : List ℕ). sum (take k (sizes_in k s))) (at_count form p) (at-shifted form p)) in
      simp (eq-eqb _ _ n, eq-eqb _ _ t)

  pub sheet-means : sheet_from form (sheet_of form p) ≡ p
  sheet-means = ap₂ plain_from (at_count form p) (at-shifted form p) ∙ behind-means p (lowest form p) (second form p) z

-- ## A sheet

-- as its further places count: N blocks, and T bytes of bodies
pub record WholeSheet (n t : ℕ) (s : List ℕ) : Type 0 where
  pub long : length s ≡ head_length + 3 * n + t
  pub total : t ≡ sum (take n (sizes_in n s))

pub whole-sheet : (form : Form) (s : List ℕ) → is_sheet form s ≡ true → WholeSheet (count_in form s) (total_in form s) (shifted form s)
unfolding is_sheet
whole-sheet form s is =
    let b = and-true (eqb (length s) (shift form + (head_length + 3 * count_in form s + total_in form s))) _ is in
    record {
      long = length-drop (shift form) s ∙ omega (arith, eqb-true (length s) _ b.0);
      total = eqb-true (total_in form s) _ b.1;
    }

module _ (n t : ℕ) (s : List ℕ) (w : WholeSheet n t s) where
  bodies-all : take (sum (take n (sizes_in n s))) (bodies_in n s) ≡ bodies_in n s
  bodies-all = take_all (sum (take n (sizes_in n s))) (bodies_in n s) (omega (arith, length-drop (head_length + 3 * n) s, w.long, w.total))

  pub from-sized : SizedFields (plain_from n s)
  unfolding plain_from
  from-sized = record {
    id = length-take-le 16 (drop 2 s) (omega (arith, length-drop 2 s, w.long));
    address = length-take-le 6 (drop 20 s) (omega (arith, length-drop 20 s, w.long));
    maker = length-take-le 2 (drop 32 s) (omega (arith, length-drop 32 s, w.long));
  }

  module _ (by : Bytes s) where
    pub parts : Read n (kinds_in s) (sizes_in n s) (bodies_in n s)
    parts =
        entries-read n (kinds_in s) (sizes_in n s) (bodies_in n s) (bytes_drop head_length s by)
        (omega (arith, length-drop head_length s, w.long)) (omega (arith, length-drop (head_length + 2 * n) s, w.long))
        (omega (arith, length-drop (head_length + 3 * n) s, w.long, w.total))

    parts-back : parts_of (plain_from n s).entries ≡ drop head_length s
    unfolding parts_of plain_from
    parts-back =
        let m : head_length + 2 * n + n ≡ head_length + 3 * n = omega arith in
        let b = parts.bodies ∙ bodies-all ∙ sym (drop-drop n (head_length + 2 * n) s ∙ ap (λ (k : ℕ). drop k s) m) in
        let sb = ap₂ (λ (x y : List ℕ). x ++ y) parts.sizes b ∙ take-append-drop n (sizes_in n s)
        ∙ sym (drop-drop (2 * n) head_length s) in
        ap₂ (λ (x y : List ℕ). x ++ y) parts.kinds sb ∙ take-append-drop (2 * n) (kinds_in s)

    count-back : length (plain_from n s).entries ≡ n
    unfolding plain_from
    count-back = parts.count

    total-back : length (body_bytes (plain_from n s).entries) ≡ t
    unfolding plain_from
    total-back = ap length (parts.bodies ∙ bodies-all) ∙ omega (arith, length-drop (head_length + 3 * n) s, w.long)

    head-back : head_of (plain_from n s) ++ drop head_length s ≡ drop 2 s
    unfolding plain_from head_of spell word_at
    head-back =
        rw (
          spelled 2 16 s (omega (arith, w.long)),
          spelled 20 6 s (omega (arith, w.long)),
          spelled 32 2 s (omega (arith, w.long)),
          word_back (byte_at s 27) (byte_at s 28) (by 27),
          word_back (byte_at s 29) (byte_at s 30) (by 29),
        )
        (ap (λ (l : List ℕ). l ++ drop head_length s) (sym (spelled 2 32 s (omega (arith, w.long))))
        ∙ ap (λ (l : List ℕ). take 32 (drop 2 s) ++ l) (sym (drop-drop 32 2 s)) ∙ take-append-drop 32 (drop 2 s))

    content-back : head_of (plain_from n s) ++ parts_of (plain_from n s).entries ≡ drop 2 s
    content-back = ap (λ (l : List ℕ). head_of (plain_from n s) ++ l) parts-back ∙ head-back

-- the counts that a sheet has stand before what follows
pub counts-back : (form : Form) (s : List ℕ) → Bytes s → shift form + 2 ≤ length s
    → counts_of form (count_in form s) (total_in form s) ++ drop 2 (shifted form s) ≡ s
unfolding word_at spell
counts-back Narrow s by h = ap (λ (l : List ℕ). l ++ drop 2 s) (sym (spelled 0 2 s h)) ∙ take-append-drop 2 s
counts-back Wide s by h =
    rw (word_back (byte_at s 0) (byte_at s 1) (by 0), word_back (byte_at s 2) (byte_at s 3) (by 2))
    (ap₂ (λ (l r : List ℕ). l ++ r) (sym (spelled 0 4 s h)) (drop-drop 2 2 s) ∙ take-append-drop 4 s)

pub sheet-long : (form : Form) (s : List ℕ) → is_sheet form s ≡ true → shift form + head_length ≤ length s
unfolding is_sheet
sheet-long form s is =
    let b = and-true (eqb (length s) (shift form + (head_length + 3 * count_in form s + total_in form s))) _ is in
    omega (arith, eqb-true (length s) _ b.0)

-- the sheet of what a sheet means is that sheet
pub sheet-back : (form : Form) (s : List ℕ) → is_sheet form s ≡ true → Bytes s → sheet_of form (sheet_from form s) ≡ s
unfolding sheet_of
sheet-back form s is by =
    let w = whole-sheet form s is in
    let b = bytes_drop (shift form) s by in
    (λ i. counts_of form (count-back _ _ _ w b i) (total-back _ _ _ w b i) ++ content-back _ _ _ w b i)
    ∙ counts-back form s by (omega (arith, sheet-long form s is))
