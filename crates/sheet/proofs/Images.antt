-- The image of a record means that record and is tidy, and a tidy accepted image is the image of what it means: fronts are
-- spelled out, the rest is read from byte 30 on. Assumes nothing.
use Prim.Native.Nat.{ℕ, ◌+◌, ◌*◌, ◌-◌, ◌/◌, ◌%◌, ◌≤◌, ◌<◌}
use mathlib.Core.Path.{◌≡◌, refl, sym, ap, ap₂, ◌∙◌}
use mathlib.Core.Bool.{Bool, true, false, ◌&&◌, ◌||◌, not}
use mathlib.Core.List.{List, [], ◌∷◌, ◌++◌, map, append_assoc}
use native.Mathlib.Numerals.{add-one}
use native.Mathlib.Omega.{arith}
use lib.ListN.{length, take, drop, replicate, length-append, length-drop, length-replicate, take-append-drop}
use lib.Seq.{take_at, drop_at, take-take, take-add, drop-drop, get_or-drop, length-take-le}
use lib.Dec.{eqb, ltb, lit<}
use borrow.Author.Tests.{eqb-true, eq-eqb, not-false}
use Rattle.rom.specs.declared.Layout.{Layout}
use Rattle.rom.specs.Geometry.{wrong_length, image_length, board_length, checked_length, leaves_end, most_controllers}
use Rattle.rom.specs.Bytes.{pick, byte_at, word_at, is_in, Bytes, all_zero}
use Rattle.rom.specs.Store.{word_bytes}
use Rattle.rom.specs.Refusal.{first_met}
use Rattle.rom.proofs.First.{none_here, both-accepted}
use Rattle.rom.proofs.Truth.{true-false, and-true, or-false}
use Rattle.checksum.specs.Crc.{srom_crc, crc8_words, word, crc8, id_crc}
use Rattle.format.specs.Chips.{chips, row_of, row21140, newest_level}
use Rattle.format.specs.Block.{the_later_version}
use Rattle.image.specs.Image.{is_first_version, controller_count, reserved_at, leaf_at, header_length, control_byte, blocks_at, block_count}
use Rattle.image.specs.Image.{up_to_leaves_end, bad_count}
use Rattle.image.specs.Image.{magic_causes, image_causes, argument_causes}
use Rattle.image.specs.Arguments.{leaf_for, start_for, count_for, header_causes}
use Rattle.image.proofs.Causes.{magic-numbered, image-numbered, argument-numbered, header-numbered}
use Rattle.leaf.specs.Leaf.{cut, block_causes}
use Rattle.leaf.proofs.Cuts.{accepted-blocks}
use Rattle.reader.specs.Reading.{blocks_for, leaf_causes_for, judge_causes}
use Rattle.sheet.specs.Lists.{padded}
use Rattle.sheet.specs.Record.{Plain}
use Rattle.sheet.specs.Image.{leaf_start, front_with, front_of, encodes, control_bytes, leaf_head_of, leaf_of, covered_of, board_of}
use Rattle.sheet.specs.Image.{image_of, newest_in, newest}
use Rattle.sheet.specs.Image.{entry_from, image_from, sizes, leaf_end, is_tidy}
use Rattle.sheet.specs.Write.{any_bad, stray_control, cannot_hold}
use Rattle.rom.proofs.Layouts.{Geometry, geometry, right-length}
use Rattle.rom.proofs.Lists.{word_of, word_back, zeros-are, zeros-all, bytes_drop, bytes_take, spell, spelled}
use Rattle.sheet.proofs.Blocks.{cut-encodes, entries-length, Encoded, encodes-cut}
use Rattle.sheet.proofs.Sheets.{SizedFields, spelled_out, spelled_out_lem}
use Rattle.sheet.proofs.Crcs.{srom-covered}

-- ## The front

-- what bytes 0 to 29 of an image say, and what stands behind them
record Front (p : Plain) (s rest : List ℕ) : Type 0 where
  id : take 16 s ≡ p.id
  last_id : byte_at s 17 ≡ p.last_id
  version : byte_at s 18 ≡ p.version
  count : byte_at s 19 ≡ 1
  address : take 6 (drop 20 s) ≡ p.address
  device : byte_at s 26 ≡ p.device
  leaf : word_at s 27 ≡ leaf_start
  behind : drop leaf_start s ≡ rest

spelled-front : (p : Plain) (c : ℕ) (r : List ℕ) → Front (spelled_out p) (front_with c (spelled_out p) ++ r) r
unfolding front_with spelled_out spell word_bytes word_at
spelled-front p c r =
    record { id = refl; last_id = refl; version = refl; count = refl; address = refl; device = refl; leaf = refl; behind = refl }

front-says : (p : Plain) (c : ℕ) (r : List ℕ) → SizedFields p → Front p (front_with c p ++ r) r
front-says p c r z = rw (spelled_out_lem p z) (spelled-front p c r)

pub front_length : (p : Plain) (c : ℕ) → SizedFields p → length (front_with c p) ≡ leaf_start
unfolding front_with spelled_out spell word_bytes
front_length p c z = ap (λ (x : Plain). length (front_with c x)) (spelled_out_lem p z)

-- ## An image with its leaf at 30, read from there on

byte-behind : (s : List ℕ) (i : ℕ) → byte_at s (leaf_start + i) ≡ byte_at (drop leaf_start s) i
byte-behind s i = sym (get_or-drop leaf_start s i 0)

word-behind : (s : List ℕ) → word_at s leaf_start ≡ word_at (drop leaf_start s) 0
unfolding word_at
word-behind s = ap₂ (λ (x y : ℕ). x + 256 * y) (byte-behind s 0) (byte-behind s 1)

drop-behind : (s : List ℕ) (k : ℕ) → drop (leaf_start + k) s ≡ drop k (drop leaf_start s)
drop-behind s k = sym (drop-drop k leaf_start s)

pub header-some : (row : ℕ) → (3 ≤ header_length row) × (header_length row ≤ 4)
unfolding header_length pick
header-some row = go (eqb row row21140)
  where
    go : (t : Bool) → (3 ≤ pick t 4 3) × (pick t 4 3 ≤ 4)
    go true = (omega arith, omega arith)
    go false = (omega arith, omega arith)

-- how many bytes a leaf can have there
abbrev pub leaf_room : Layout → ℕ
leaf_room l = leaves_end l - leaf_start

module _ (l : Layout) (chip : ℕ) (s : List ℕ) (leaf : word_at s 27 ≡ leaf_start) where
  leaf-at : leaf_at s 0 ≡ leaf_start
  unfolding leaf_at
  leaf-at = leaf

  leaf-is : leaf_for s (newest l chip) ≡ leaf_start
  unfolding newest_in leaf_at
  leaf-is = leaf

  start_is : start_for s (newest l chip) ≡ leaf_start + header_length (row_of chip)
  unfolding newest_in blocks_at
  start_is = ap (λ (n : ℕ). n + header_length (row_of chip)) leaf-is

  connection-is : word_at s (leaf_for s (newest l chip)) ≡ word_at (drop leaf_start s) 0
  connection-is = ap (word_at s) leaf-is ∙ word-behind s

  control-is : control_byte s (row_of chip) (leaf_for s (newest l chip))
      ≡ pick (eqb (row_of chip) row21140) (byte_at (drop leaf_start s) 2) 0
  unfolding control_byte
  control-is =
      ap (λ (n : ℕ). pick (eqb (row_of chip) row21140) (byte_at s (n + 2)) 0) leaf-is
      ∙ ap (λ (b : ℕ). pick (eqb (row_of chip) row21140) b 0) (byte-behind s 2)

  count-is : count_for s (newest l chip) ≡ byte_at (drop leaf_start s) (header_length (row_of chip) - 1)
  unfolding block_count newest_in
  count-is =
      let h = header-some (row_of chip) in
      let n : leaf_start + header_length (row_of chip) - 1 ≡ leaf_start + (header_length (row_of chip) - 1) = omega (arith, h.0) in
      ap (λ (k : ℕ). byte_at s (k - 1)) start_is ∙ ap (byte_at s) n ∙ byte-behind s _

  up_to : (k : ℕ) → up_to_leaves_end l s (leaf_start + k) ≡ take (leaf_room l - k) (drop k (drop leaf_start s))
  unfolding up_to_leaves_end
  up_to k = let n : leaves_end l - (leaf_start + k) ≡ leaf_room l - k = omega arith in ap₂ take n (drop-behind s k)

  rest-is : up_to_leaves_end l s (start_for s (newest l chip))
      ≡ take (leaf_room l - header_length (row_of chip)) (drop (header_length (row_of chip)) (drop leaf_start s))
  unfolding up_to_leaves_end
  rest-is = ap (λ (n : ℕ). take (leaves_end l - n) (drop n s)) start_is ∙ up_to (header_length (row_of chip))

  blocks-are : blocks_for s (newest l chip)
      ≡ cut (row_of chip) (byte_at (drop leaf_start s) (header_length (row_of chip) - 1))
      (take (leaf_room l - header_length (row_of chip)) (drop (header_length (row_of chip)) (drop leaf_start s)))
  unfolding newest_in
  blocks-are = ap₂ (cut (row_of chip)) count-is rest-is

  end_is : leaf_end l chip s ≡ leaf_start + (header_length (row_of chip) + sizes (row_of chip) (blocks_for s (newest l chip)))
  unfolding leaf_end
  end_is = omega (arith, start_is)

-- ## The leaf of a record

module _ (p : Plain) where
  pub leaf-head-length : length (leaf_head_of p) ≡ header_length (row_of p.chip)
  unfolding leaf_head_of control_bytes header_length word_bytes pick
  leaf-head-length = go (eqb (row_of p.chip) row21140)
    where
      go : (t : Bool) → length ((p.connection % 256) ∷ (p.connection / 256) ∷ (pick t (p.control ∷ []) [] ++ length p.entries ∷ []))
          ≡ pick t 4 3
      go true = refl
      go false = refl

  pub leaf-length : length (leaf_of p) ≡ header_length (row_of p.chip) + length (encodes p.entries)
  unfolding leaf_of
  leaf-length = length-append (leaf_head_of p) (encodes p.entries) ∙ ap (λ (n : ℕ). n + length (encodes p.entries)) leaf-head-length

  head-connection : (r : List ℕ) → word_at (leaf_head_of p ++ r) 0 ≡ p.connection
  unfolding leaf_head_of word_bytes word_at
  head-connection r = word_of p.connection

  head-control : (r : List ℕ) → stray_control (row_of p.chip) p.control ≡ false
      → pick (eqb (row_of p.chip) row21140) (byte_at (leaf_head_of p ++ r) 2) 0 ≡ p.control
  unfolding leaf_head_of control_bytes word_bytes stray_control pick
  head-control r h = go (eqb (row_of p.chip) row21140) h
    where
      go : (t : Bool) → (not t && not (eqb p.control 0)) ≡ false
          → pick t (byte_at ((pick t (p.control ∷ []) [] ++ length p.entries ∷ []) ++ r) 0) 0 ≡ p.control
      go true e = refl
      go false e = sym (eqb-true _ _ (not-false _ e))

  head-count : (r : List ℕ) → byte_at (leaf_head_of p ++ r) (header_length (row_of p.chip) - 1) ≡ length p.entries
  unfolding leaf_head_of control_bytes header_length word_bytes pick
  head-count r = go (eqb (row_of p.chip) row21140)
    where
      go : (t : Bool) → byte_at ((p.connection % 256) ∷ (p.connection / 256)
          ∷ ((pick t (p.control ∷ []) [] ++ length p.entries ∷ []) ++ r)) (pick t 4 3 - 1) ≡ length p.entries
      go true = refl
      go false = refl

-- ## The image of a record

pub padded-length : (n : ℕ) (xs : List ℕ) → length xs ≤ n → length (padded n xs) ≡ n
unfolding padded
padded-length n xs h = simp (length-append, length-replicate) (omega arith)

-- the zeros behind the leaf, and the bytes behind those
abbrev gap : Layout → Plain → List ℕ
gap l p = replicate (leaf_room l - length (leaf_of p)) 0

abbrev behind_leaves : Layout → Plain → List ℕ → List ℕ
behind_leaves l p out = p.maker ++ (word_bytes (srom_crc l (covered_of l p)) ++ drop (board_length l) out)

image-parts : (f h e g m w o : List ℕ) → ((f ++ (((h ++ e) ++ g) ++ m)) ++ w) ++ o ≡ f ++ (h ++ ((e ++ g) ++ (m ++ (w ++ o))))
image-parts f h e g m w o = simp append_assoc

regroup : (h e g a : List ℕ) → h ++ ((e ++ g) ++ a) ≡ (h ++ e) ++ (g ++ a)
regroup h e g a = simp append_assoc

module _ (l : Layout) (p : Plain) (out : List ℕ) (z : SizedFields p) (fits : length (leaf_of p) ≤ leaf_room l) where
  image-is : image_of l p out ≡ front_of p ++ (leaf_head_of p ++ ((encodes p.entries ++ gap l p) ++ behind_leaves l p out))
  unfolding image_of board_of covered_of padded leaf_of
  image-is = image-parts (front_of p) (leaf_head_of p) (encodes p.entries) (gap l p) p.maker _ _

  pub covered-length : length (covered_of l p) ≡ checked_length l
  unfolding covered_of front_of
  covered-length =
      let g = geometry l in
      simp length-append (omega (arith, front_length p (id_crc (front_with 0 p)) z, padded-length (leaf_room l) (leaf_of p) fits, z.maker))

  pub board-length : length (board_of l p) ≡ board_length l
  unfolding board_of word_bytes
  board-length = let g = geometry l in length-append (covered_of l p) _ ∙ omega (arith, covered-length)

  front_of_lem : Front p (image_of l p out) (leaf_head_of p ++ ((encodes p.entries ++ gap l p) ++ behind_leaves l p out))
  unfolding front_of
  front_of_lem = rw image-is (front-says p _ _ z)

  blocks-length : length (encodes p.entries ++ gap l p) ≡ leaf_room l - header_length (row_of p.chip)
  blocks-length = simp (length-append, length-replicate) (omega (arith, leaf-length p, fits))

  image-blocks : blocks_for (image_of l p out) (newest l p.chip)
      ≡ cut (row_of p.chip) (length p.entries) (encodes p.entries ++ gap l p)
  image-blocks =
      let f = front_of_lem in
      let r : take (leaf_room l - header_length (row_of p.chip)) (drop (header_length (row_of p.chip)) (drop leaf_start (image_of l p out)))
      ≡ encodes p.entries ++ gap l p
      = ap (λ (x : List ℕ). take (leaf_room l - header_length (row_of p.chip)) (drop (header_length (row_of p.chip)) x)) f.behind
      ∙ ap (take (leaf_room l - header_length (row_of p.chip))) (drop_at (leaf_head_of p) _ _ (leaf-head-length p))
      ∙ take_at (encodes p.entries ++ gap l p) (behind_leaves l p out) _ blocks-length in
      let n : byte_at (drop leaf_start (image_of l p out)) (header_length (row_of p.chip) - 1) ≡ length p.entries
      = ap (λ (x : List ℕ). byte_at x (header_length (row_of p.chip) - 1)) f.behind ∙ head-count p _ in
      blocks-are l p.chip (image_of l p out) f.leaf ∙ ap₂ (cut (row_of p.chip)) n r

  image-maker : take 2 (drop (leaves_end l) (image_of l p out)) ≡ p.maker
  image-maker =
      let g = geometry l in
      let at : leaves_end l ≡ leaf_start + leaf_room l = omega arith in
      let all : length (leaf_head_of p ++ (encodes p.entries ++ gap l p)) ≡ leaf_room l
      = length-append (leaf_head_of p) _ ∙ omega (arith, leaf-head-length p, blocks-length, leaf-length p, fits) in
      ap (take 2)
      (ap (λ (n : ℕ). drop n (image_of l p out)) at ∙ drop-behind (image_of l p out) (leaf_room l) ∙ ap (drop (leaf_room l))
      (front_of_lem.behind ∙ sym (append_assoc (leaf_head_of p) (encodes p.entries ++ gap l p) (behind_leaves l p out)))
      ∙ drop_at (leaf_head_of p ++ (encodes p.entries ++ gap l p)) (behind_leaves l p out) (leaf_room l) all)
      ∙ take_at p.maker _ 2 z.maker

  module _ (holds : cannot_hold p ≡ false) where
    holds-entries : any_bad (row_of p.chip) p.entries ≡ false
    unfolding cannot_hold
    holds-entries = (or-false _ _ holds).0

    holds-control : stray_control (row_of p.chip) p.control ≡ false
    unfolding cannot_hold
    holds-control = (or-false (any_bad (row_of p.chip) p.entries) _ holds).1

    -- the image of a record means that record
    pub image-means : image_from l p.chip (image_of l p out) ≡ p
    unfolding image_from
    image-means =
        let f = front_of_lem in
        let c = connection-is l p.chip (image_of l p out) f.leaf ∙ ap (λ (x : List ℕ). word_at x 0) f.behind ∙ head-connection p _ in
        let t = control-is l p.chip (image_of l p out) f.leaf
        ∙ ap (λ (x : List ℕ). pick (eqb (row_of p.chip) row21140) (byte_at x 2) 0) f.behind ∙ head-control p _ holds-control in
        let m = image-maker in
        let e = ap (map (entry_from (row_of p.chip))) image-blocks
        ∙ (cut-encodes (row_of p.chip) p.entries (gap l p) holds-entries).0 in
        λ i. record {
          id = f.id i;
          last_id = f.last_id i;
          version = f.version i;
          address = f.address i;
          device = f.device i;
          chip = p.chip;
          connection = c i;
          control = t i;
          maker = m i;
          entries = e i;
        }

    -- and is tidy
    pub image-tidy : is_tidy l p.chip (image_of l p out) ≡ true
    unfolding is_tidy controller_count
    image-tidy =
        let f = front_of_lem in
        let n : sizes (row_of p.chip) (blocks_for (image_of l p out) (newest l p.chip)) ≡ length (encodes p.entries)
        = ap (sizes (row_of p.chip)) image-blocks ∙ (cut-encodes (row_of p.chip) p.entries (gap l p) holds-entries).1 in
        let end : leaf_end l p.chip (image_of l p out) ≡ leaf_start + length (leaf_of p)
        = omega (arith, end_is l p.chip (image_of l p out) f.leaf, n, leaf-length p) in
        let behind : drop leaf_start (image_of l p out) ≡ leaf_of p ++ (gap l p ++ behind_leaves l p out)
        = f.behind ∙ (unfold leaf_of in regroup (leaf_head_of p) (encodes p.entries) (gap l p) (behind_leaves l p out)) in
        let none : up_to_leaves_end l (image_of l p out) (leaf_end l p.chip (image_of l p out)) ≡ gap l p
        = ap (up_to_leaves_end l (image_of l p out)) end ∙ up_to l p.chip (image_of l p out) f.leaf (length (leaf_of p))
        ∙ ap (λ (x : List ℕ). take (leaf_room l - length (leaf_of p)) (drop (length (leaf_of p)) x)) behind
        ∙ ap (take (leaf_room l - length (leaf_of p))) (drop_at (leaf_of p) _ _ refl)
        ∙ take_at (gap l p) (behind_leaves l p out) (leaf_room l - length (leaf_of p))
        (length-replicate (leaf_room l - length (leaf_of p)) 0) in
        let one = eq-eqb (byte_at (image_of l p out) 19) 1 f.count in
        let at = eq-eqb (leaf_at (image_of l p out) 0) leaf_start (leaf-at l p.chip (image_of l p out) f.leaf) in
        rw (none, zeros-all (leaf_room l - length (leaf_of p))) (simp (one, at))

-- ## What acceptance by the newest reader says of an image

pub record AcceptedImage (l : Layout) (chip : ℕ) (s : List ℕ) : Type 0 where
  pub known : Geometry l
  pub right : wrong_length l.size (length s) ≡ false
  pub long : length s ≡ image_length l.size
  pub crc : word_at s (checked_length l) ≡ srom_crc l s
  pub id : byte_at s 16 ≡ id_crc s
  pub reserved : byte_at s (reserved_at s) ≡ 0
  pub known-chip : is_in chip chips ≡ true
  pub blocks : first_met (block_causes the_later_version (row_of chip) newest_level (blocks_for s (newest l chip))) ≡ 0

third : (p q r : Bool) → (p || q || r) ≡ false → r ≡ false
third true q r e = true-false e
third false true r e = true-false e
third false false r e = e

pub accepted-image : (l : Layout) (edition : Bool) (chip : ℕ) (s : List ℕ) → first_met (judge_causes s (newest_in l edition chip)) ≡ 0
    → AcceptedImage l chip s
unfolding judge_causes header_causes image_causes argument_causes bad_count leaf_causes_for newest_in
accepted-image l edition chip s h =
    let j = both-accepted (header_causes s (newest_in l edition chip)) _ (header-numbered s (newest_in l edition chip)) h in
    let i = both-accepted (image_causes l s) _ (image-numbered l s) j.0 in
    let g = both-accepted (argument_causes s (newest_in l edition chip)) _ (argument-numbered s (newest_in l edition chip)) i.1 in
    let a = none_here _ _ (lit< tt) i.0 in
    let b = none_here _ _ (lit< tt) a.1 in
    let c = none_here _ _ (lit< tt) b.1 in
    let d = none_here _ _ (lit< tt) c.1 in
    let e = none_here _ _ (lit< tt) (both-accepted (magic_causes l s) _ (magic-numbered l s) d.1).1 in
    let m = none_here _ _ (lit< tt) g.0 in
    let n = none_here _ _ (lit< tt) m.1 in
    record {
      known = geometry l;
      right = a.0;
      long = right-length l.size (length s) a.0;
      crc = eqb-true _ _ (not-false _ c.0);
      id = eqb-true _ _ (not-false _ d.0);
      reserved = eqb-true _ _ (not-false _ (third (eqb (controller_count s) 0) (ltb (most_controllers l) (controller_count s)) _ e.0));
      known-chip = not-false _ n.0;
      blocks = accepted-blocks (is_first_version s) (row_of chip) newest_level (blocks_for s (newest_in l edition chip)) j.1;
    }

-- ## What tidiness adds

pub record Tidy (l : Layout) (chip : ℕ) (s : List ℕ) : Type 0 where
  pub one : byte_at s 19 ≡ 1
  pub leaf : word_at s 27 ≡ leaf_start
  pub zero : all_zero (up_to_leaves_end l s (leaf_end l chip s)) ≡ true

pub tidy : (l : Layout) (chip : ℕ) (s : List ℕ) → is_tidy l chip s ≡ true → Tidy l chip s
unfolding is_tidy controller_count leaf_at
tidy l chip s h =
    let a = and-true _ _ h in
    let b = and-true _ _ a.1 in
    record { one = eqb-true _ _ a.0; leaf = eqb-true _ _ b.0; zero = b.1 }

-- ## The image of what an image means

-- a leaf's head, spelled out
spell-head : (row : ℕ) (r : List ℕ) → byte_at r 0 < 256 → 4 ≤ length r
    → word_bytes (word_at r 0) ++ (pick (eqb row row21140) (pick (eqb row row21140) (byte_at r 2) 0 ∷ []) []
    ++ byte_at r (header_length row - 1) ∷ [])
    ≡ take (header_length row) r
unfolding header_length pick spell word_at
spell-head row r low h = rw (word_back (byte_at r 0) (byte_at r 1) low) (go (eqb row row21140))
  where
    go : (t : Bool) → byte_at r 0 ∷ byte_at r 1 ∷ (pick t (pick t (byte_at r 2) 0 ∷ []) [] ++ byte_at r (pick t 4 3 - 1) ∷ [])
        ≡ take (pick t 4 3) r
    go true = sym (spelled 0 4 r (omega arith))
    go false = sym (spelled 0 3 r (omega arith))

module _ (l : Layout) (chip : ℕ) (s : List ℕ) (by : Bytes s) (a : AcceptedImage l chip s) (t : Tidy l chip s) where
  behind-length : length (drop leaf_start s) ≡ image_length l.size - leaf_start
  behind-length = length-drop leaf_start s ∙ omega (arith, a.long)

  pub means-sized : SizedFields (image_from l chip s)
  unfolding image_from
  means-sized = record {
    id = length-take-le 16 s (omega (arith, a.long));
    address = length-take-le 6 (drop 20 s) (omega (arith, length-drop 20 s, a.long));
    maker = length-take-le 2 (drop (leaves_end l) s) (omega (arith, length-drop (leaves_end l) s, a.long));
  }

  -- the leaf's rest, and how many bytes of it the blocks take
  abbrev rest : List ℕ
  rest = take (leaf_room l - header_length (row_of chip)) (drop (header_length (row_of chip)) (drop leaf_start s))

  abbrev used : ℕ
  used = sizes (row_of chip) (blocks_for s (newest l chip))

  rest-length : length rest ≡ leaf_room l - header_length (row_of chip)
  rest-length =
      let h = header-some (row_of chip) in
      length-take-le _ _ (omega (arith, h.0, h.1, length-drop (header_length (row_of chip)) (drop leaf_start s), behind-length))

  rest-encoded : Encoded (row_of chip) (byte_at (drop leaf_start s) (header_length (row_of chip) - 1)) rest
  rest-encoded =
      encodes-cut (row_of chip) newest_level _ rest
      (bytes_take (leaf_room l - header_length (row_of chip)) (drop (header_length (row_of chip)) (drop leaf_start s))
      (bytes_drop (header_length (row_of chip)) (drop leaf_start s) (bytes_drop leaf_start s by)))
      (rw (← blocks-are l chip s t.leaf) a.blocks)

  used-fits : header_length (row_of chip) + used ≤ leaf_room l
  used-fits =
      let f : used ≤ length rest = rw (blocks-are l chip s t.leaf) rest-encoded.fits in
      let h = header-some (row_of chip) in
      omega (arith, f, rest-length, h.1)

  pub means-holds : cannot_hold (image_from l chip s) ≡ false
  unfolding cannot_hold stray_control image_from control_byte pick
  means-holds =
      let g : any_bad (row_of chip) (map (entry_from (row_of chip)) (blocks_for s (newest l chip))) ≡ false
      = rw (blocks-are l chip s t.leaf) rest-encoded.good in
      rw g (go (eqb (row_of chip) row21140))
    where
      go : (t : Bool) → (not t && not (eqb (pick t (byte_at s (leaf_for s (newest l chip) + 2)) 0) 0)) ≡ false
      go true = refl
      go false = refl

  means-encodes : encodes (image_from l chip s).entries ≡ take used (drop (header_length (row_of chip)) (drop leaf_start s))
  unfolding image_from
  means-encodes =
      let e : encodes (map (entry_from (row_of chip)) (blocks_for s (newest l chip))) ≡ take used rest
      = rw (blocks-are l chip s t.leaf) rest-encoded.back in
      e ∙ take-take used (leaf_room l - header_length (row_of chip)) _ (omega (arith, used-fits))

  means-count : length (image_from l chip s).entries ≡ byte_at (drop leaf_start s) (header_length (row_of chip) - 1)
  unfolding image_from newest_in
  means-count =
      entries-length (row_of chip) (count_for s (newest l chip)) (up_to_leaves_end l s (start_for s (newest l chip))) ∙ count-is l chip s
      t.leaf

  means-connection : (image_from l chip s).connection ≡ word_at (drop leaf_start s) 0
  unfolding image_from
  means-connection = connection-is l chip s t.leaf

  means-control : (image_from l chip s).control ≡ pick (eqb (row_of chip) row21140) (byte_at (drop leaf_start s) 2) 0
  unfolding image_from
  means-control = control-is l chip s t.leaf

  means-chip : (image_from l chip s).chip ≡ chip
  unfolding image_from
  means-chip = refl

  means-head : leaf_head_of (image_from l chip s) ≡ take (header_length (row_of chip)) (drop leaf_start s)
  unfolding leaf_head_of control_bytes
  means-head =
      (λ i. word_bytes (means-connection i)
      ++ (pick (eqb (row_of (means-chip i)) row21140) (means-control i ∷ []) [] ++ means-count i ∷ []))
      ∙ spell-head (row_of chip) (drop leaf_start s) (bytes_drop leaf_start s by 0) (omega (arith, behind-length))

  means-leaf : leaf_of (image_from l chip s) ≡ take (header_length (row_of chip) + used) (drop leaf_start s)
  unfolding leaf_of
  means-leaf = ap₂ (λ (x y : List ℕ). x ++ y) means-head means-encodes
      ∙ sym (take-add (header_length (row_of chip)) used (drop leaf_start s))

  means-length : length (leaf_of (image_from l chip s)) ≡ header_length (row_of chip) + used
  means-length = ap length means-leaf ∙ length-take-le _ _ (omega (arith, used-fits, behind-length))

  pub means-fits : length (leaf_of (image_from l chip s)) ≤ leaf_room l
  means-fits = omega (arith, means-length, used-fits)

  means-gap : take (leaf_room l - (header_length (row_of chip) + used)) (drop (header_length (row_of chip) + used) (drop leaf_start s))
      ≡ replicate (leaf_room l - (header_length (row_of chip) + used)) 0
  means-gap =
      let e : up_to_leaves_end l s (leaf_end l chip s)
      ≡ take (leaf_room l - (header_length (row_of chip) + used)) (drop (header_length (row_of chip) + used) (drop leaf_start s))
      = ap (up_to_leaves_end l s) (end_is l chip s t.leaf) ∙ up_to l chip s t.leaf (header_length (row_of chip) + used) in
      zeros-are _ _ (rw (← e) t.zero) (length-take-le (leaf_room l - (header_length (row_of chip) + used))
      (drop (header_length (row_of chip) + used) (drop leaf_start s))
      (omega (arith, length-drop (header_length (row_of chip) + used) (drop leaf_start s), behind-length, used-fits)))

  means-padded : padded (leaf_room l) (leaf_of (image_from l chip s)) ≡ take (leaf_room l) (drop leaf_start s)
  unfolding padded
  means-padded =
      let n : header_length (row_of chip) + used + (leaf_room l - (header_length (row_of chip) + used)) ≡ leaf_room l = omega
      (arith, used-fits) in
      ap₂ (λ (x : List ℕ) (k : ℕ). x ++ replicate (leaf_room l - k) 0) means-leaf means-length
      ∙ ap (λ (x : List ℕ). take (header_length (row_of chip) + used) (drop leaf_start s) ++ x) (sym means-gap)
      ∙ sym (take-add (header_length (row_of chip) + used) (leaf_room l - (header_length (row_of chip) + used)) (drop leaf_start s))
      ∙ ap (λ (k : ℕ). take k (drop leaf_start s)) n

  -- the count is a byte
  pub means-few : length (image_from l chip s).entries ≤ 255
  means-few = omega (arith, means-count, bytes_drop leaf_start s by (header_length (row_of chip) - 1))

  -- the ID CRC is that of the image
  means-id : id_crc (front_with 0 (image_from l chip s)) ≡ byte_at s 16
  unfolding id_crc crc8 crc8_words word word_at front_with image_from spell
  means-id = rw (a.id, spelled 0 16 s (omega (arith, a.long))) refl

  leaf-bytes : (byte_at s 27 ≡ 30) × (byte_at s 28 ≡ 0)
  unfolding word_at
  leaf-bytes = (omega (arith, t.leaf, by 27, by 28), omega (arith, t.leaf, by 27, by 28))

  reserved-byte : byte_at s 29 ≡ 0
  unfolding reserved_at controller_count
  reserved-byte = ap (λ (n : ℕ). byte_at s (26 + 3 * n)) (sym t.one) ∙ a.reserved

  means-front : front_of (image_from l chip s) ≡ take leaf_start s
  unfolding front_of front_with image_from spell word_bytes
  means-front =
      rw (
        means-id,
        spelled 0 16 s (omega (arith, a.long)),
        spelled 20 6 s (omega (arith, a.long)),
        spelled 0 30 s (omega (arith, a.long)),
        t.one,
        leaf-bytes.0,
        leaf-bytes.1,
        reserved-byte,
      ) refl

  means-covered : covered_of l (image_from l chip s) ≡ take (checked_length l) s
  unfolding covered_of
  means-covered =
      ap₂ (λ (x y : List ℕ). x ++ y) means-front
      (ap₂ (λ (x y : List ℕ). x ++ y) means-padded (means-maker ∙ ap (take 2) (ap (λ (n : ℕ). drop n s) at ∙ drop-behind s (leaf_room l)))
      ∙ sym (take-add (leaf_room l) 2 (drop leaf_start s)))
      ∙ sym (take-add leaf_start (leaf_room l + 2) s)
      ∙ ap (λ (n : ℕ). take n s) end
    where
      means-maker : (image_from l chip s).maker ≡ take 2 (drop (leaves_end l) s)
      means-maker = unfold image_from in refl

      at : leaves_end l ≡ leaf_start + leaf_room l
      at = omega arith

      end : leaf_start + (leaf_room l + 2) ≡ checked_length l
      end = omega arith

  means-board : board_of l (image_from l chip s) ≡ take (board_length l) s
  unfolding board_of spell
  means-board =
      let c : srom_crc l (covered_of l (image_from l chip s)) ≡ byte_at s (checked_length l) + 256 * byte_at s (checked_length l + 1)
      = ap (srom_crc l) means-covered ∙ srom-covered l s ∙ sym a.crc ∙ (unfold word_at in refl) in
      let two : take 2 (drop (checked_length l) s) ≡ byte_at s (checked_length l) ∷ byte_at s (checked_length l + 1) ∷ []
      = spelled (checked_length l) 2 s (omega arith)
      ∙ ap (λ (n : ℕ). byte_at s (checked_length l) ∷ byte_at s n ∷ []) (sym (add-one (checked_length l))) in
      ap₂ (λ (x y : List ℕ). x ++ y) means-covered (ap word_bytes c ∙ word_back _ _ (by (checked_length l)) ∙ sym two)
      ∙ sym (take-add (checked_length l) 2 s)
      ∙ ap (λ (n : ℕ). take n s) a.known.stored

  -- the image of what it means is the image, over an output that has the same bytes behind the board
  pub image-back : (out : List ℕ) → drop (board_length l) out ≡ drop (board_length l) s → image_of l (image_from l chip s) out ≡ s
  unfolding image_of
  image-back out same = ap₂ (λ (x y : List ℕ). x ++ y) means-board same ∙ take-append-drop (board_length l) s
