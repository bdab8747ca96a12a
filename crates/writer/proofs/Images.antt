-- The image as it is built. Assumes nothing.
use Prim.Native.Nat.{ℕ, zero, suc, ◌+◌, ◌-◌, ◌≤◌}
use mathlib.Core.Path.{◌≡◌, refl, sym, ap, ap₂, ◌∙◌}
use mathlib.Core.Bool.{false}
use mathlib.Core.List.{List, [], ◌∷◌, ◌++◌, append_assoc, append-nil}
use native.Mathlib.Omega.{arith}
use native.Mathlib.Nat.{sub-zero, zero-sub, suc-sub-suc}
use lib.ListN.{length, take, drop, set, length-append, length-drop, length-replicate, drop_of_length-le}
use lib.Seq.{take_at, take_all, drop_at, drop-append-le, drop-append-add, set_at}
use borrow.Rule.Slice.PartMut.{put_mid}
use Rattle.rom.specs.declared.Layout.{Layout}
use Rattle.rom.specs.Geometry.{large_size, wrong_length, image_length, board_length, checked_length, leaves_end, id_crc_at}
use Rattle.rom.proofs.Layouts.{geometry, right-length}
use Rattle.rom.proofs.Lists.{spell, spelled}
use Rattle.rom.proofs.Put.{laid-put, laid_end, laid-behind}
use Rattle.rom.specs.Bytes.{pick}
use Rattle.rom.specs.Store.{word_bytes, put, laid}
use Rattle.checksum.specs.Crc.{srom_crc, id_crc}
use Rattle.sheet.specs.Lists.{padded}
use Rattle.sheet.specs.Layout.{head_length}
use Rattle.sheet.specs.Record.{Plain}
use Rattle.sheet.specs.Sheet.{plain_from}
use Rattle.sheet.specs.Image.{leaf_start, front_with, front_of, leaf_of, covered_of, board_of, image_of}
use Rattle.sheet.proofs.Crcs.{srom-front}
use Rattle.sheet.proofs.Sheets.{SizedFields}
use Rattle.sheet.proofs.Images.{front_length, covered-length, board-length}
use Rattle.writer.specs.Inside.{Counted}
use Rattle.writer.specs.Inside.{zeros, frame_of, with_id_crc, with_srom_crc, Writable}
use Rattle.writer.proofs.Checksums.{id-covers-front}
use Rattle.writer.proofs.Sheets.{leaf-fits}
use Rattle.writer.proofs.Counting.{sized-fields}

-- ## Zeros

drop-zeros : (k n : ℕ) → drop k (zeros n) ≡ zeros (n - k)
unfolding zeros
drop-zeros zero n = rw sub-zero refl
drop-zeros (suc k) zero = rw zero-sub refl
drop-zeros (suc k) (suc n) = rw suc-sub-suc (drop-zeros k n)

pub zeros-length : (n : ℕ) → length (zeros n) ≡ n
unfolding zeros
zeros-length n = length-replicate n 0

take-zeros : (k n : ℕ) → k ≤ n → take k (zeros n) ≡ zeros k
unfolding zeros
take-zeros zero n h = refl
take-zeros (suc k) zero h = absurd (omega arith)
take-zeros (suc k) (suc n) h = ap (λ (x : List ℕ). 0 ∷ x) (take-zeros k n (omega arith))

-- bytes among zeros
put-zeros : (n k : ℕ) (m : List ℕ) → k + length m ≤ n → put (zeros n) k m ≡ zeros k ++ (m ++ zeros (n - (k + length m)))
unfolding put
put-zeros n k m h = ap₂ (λ (a b : List ℕ). a ++ (m ++ b)) (take-zeros k n (omega arith)) (drop-zeros (k + length m) n)

-- ## The frame

-- what stands before the leaf, part by part
pub front-laid : (n : ℕ) (s : List ℕ) → head_length ≤ length s → {none id last address front : List ℕ} → none ≡ zeros leaf_start
    → id ≡ laid none 0 (take 16 (drop 2 s)) → last ≡ laid id 17 (take 2 (drop 18 s))
    → address ≡ laid (set last 19 1) 20 (take 7 (drop 20 s))
    → front ≡ laid address 27 (word_bytes leaf_start)
    → front ≡ front_with 0 (plain_from n s)
unfolding pick put laid zeros front_with plain_from spell word_bytes
front-laid n s h e₀ e₁ e₂ e₃ e₄ =
    rw (e₄, e₃, e₂, e₁, e₀)
    (rw (
      spelled 2 16 s (omega arith),
      spelled 18 2 s (omega arith),
      spelled 20 7 s (omega arith),
      spelled 20 6 s (omega arith),
    ) refl)

module _ (p : Plain) (z : SizedFields p) where
  -- among zeros, and the maker's bytes where leaves end
  pub frame_is : (l : Layout) (at : ℕ) {none front image framed : List ℕ} → none ≡ zeros (image_length l.size)
      → front ≡ front_with 0 p → image ≡ laid none 0 front → at ≡ leaves_end l → framed ≡ laid image at p.maker
      → framed ≡ frame_of l (front_with 0 p) p.maker
  unfolding frame_of zeros front_with
  frame_is l at e₀ e₁ e₂ ea ef =
      let g = geometry l in
      let f = front_with 0 p in
      let n = image_length l.size in
      let k = leaves_end l - leaf_start in
      let m = p.maker in
      let place : at ≡ leaf_start + k = omega arith in
      let behind : n - (0 + length f) ≡ n - leaf_start = omega (arith, front_length p 0 z) in
      let left : (n - leaf_start) - (k + length m) ≡ n - checked_length l = omega (arith, z.maker) in
      let first = e₂ ∙ ap₂ (λ (x y : List ℕ). laid x 0 y) e₀ e₁
      ∙ laid-put (zeros n) 0 f (omega (arith, front_length p 0 z, zeros-length n)) ∙ put-zeros n 0 f (omega (arith, front_length p 0 z)) in
      ef ∙ ap₂ (λ (x : List ℕ) (i : ℕ). laid x i m) (first ∙ ap (λ (i : ℕ). f ++ zeros i) behind) place
      ∙ laid-behind f (zeros (n - leaf_start)) m leaf_start k (front_length p 0 z)
      (omega (arith, z.maker, zeros-length (n - leaf_start)))
      ∙ ap (λ (x : List ℕ). f ++ x)
      (put-zeros (n - leaf_start) k m (omega (arith, z.maker)) ∙ ap (λ (i : ℕ). zeros k ++ (m ++ zeros i)) left)

  -- the ID CRC goes to its byte, which it does not cover
  pub with-id-crc : (l : Layout) → with_id_crc (frame_of l (front_with 0 p) p.maker)
      ≡ frame_of l (front_of p) p.maker
  unfolding with_id_crc frame_of front_of front_with
  with-id-crc l =
      let rest = zeros (leaves_end l - leaf_start) ++ (p.maker ++ zeros (image_length l.size - checked_length l)) in
      ap (λ (v : ℕ). set (front_with 0 p ++ rest) id_crc_at v) (id-covers-front (front_with 0 p) rest (omega (arith, front_length p 0 z)))
      ∙ ap (λ (x : List ℕ). set x id_crc_at (id_crc (front_with 0 p))) (append_assoc p.id _ rest)
      ∙ set_at p.id 0 _ (id_crc (front_with 0 p)) 16 z.id
      ∙ sym (append_assoc p.id _ rest)

-- ## The leaf in its place

padded-is : (n : ℕ) (l : List ℕ) → padded n l ≡ l ++ zeros (n - length l)
unfolding padded zeros
padded-is n l = refl

-- n zeros and what follows them, with bytes at the front
on-zeros : (n : ℕ) (l after : List ℕ) → length l ≤ n → put (zeros n ++ after) 0 l ≡ padded n l ++ after
unfolding put
on-zeros n l after h =
    let rest : drop (0 + length l) (zeros n ++ after) ≡ zeros (n - length l) ++ after
    = ap (λ (k : ℕ). drop k (zeros n ++ after)) none ∙ drop-append-le (length l) (zeros n) after (omega (arith, zeros-length n))
    ∙ ap (λ (x : List ℕ). x ++ after) (drop-zeros (length l) n) in
    ap (λ (x : List ℕ). l ++ x) rest ∙ sym (append_assoc l (zeros (n - length l)) after)
    ∙ ap (λ (x : List ℕ). x ++ after) (sym (padded-is n l))
  where
    none : 0 + length l ≡ length l
    none = omega arith

-- all m bytes behind f, n zeros first, are lent, and the bytes are put at their front
pub leaf-in-place : (f l after : List ℕ) (n m : ℕ) → length f ≡ leaf_start → length l ≤ n → n + length after ≤ m
    → put_mid leaf_start m (f ++ (zeros n ++ after)) (put (take m (drop leaf_start (f ++ (zeros n ++ after)))) 0 l)
    ≡ f ++ (padded n l ++ after)
leaf-in-place f l after n m h fits all =
    let short : length (zeros n ++ after) ≤ m = simp length-append (omega (arith, zeros-length n)) in
    let behind : drop leaf_start (f ++ (zeros n ++ after)) ≡ zeros n ++ after = drop_at f (zeros n ++ after) leaf_start h in
    let lent : take m (drop leaf_start (f ++ (zeros n ++ after))) ≡ zeros n ++ after
    = ap (take m) behind ∙ take_all m (zeros n ++ after) short in
    let rest : drop m (drop leaf_start (f ++ (zeros n ++ after))) ≡ []
    = ap (drop m) behind ∙ drop_of_length-le (zeros n ++ after) {i = m} short in
    ap₂ (λ (a b : List ℕ). a ++ b) (take_at f (zeros n ++ after) leaf_start h)
    (ap₂ (λ (a b : List ℕ). a ++ b) (ap (λ (x : List ℕ). put x 0 l) lent ∙ on-zeros n l after fits) rest ∙ append-nil (padded n l ++ after))

-- ## The SROM CRC behind what it covers

with-srom-crc : (l : Layout) (c : List ℕ) (z : ℕ) → length c ≡ checked_length l → 2 ≤ z
    → with_srom_crc l (c ++ zeros z) ≡ (c ++ word_bytes (srom_crc l c)) ++ zeros (z - 2)
unfolding with_srom_crc put word_bytes
with-srom-crc l c z h more =
    let v = srom_crc l (c ++ zeros z) in
    let behind : checked_length l + 2 ≡ length c + 2 = omega arith in
    ap₂ (λ (a b : List ℕ). a ++ (word_bytes v ++ b)) (take_at c (zeros z) (checked_length l) h)
    (ap (λ (n : ℕ). drop n (c ++ zeros z)) behind ∙ drop-append-add c (zeros z) 2 ∙ drop-zeros 2 z)
    ∙ sym (append_assoc c (word_bytes v) (zeros (z - 2)))
    ∙ ap (λ (n : ℕ). (c ++ word_bytes n) ++ zeros (z - 2)) (srom-front l c (zeros z) (omega arith))

-- the length that is written to, which what is built for it has too
module _ {l : Layout} {n : ℕ} {s out : List ℕ} (w : Writable l n s out) where
  pub output-length : length out ≡ image_length l.size
  output-length = right-length l.size (length out) w.right

  pub right-image : {n : ℕ} → n ≡ image_length l.size → wrong_length l.size n ≡ false
  right-image e = ap (wrong_length l.size) (e ∙ sym output-length) ∙ w.right

module _ {n : ℕ} {s : List ℕ} (is : Counted n s) {l : Layout} {out : List ℕ} (w : Writable l n s out) where
  size : SizedFields (plain_from n s)
  size = sized-fields is

  regrouped : (f p m : List ℕ) (k z : ℕ) → f ++ (padded k p ++ (m ++ zeros z)) ≡ (f ++ (padded k p ++ m)) ++ zeros z
  regrouped f p m k z = simp append_assoc

  -- frame, ID CRC, leaf, SROM CRC
  board-is : {image₀ image room image₂ : List ℕ} → image₀ ≡ frame_of l (front_with 0 (plain_from n s)) (plain_from n s).maker
      → image ≡ with_id_crc image₀ → (m : ℕ) → m ≡ image_length l.size - leaf_start
      → room ≡ put (take m (drop leaf_start image)) 0 (leaf_of (plain_from n s))
      → image₂ ≡ with_srom_crc l (put_mid leaf_start m image room)
      → image₂ ≡ board_of l (plain_from n s) ++ zeros (image_length l.size - board_length l)
  unfolding board_of covered_of frame_of front_of
  board-is {image₀} {image} {room} {image₂} e₀ e m em er e₂ =
      let g = geometry l in
      let p : Plain = plain_from n s in
      let z = image_length l.size - checked_length l in
      let i : image ≡ frame_of l (front_of p) p.maker = e ∙ ap with_id_crc e₀ ∙ with-id-crc (plain_from n s) size l in
      let after : (leaves_end l - leaf_start) + length (p.maker ++ zeros z) ≤ m
      = simp length-append (omega (arith, size.maker, zeros-length z)) in
      let whole : put_mid leaf_start m image room ≡ covered_of l p ++ zeros z
      = ap (put_mid leaf_start m image) er
      ∙ ap (λ (x : List ℕ). put_mid leaf_start m x (put (take m (drop leaf_start x)) 0 (leaf_of p))) i
      ∙ leaf-in-place (front_of p) (leaf_of p) (p.maker ++ zeros z) (leaves_end l - leaf_start) m
      (front_length p (id_crc (front_with 0 p)) size) (leaf-fits w) after
      ∙ regrouped (front_of p) (leaf_of p) p.maker (leaves_end l - leaf_start) z in
      let left : z - 2 ≡ image_length l.size - board_length l = omega arith in
      e₂ ∙ ap (with_srom_crc l) whole
      ∙ with-srom-crc l (covered_of l p) z (covered-length l p [] size (leaf-fits w)) (omega arith)
      ∙ ap (λ (k : ℕ). board_of l p ++ zeros k) left

  -- and what the output has behind the board
  pub built-is : {image₀ image room image₂ built : List ℕ} → image₀ ≡ frame_of l (front_with 0 (plain_from n s)) (plain_from n s).maker
      → image ≡ with_id_crc image₀ → (m : ℕ) → m ≡ image_length l.size - leaf_start
      → room ≡ put (take m (drop leaf_start image)) 0 (leaf_of (plain_from n s))
      → image₂ ≡ with_srom_crc l (put_mid leaf_start m image room)
      → {end : ℕ} → end ≡ board_length l → built ≡ laid image₂ end (take (length out - end) (drop end out))
      → built ≡ image_of l (plain_from n s) out
  unfolding image_of
  built-is e₀ e m em er e₂ {end} ee eb =
      let g = geometry l in
      let p : Plain = plain_from n s in
      let z = zeros (image_length l.size - board_length l) in
      let b = board-length l p out size (leaf-fits w) in
      let tail : take (length out - end) (drop end out) ≡ drop (board_length l) out
      = ap (λ (k : ℕ). take (length out - k) (drop k out)) ee
      ∙ take_all (length out - board_length l) (drop (board_length l) out) (simp length-drop (omega arith)) in
      let long : board_length l + length (drop (board_length l) out) ≡ length (board_of l p ++ z)
      = omega (
        arith,
        length-append (board_of l p) z,
        length-drop (board_length l) out,
        b,
        output-length w,
        zeros-length (image_length l.size - board_length l),
      ) in
      eb ∙ ap₂ (λ (x : List ℕ) (k : ℕ). laid x k (take (length out - end) (drop end out)))
      (board-is e₀ e m em er e₂) ee
      ∙ ap (laid (board_of l p ++ z) (board_length l)) tail
      ∙ laid_end (board_of l p ++ z) (drop (board_length l) out) (board_length l) long
      ∙ ap (λ (x : List ℕ). x ++ drop (board_length l) out) (take_at (board_of l p) z (board_length l) b)

-- ## The zeros that it is built in

module _ (l : Layout) (room : List ℕ) {n : ℕ} (er : room ≡ zeros large_size) (en : n ≡ image_length l.size) where
  pub room-fits : n ≤ length room
  room-fits = let g = geometry l in omega (arith, ap length er, zeros-length large_size)

  pub in-zeros : take n room ≡ zeros (image_length l.size)
  in-zeros =
      let g = geometry l in
      ap₂ take en er ∙ take-zeros (image_length l.size) large_size (omega arith)
