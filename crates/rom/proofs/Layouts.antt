-- What holds of every size and of every layout: the proofs above go by these facts, and no other place computes with the
-- numbers. Assumes nothing.
use Prim.Native.Nat.{ℕ, ◌+◌, ◌-◌, ◌*◌, ◌/◌, ◌≤◌}
use mathlib.Core.Path.{◌≡◌, refl, sym, ◌∙◌}
use mathlib.Core.Bool.{Bool, true, false, not, ◌||◌}
use mathlib.Core.Logic.{◌⊎◌, inl, inr, ⊎_elim}
use native.Mathlib.Omega.{arith}
use lib.Dec.{eqb}
use borrow.Author.Tests.{eq-eqb, ne_eqb, eqb-true, eqb-false, not-false}
use Rattle.rom.specs.declared.Layout.{Layout}
use Rattle.rom.specs.Bytes.{pick}
use Rattle.rom.specs.Geometry.{small_size, large_size, is_size, wrong_length, other_size, image_length, magic_at, magic_word}
use Rattle.rom.specs.Geometry.{board_length, checked_length, leaves_end}
use Rattle.rom.proofs.Truth.{or-false, or-true, pick_true}

-- ## A size

pub record Sized (size : ℕ) : Type 0 where
  pub small : image_length size ≤ 512
  pub large : 128 ≤ image_length size
  -- a Magic Packet block is the image's last 32 bytes, and starts with a whole word
  pub last : magic_at size + 32 ≡ image_length size
  pub word : 2 * magic_word size ≡ magic_at size

-- a size is one of the two
size_is : (size : ℕ) → is_size size ≡ true → (size ≡ 128) ⊎ (size ≡ 512)
unfolding is_size
size_is size e = go (eqb size 128) refl e
  where
    go : (t : Bool) → eqb size 128 ≡ t → (t || eqb size 512) ≡ true → (size ≡ 128) ⊎ (size ≡ 512)
    go true e h = inl (eqb-true size 128 e)
    go false e h = inr (eqb-true size 512 h)

-- and so is the length of an image
length-is : (size : ℕ) → (image_length size ≡ 128) ⊎ (image_length size ≡ 512)
unfolding image_length pick
length-is size = go (is_size size) refl
  where
    go : (t : Bool) → is_size size ≡ t → (pick t size 128 ≡ 128) ⊎ (pick t size 128 ≡ 512)
    go true e = size_is size e
    go false e = inl refl

pub length-by-size : (size : ℕ) → image_length size ≡ pick (eqb size large_size) large_size small_size
unfolding image_length is_size pick
length-by-size size = go (eqb size small_size) refl (eqb size large_size) refl
  where
    go : (a : Bool) → eqb size small_size ≡ a → (b : Bool) → eqb size large_size ≡ b
        → pick (a || b) size small_size ≡ pick b large_size small_size
    go true ea true eb = eqb-true size large_size eb
    go true ea false eb = eqb-true size small_size ea
    go false ea true eb = eqb-true size large_size eb
    go false ea false eb = refl

pub sized : (size : ℕ) → Sized size
unfolding magic_at magic_word
sized size = ⊎_elim (λ e. all (omega arith) (omega arith) (rw e)) (λ e. all (omega arith) (omega arith) (rw e)) (length-is size)
  where
    all : 128 ≤ image_length size → image_length size ≤ 512 → 2 * ((image_length size - 32) / 2) ≡ image_length size - 32 → Sized size
    all more most even = record { small = most; large = more; last = omega arith; word = even }

-- ## A layout

pub record Geometry (l : Layout) : Type 0 where
  pub maker : leaves_end l + 2 ≡ checked_length l
  pub stored : checked_length l + 2 ≡ board_length l
  pub board : board_length l ≤ image_length l.size
  -- a leaf's header fits behind the first controller
  pub roomy : 34 ≤ leaves_end l
  pub small : image_length l.size ≤ 512

pub geometry : (l : Layout) → Geometry l
unfolding leaves_end checked_length board_length pick
geometry l = all (go l.magic).0 (go l.magic).1
  where
    go : (t : Bool) → (38 ≤ pick t (magic_at l.size) (image_length l.size))
        × (pick t (magic_at l.size) (image_length l.size) ≤ image_length l.size)
    go true = let s = sized l.size in (omega arith, omega arith)
    go false = let s = sized l.size in (omega arith, omega arith)

    all : 38 ≤ board_length l → board_length l ≤ image_length l.size → Geometry l
    all more most = let s = sized l.size in
        record {
          maker = omega arith;
          stored = omega arith;
          board = most;
          roomy = omega arith;
          small = s.small;
        }

pub board_room : (l : Layout) → 38 ≤ board_length l
board_room l = let g = geometry l in omega arith

-- ## Refusal 1

-- an image that is not refused for its length has that of its size
pub right-length : (size n : ℕ) → wrong_length size n ≡ false → n ≡ image_length size
unfolding wrong_length image_length
right-length size n e =
    let p = or-false (not (is_size size)) (not (eqb n size)) e in
    eqb-true n size (not-false _ p.1) ∙ sym (pick_true (is_size size) size 128 (not-false _ p.0))

-- a length that is one of the two asks for that size, and another is refused
pub length-known : (size k n : ℕ) → is_size k ≡ true → n ≡ k → not (eqb size k) ≡ wrong_length size n
unfolding wrong_length
length-known size k n known e = go (eqb size k) refl
  where
    go : (t : Bool) → eqb size k ≡ t → not t ≡ (not (is_size size) || not (eqb n size))
    go true et = let s = eqb-true size k et in rw (s, e, known) (simp (eq-eqb k k refl))
    go false et =
        let other = ne_eqb n size (λ z. eqb-false size k et (sym z ∙ e)) in
        rw other (sym (or-true (not (is_size size))))

pub length-other : (size n : ℕ) → (n ≡ small_size → ⊥) → (n ≡ large_size → ⊥) → true ≡ wrong_length size n
unfolding wrong_length is_size
length-other size n a b = go (eqb n size) refl
  where
    go : (t : Bool) → eqb n size ≡ t → true ≡ (not (eqb size small_size || eqb size large_size) || not t)
    go true et = rw (← eqb-true n size et) (simp (ne_eqb n small_size a, ne_eqb n large_size b))
    go false et = sym (or-true (not (eqb size small_size || eqb size large_size)))

-- ## The smaller size

pub small-length : (size : ℕ) → other_size size ≡ false → image_length size ≡ small_size
unfolding other_size image_length is_size pick
small-length size e = rw (eqb-true size small_size (not-false _ e))

-- ## The board

-- the board ends where a Magic Packet block starts
pub magic-board : (l : Layout) → l.magic ≡ true → board_length l ≡ magic_at l.size
unfolding board_length pick
magic-board l e = rw e

-- and without one it is the whole image
pub plain-board : (l : Layout) → l.magic ≡ false → board_length l ≡ image_length l.size
unfolding board_length pick
plain-board l e = rw e
