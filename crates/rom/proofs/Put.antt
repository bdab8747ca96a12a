-- Laws of `put` and `laid`: a list with other bytes from a place on. Assumes nothing.
use Prim.Native.Nat.{ℕ, ◌+◌, ◌-◌, ◌≤◌, ◌<◌}
use mathlib.Core.Path.{◌≡◌, sym, ap, ap₂, ◌∙◌}
use mathlib.Core.List.{List, [], ◌∷◌, ◌++◌, append_assoc, append-nil}
use native.Mathlib.Omega.{arith}
use native.Mathlib.Nat.{add-zero}
use native.Mathlib.Numerals.{add-one}
use lib.ListN.{length, take, drop, set, length-append, length-take, length-drop, take-append-drop, drop_of_length-le}
use lib.Seq.{length-take-le, take_at, drop_at, take-take, take-append-le, take-append-add, drop-append-add, drop-drop, sets-eq}
use borrow.Author.Tests.{le-leb, lt-leb}
use borrow.Rule.Slice.PartMut.{put_mid}
use Rattle.rom.specs.Store.{word_bytes, put, laid}
use Rattle.rom.proofs.Truth.{pick_true, pick-false}

pub put-none : (xs : List ℕ) (at : ℕ) → put xs at [] ≡ xs
unfolding put
put-none xs at = ap (λ (n : ℕ). take at xs ++ drop n xs) (add-zero at) ∙ take-append-drop at xs

module _ (xs : List ℕ) (at : ℕ) (ys : List ℕ) (h : at + length ys ≤ length xs) where
  pub put-length : length (put xs at ys) ≡ length xs
  unfolding put
  put-length = simp (length-append, length-take, length-drop) (omega arith)

  front_length : length (take at xs ++ ys) ≡ at + length ys
  front_length = simp (length-append, length-take) (omega arith)

  pub put-take : take (at + length ys) (put xs at ys) ≡ take at xs ++ ys
  unfolding put
  put-take = ap (take (at + length ys)) (sym (append_assoc (take at xs) ys _)) ∙ take_at (take at xs ++ ys) _ _ front_length

  pub put-drop : drop (at + length ys) (put xs at ys) ≡ drop (at + length ys) xs
  unfolding put
  put-drop = ap (drop (at + length ys)) (sym (append_assoc (take at xs) ys _)) ∙ drop_at (take at xs ++ ys) _ _ front_length

-- two that follow each other are one
pub put-put : (xs : List ℕ) (at : ℕ) (a b : List ℕ) → at + length a ≤ length xs → put (put xs at a) (at + length a) b ≡ put xs at (a ++ b)
unfolding put
put-put xs at a b h =
    let after : drop (at + length a + length b) (put xs at a) ≡ drop (at + length (a ++ b)) xs
    = sym (drop-drop (length b) (at + length a) (put xs at a)) ∙ ap (drop (length b)) (put-drop xs at a h)
    ∙ drop-drop (length b) (at + length a) xs ∙ ap (λ (n : ℕ). drop n xs) same in
    ap₂ (λ (l r : List ℕ). l ++ (b ++ r)) (put-take xs at a h) after ∙ append_assoc (take at xs) a _
    ∙ ap (λ (l : List ℕ). take at xs ++ l) (sym (append_assoc a b _))
  where
    same : at + length a + length b ≡ at + length (a ++ b)
    same = simp length-append (omega arith)

-- the same for what two calls leave
pub put-joined : (xs : List ℕ) (at : ℕ) (a b : List ℕ) {ys zs : List ℕ} {next : ℕ} → ys ≡ put xs at a → zs ≡ put ys next b
    → next ≡ at + length a → at + length a ≤ length xs → zs ≡ put xs at (a ++ b)
put-joined xs at a b {ys} {zs} {next} ey ez en h = ez ∙ ap₂ (λ (l : List ℕ) (n : ℕ). put l n b) ey en ∙ put-put xs at a b h

-- one store, and two
pub put_one : (xs : List ℕ) (at a : ℕ) → at + 1 ≤ length xs → set xs at a ≡ put xs at (a ∷ [])
unfolding put
put_one xs at a h = sets-eq (a ∷ []) xs at h ∙ append_assoc (take at xs) (a ∷ []) _

pub put_two : (xs : List ℕ) (at a b : ℕ) → at + 2 ≤ length xs → set (set xs at a) (at + 1) b ≡ put xs at (a ∷ b ∷ [])
unfolding put
put_two xs at a b h =
    ap (λ (n : ℕ). set (set xs at a) n b) (add-one at) ∙ sets-eq (a ∷ b ∷ []) xs at h ∙ append_assoc (take at xs) (a ∷ b ∷ []) _

-- a whole copy into the part of its length
pub put-part : (xs : List ℕ) (at : ℕ) (ys zs : List ℕ) → zs ≡ ys → put_mid at (at + length ys - at) xs zs ≡ put xs at ys
unfolding put
put-part xs at ys zs is =
    ap₂ (λ (a b : List ℕ). take at xs ++ (a ++ b)) is (drop-drop (at + length ys - at) at xs ∙ ap (λ (n : ℕ). drop (at + n) xs) long)
  where
    long : at + length ys - at ≡ length ys
    long = omega arith

-- as many bytes as there are
pub put_whole : (xs ys : List ℕ) → length ys ≡ length xs → put xs 0 ys ≡ ys
unfolding put
put_whole xs ys e = ap (λ (l : List ℕ). ys ++ l) (drop_of_length-le xs {i = 0 + length ys} (omega arith)) ∙ append-nil ys

-- what fits is put, and what does not changes nothing
module _ (xs : List ℕ) (at : ℕ) (ys : List ℕ) where
  pub laid-put : at + length ys ≤ length xs → laid xs at ys ≡ put xs at ys
  unfolding laid
  laid-put h = pick_true _ _ _ (le-leb (at + length ys) (length xs) h)

  pub laid_kept : length xs < at + length ys → xs ≡ laid xs at ys
  unfolding laid
  laid_kept h = sym (pick-false _ _ _ (lt-leb (at + length ys) (length xs) h))

pub laid_word : (xs : List ℕ) (at word : ℕ) → at + 2 ≤ length xs → laid xs at (word_bytes word) ≡ put xs at (word_bytes word)
unfolding word_bytes
laid_word xs at word h = laid-put xs at (word_bytes word) h

pub laid-whole : (xs ys : List ℕ) → length ys ≡ length xs → laid xs 0 ys ≡ ys
laid-whole xs ys e = laid-put xs 0 ys (omega arith) ∙ put_whole xs ys e

-- bytes laid in at the end
pub laid_end : (xs ys : List ℕ) (at : ℕ) → at + length ys ≡ length xs → laid xs at ys ≡ take at xs ++ ys
unfolding put
laid_end xs ys at h =
    laid-put xs at ys (omega arith)
    ∙ ap (λ (l : List ℕ). take at xs ++ (ys ++ l)) (drop_of_length-le xs {i = at + length ys} (omega arith))
    ∙ ap (λ (l : List ℕ). take at xs ++ l) (append-nil ys)

-- into the second of two lists
put-behind : (xs ys zs : List ℕ) (at k : ℕ) → length xs ≡ at → put (xs ++ ys) (at + k) zs ≡ xs ++ put ys k zs
unfolding put
put-behind xs ys zs at k l =
    let from : at + k ≡ length xs + k = omega arith in
    let to : (at + k) + length zs ≡ length xs + (k + length zs) = omega arith in
    ap₂ (λ (i j : ℕ). take i (xs ++ ys) ++ (zs ++ drop j (xs ++ ys))) from to
    ∙ ap₂ (λ (a b : List ℕ). a ++ (zs ++ b)) (take-append-add xs ys k) (drop-append-add xs ys (k + length zs))
    ∙ append_assoc xs (take k ys) (zs ++ drop (k + length zs) ys)

pub laid-behind : (xs ys zs : List ℕ) (at k : ℕ) → length xs ≡ at → k + length zs ≤ length ys
    → laid (xs ++ ys) (at + k) zs ≡ xs ++ put ys k zs
laid-behind xs ys zs at k l h =
    let n : (at + k) + length zs ≤ length (xs ++ ys) = rw length-append (omega arith) in
    laid-put (xs ++ ys) (at + k) zs n ∙ put-behind xs ys zs at k l

-- two that do not overlap, in either order
module _ (xs : List ℕ) (at : ℕ) (ys : List ℕ) (to : ℕ) (zs : List ℕ) (h : at + length ys ≤ to) (g : to + length zs ≤ length xs) where
  front_fits : at + length ys ≤ length xs
  front_fits = omega arith

  apart : to ≡ (at + length ys) + (to - (at + length ys))
  apart = omega arith

  head-long : length (take (at + length ys) xs) ≡ at + length ys
  head-long = length-take-le (at + length ys) xs front_fits

  later : put xs to zs ≡ take (at + length ys) xs ++ put (drop (at + length ys) xs) (to - (at + length ys)) zs
  later =
      ap₂ (λ (l : List ℕ) (n : ℕ). put l n zs) (sym (take-append-drop (at + length ys) xs)) apart
      ∙ put-behind (take (at + length ys) xs) (drop (at + length ys) xs) zs (at + length ys) (to - (at + length ys)) head-long

  earlier : (rest : List ℕ) → put (take (at + length ys) xs ++ rest) at ys ≡ take at xs ++ (ys ++ rest)
  unfolding put
  earlier rest =
      ap₂ (λ (a b : List ℕ). a ++ (ys ++ b))
      (take-append-le at (take (at + length ys) xs) rest (omega (arith, head-long)) ∙ take-take at (at + length ys) xs (omega arith))
      (drop_at (take (at + length ys) xs) rest (at + length ys) head-long)

  pub put-swap : put (put xs to zs) at ys ≡ put (put xs at ys) to zs
  unfolding put
  put-swap =
      let n = to - (at + length ys) in
      let rest = drop (at + length ys) xs in
      ap (λ (l : List ℕ). put l at ys) later ∙ earlier (put rest n zs) ∙ sym (append_assoc (take at xs) ys (put rest n zs))
      ∙ sym (put-behind (take at xs ++ ys) rest zs (at + length ys) n (front_length xs at ys front_fits))
      ∙ ap₂ (λ (l : List ℕ) (n : ℕ). put l n zs) (append_assoc (take at xs) ys rest) (sym apart)
