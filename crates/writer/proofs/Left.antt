-- Three parallel parts, entry by entry. Assumes nothing.
use Rattle.std.proofs.Common.{ℕ, zero, suc, ◌+◌, ◌*◌, ◌≡◌, ◌≤◌, refl, ap, List, [], ◌∷◌, length, take, drop, length-drop, arith}
use Rattle.rom.specs.Bytes.{word_at}
use Rattle.sheet.specs.Lists.{sum}
use Rattle.sheet.specs.Sheet.{entries_from}
use Rattle.writer.specs.Inside.{Parts}

front-word : (s : List ℕ) → 2 ≤ length s → word_at (take 2 s) 0 ≡ word_at s 0
unfolding word_at
front-word [] h = absurd (omega arith)
front-word (a ∷ []) h = absurd (omega arith)
front-word (a ∷ b ∷ s) h = refl

pub entries-none : (ks ss bs : List ℕ) → length ss ≡ 0 → entries_from (length ss) ks ss bs ≡ []
unfolding entries_from
entries-none ks ss bs e = rw e refl

-- the first entry, and what is left
module _ {ks ss bs : List ℕ} (p : Parts ks ss bs) {x : ℕ} {rest : List ℕ} (e : ss ≡ x ∷ rest) where
  total : sum ss ≡ x + sum rest
  unfolding sum
  total = ap sum e

  pub kind_fits : 2 ≤ length ks
  kind_fits = omega (arith, p.for_kinds, ap length e)

  pub body_fits : x ≤ length bs
  body_fits = omega (arith, p.for_bodies, total)

  pub parts_next : {n : ℕ} {kinds bodies : List ℕ} → kinds ≡ drop 2 ks → n ≡ x → bodies ≡ drop n bs → Parts kinds rest bodies
  parts_next ek en eb =
      rw (ek, eb, en) (record {
        for_kinds = omega (arith, p.for_kinds, ap length e, length-drop 2 ks);
        for_bodies = omega (arith, p.for_bodies, total, length-drop x bs);
      })

  pub entries-next : {n w : ℕ} {kind kinds body bodies : List ℕ} → kind ≡ take 2 ks → kinds ≡ drop 2 ks → n ≡ x
      → body ≡ take n bs → bodies ≡ drop n bs → w ≡ word_at kind 0
      → entries_from (length ss) ks ss bs ≡ record { kind = w; body = body } ∷ entries_from (length rest) kinds rest bodies
  unfolding entries_from
  entries-next ek eks en eb ebs ew = rw (ew, ek, front-word ks kind_fits, eks, eb, ebs, en, e) refl

-- no part is read behind its entries
pub entries-front : (n : ℕ) (ks ss bs : List ℕ) → 2 * n ≤ length ks → n ≤ length ss
    → entries_from n (take (2 * n) ks) (take n ss) bs ≡ entries_from n ks ss bs
unfolding entries_from
entries-front zero ks ss bs h g = refl
entries-front (suc n) [] ss bs h g = absurd (omega arith)
entries-front (suc n) (a ∷ []) ss bs h g = absurd (omega arith)
entries-front (suc n) (a ∷ b ∷ ks) [] bs h g = absurd (omega arith)
entries-front (suc n) (a ∷ b ∷ ks) (x ∷ ss) bs h g =
    let two : 2 * suc n ≡ suc (suc (2 * n)) = omega arith in
    rw (two, entries-front n ks ss (drop x bs) (omega arith) (omega arith)) (ap (λ w. record { kind = w; body = take x bs }
    ∷ entries_from n ks ss (drop x bs)) (word-here a b (take (2 * n) ks) ks))
  where
    word-here : (a b : ℕ) (s t : List ℕ) → word_at (a ∷ b ∷ s) 0 ≡ word_at (a ∷ b ∷ t) 0
    word-here a b s t = unfold word_at in refl
