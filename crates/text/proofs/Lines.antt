-- Lines as they are cut off, and as std cuts a list where a test holds: by induction over the text. Assumes nothing.
use Rattle.std.proofs.Common.{◌≡◌, ◌+◌, ◌<◌, ◌≤◌, ℕ, zero, suc, Bool, true, false, cond, ◌⊎◌, inl, inr, List, [], ◌∷◌, ◌++◌}
use Rattle.std.proofs.Common.{length, take, drop, get_or, eqb, nat_lt, position, Option, Some, None, Bor}
use Rattle.std.proofs.Common.{refl, sym, ap, ◌∙◌, arith, length-drop}
use borrow.Author.Tests.{ltb-false}
use lib.Seq.{take_all}
use Rattle.std.specs.Option.{unwrap_or, option_map}
use Rattle.std.proofs.lemmas.Option.{unwrap_or-slice_get}
use Rattle.std.specs.List.{before_first, slice_get, slice_split, onto_first, position_or_len}
use Rattle.rom.specs.Bytes.{pick}
use Rattle.text.specs.Lines.{newline, line_of, behind_line, in_front, lines_of}

-- the end of a line
abbrev pub is_end : ℕ → Bool
is_end c = eqb c newline

-- ## The first line

pub line-before : (s : List ℕ) → line_of s ≡ before_first is_end s
unfolding line_of pick
line-before [] = refl
line-before (c ∷ cs) = go (eqb c newline) refl (line-before cs)
  where
    one_more : (n : ℕ) → take (1 + n) (c ∷ cs) ≡ c ∷ take n cs
    one_more n = let e : 1 + n ≡ suc n = omega arith in rw e

    go : (t : Bool) → eqb c newline ≡ t → line_of cs ≡ before_first is_end cs → pick t [] (c ∷ line_of cs) ≡ before_first is_end (c ∷ cs)
    go true e ih = simp e
    go false e ih = simp (e, one_more, ← ih)

-- where `position` finds the end, or the text's length
pub first-ends : (s : List ℕ) {r : Option ℕ} {n : ℕ} → r ≡ position is_end s → n ≡ unwrap_or r (length s) → take n s ≡ line_of s
first-ends s er en = rw (en, er) (go (nat_lt (position_or_len is_end s) (length s)) refl ∙ sym (line-before s))
  where
    go : (t : Bool) → nat_lt (position_or_len is_end s) (length s) ≡ t
        → take (unwrap_or (cond t (Some (position_or_len is_end s)) None) (length s)) s ≡ before_first is_end s
    go true e = refl
    go false e =
        let h : length s ≤ position_or_len is_end s = ltb-false _ _ e in
        take_all (length s) s (omega arith) ∙ sym (take_all (position_or_len is_end s) s h)

pub lines_behind : (s : List ℕ) → 0 < length s → lines_of s ≡ line_of s ∷ lines_of (drop 1 (drop (length (line_of s)) s))
unfolding lines_of line_of pick
lines_behind [] h = absurd (omega arith)
lines_behind (c ∷ cs) h = go (eqb c newline) cs (lines_behind cs)
  where
    go : (t : Bool) (cs : List ℕ) → (0 < length cs → lines_of cs ≡ line_of cs ∷ lines_of (behind_line cs))
        → pick t ([] ∷ lines_of cs) (in_front c (lines_of cs))
        ≡ pick t [] (c ∷ line_of cs) ∷ lines_of (drop 1 (drop (length (pick t [] (c ∷ line_of cs))) (c ∷ cs)))
    go true cs ih = refl
    go false [] ih = refl
    go false (d ∷ ds) ih = ap (in_front c) (ih (omega arith))

pub behind_shorter : (s : List ℕ) → 0 < length s → length (drop 1 (drop (length (line_of s)) s)) < length s
behind_shorter s h = simp length-drop (omega arith)

-- ## All lines: std's parts have an empty one more, where the text ends with the end of a line, or is empty

pub lines-split : (s : List ℕ) → (slice_split is_end s ≡ lines_of s) ⊎ (slice_split is_end s ≡ lines_of s ++ [] ∷ [])
unfolding lines_of pick
lines-split [] = inr refl
lines-split (c ∷ cs) = go (eqb c newline) (lines_of cs) (lines-split cs)
  where
    front : (ls : List (List ℕ)) → onto_first c ls ≡ in_front c ls
    front [] = refl
    front (l ∷ ls) = refl

    go : (t : Bool) (ls : List (List ℕ)) → (slice_split is_end cs ≡ ls) ⊎ (slice_split is_end cs ≡ ls ++ [] ∷ [])
        → (cond t ([] ∷ slice_split is_end cs) (onto_first c (slice_split is_end cs)) ≡ pick t ([] ∷ ls) (in_front c ls))
        ⊎ (cond t ([] ∷ slice_split is_end cs) (onto_first c (slice_split is_end cs)) ≡ pick t ([] ∷ ls) (in_front c ls) ++ [] ∷ [])
    go true ls (inl e) = inl (ap (λ ps. [] ∷ ps) e)
    go true ls (inr e) = inr (ap (λ ps. [] ∷ ps) e)
    go false ls (inl e) = inl (ap (onto_first c) e ∙ front ls)
    go false [] (inr e) = inl (ap (onto_first c) e)
    go false (l ∷ ls) (inr e) = inr (ap (onto_first c) e)

-- a part, or nothing in its place
pub shown : (r : Option (Bor (List ℕ))) (d : Bor (List ℕ)) → d.now ≡ [] → (unwrap_or r d).now ≡ unwrap_or (option_map (λ x. x.now) r) []
shown None d e = e
shown (Some x) d e = refl

-- so each line has its number there, and an empty one is where there is none
pub line-at : (s : List ℕ) (n : ℕ) (r : Option (Bor (List ℕ))) (d : Bor (List ℕ)) → d.now ≡ []
    → option_map (λ x. x.now) r ≡ slice_get (slice_split is_end s) n → (unwrap_or r d).now ≡ get_or (lines_of s) n []
line-at s n r d ed er = shown r d ed ∙ ap (λ o. unwrap_or o []) er ∙ unwrap_or-slice_get (slice_split is_end s) n [] ∙ go (lines-split s)
  where
    more : (ls : List (List ℕ)) (k : ℕ) → get_or (ls ++ [] ∷ []) k [] ≡ get_or ls k []
    more [] zero = refl
    more [] (suc k) = refl
    more (l ∷ ls) zero = refl
    more (l ∷ ls) (suc k) = more ls k

    go : (slice_split is_end s ≡ lines_of s) ⊎ (slice_split is_end s ≡ lines_of s ++ [] ∷ [])
        → get_or (slice_split is_end s) n [] ≡ get_or (lines_of s) n []
    go (inl e) = rw e refl
    go (inr e) = rw e (more (lines_of s) n)
