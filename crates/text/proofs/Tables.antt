-- The words behind a key are those of the first line that has it. Assumes nothing.
use Rattle.std.proofs.Common.{◌≡◌, ℕ, zero, suc, Bool, true, false, ◌⊎◌, inl, inr, List, [], ◌∷◌, ◌++◌, length, drop}
use Rattle.std.proofs.Common.{cond, Option, Some, Bor, refl, sym, ap, ◌∙◌}
use Rattle.std.specs.Option.{option_map, unwrap_or}
use Rattle.std.specs.List.{find, slice_split}
use Rattle.rom.specs.Bytes.{pick}
use Rattle.text.specs.Tables.{has_key, words_in}
use Rattle.text.specs.Lines.{lines_of}
use Rattle.text.proofs.Lines.{is_end, shown, lines-split}

nothing : (n : ℕ) → drop 1 (drop {A = ℕ} n []) ≡ []
nothing zero = refl
nothing (suc n) = refl

module _ (key : List ℕ) where
  -- what stands behind the key and the blank
  abbrev pub behind_key : List ℕ → List ℕ
  behind_key line = drop 1 (drop (length key) line)

  words-first : (ls : List (List ℕ)) → words_in key ls ≡ behind_key (unwrap_or (find (has_key key) ls) [])
  unfolding words_in pick
  words-first [] = sym (nothing (length key))
  words-first (l ∷ ls) = go (has_key key l) (words-first ls)
    where
      go : (t : Bool) → words_in key ls ≡ behind_key (unwrap_or (find (has_key key) ls) [])
          → pick t (behind_key l) (words_in key ls) ≡ behind_key (unwrap_or (cond t (Some l) (find (has_key key) ls)) [])
      go true e = refl
      go false e = e

  -- an empty line has none
  words-more : (ls : List (List ℕ)) → words_in key (ls ++ [] ∷ []) ≡ words_in key ls
  unfolding words_in has_key pick
  words-more [] = refl
  words-more (l ∷ ls) = ap (pick (has_key key l) (behind_key l)) (words-more ls)

  pub words-found : (s : List ℕ) (r : Option (Bor (List ℕ))) (d : Bor (List ℕ)) → d.now ≡ []
      → option_map (λ x. x.now) r ≡ find (has_key key) (slice_split is_end s) → behind_key (unwrap_or r d).now ≡ words_in key (lines_of s)
  words-found s r d ed er = ap behind_key (shown r d ed ∙ ap (λ o. unwrap_or o []) er) ∙ go (lines-split s)
    where
      go : (slice_split is_end s ≡ lines_of s) ⊎ (slice_split is_end s ≡ lines_of s ++ [] ∷ [])
          → behind_key (unwrap_or (find (has_key key) (slice_split is_end s)) []) ≡ words_in key (lines_of s)
      go (inl e) = rw e (sym (words-first (lines_of s)))
      go (inr e) = rw e (sym (words-first (lines_of s ++ [] ∷ [])) ∙ words-more (lines_of s))
