-- Tables of rows: what is so of every row is one test, which is computed over the whole table. Assumes nothing.
use Prim.Native.Nat.{ℕ, zero, suc, ◌≤◌}
use native.Mathlib.Nat.{le_of_suc-le-suc, not-suc-le-zero}
use mathlib.Core.Path.{◌≡◌, refl, subst}
use mathlib.Core.Bool.{Bool, true, false, ◌||◌, ◌&&◌}
use mathlib.Core.List.{List, [], ◌∷◌}
use mathlib.Core.Logic.{◌⊎◌, inl, inr, ⊎_elim}
use lib.Dec.{T, eqb, eqb→eq}
use lib.ListN.{length, get_or}
use Rattle.rom.specs.Bytes.{is_in}
use Rattle.rom.proofs.Below.{both_left, both_right}

either : (a b : Bool) → T (a || b) → T a ⊎ T b
either true b t = inl t
either false b t = inr t

equal : (a b : Bool) → (T a → T b) → (T b → T a) → a ≡ b
equal true true f g = refl
equal true false f g = absurd (f tt)
equal false true f g = absurd (g tt)
equal false false f g = refl

-- ## A test that each member of a row passes

abbrev pub every : (ℕ → Bool) → List ℕ → Bool
every p [] = true
every p (x ∷ xs) = p x && every p xs

pub member : (p : ℕ → Bool) (x : ℕ) (xs : List ℕ) → T (every p xs) → T (is_in x xs) → T (p x)
unfolding is_in
member p x [] t h = absurd h
member p x (y ∷ ys) t h =
    ⊎_elim (λ e. subst (λ (z : ℕ). T (p z)) (eqb→eq y x e) (both_left (p y) (every p ys) t))
    (member p x ys (both_right (p y) (every p ys) t)) (either (eqb y x) (is_in x ys) h)

abbrev pub every-row : (ℕ → Bool) → List (List ℕ) → Bool
every-row p [] = true
every-row p (a ∷ rows) = every p a && every-row p rows

pub in_row : (p : ℕ → Bool) (rows : List (List ℕ)) → T (every-row p rows) → (row x : ℕ) → T (is_in x (get_or rows row [])) → T (p x)
in_row p [] t row x h = member p x [] tt h
in_row p (a ∷ rows) t zero x h = member p x a (both_left (every p a) (every-row p rows) t) h
in_row p (a ∷ rows) t (suc row) x h = in_row p rows (both_right (every p a) (every-row p rows) t) row x h

-- ## Two tables whose rows have the same members, as a padded row and the row that it pads

abbrev same_row : List ℕ → List ℕ → Bool
same_row a b = every (λ x. is_in x b) a && every (λ x. is_in x a) b

abbrev pub all_alike : List (List ℕ) → List (List ℕ) → Bool
all_alike [] [] = true
all_alike [] (b ∷ vs) = false
all_alike (a ∷ us) [] = false
all_alike (a ∷ us) (b ∷ vs) = same_row a b && all_alike us vs

pub same-members : (us vs : List (List ℕ)) → T (all_alike us vs) → (row x : ℕ) → is_in x (get_or us row []) ≡ is_in x (get_or vs row [])
same-members [] [] t row x = refl
same-members [] (b ∷ vs) t row x = absurd t
same-members (a ∷ us) [] t row x = absurd t
same-members (a ∷ us) (b ∷ vs) t zero x =
    let here = both_left (same_row a b) (all_alike us vs) t in
    equal (is_in x a) (is_in x b)
    (member (λ x. is_in x b) x a (both_left (every (λ x. is_in x b) a) (every (λ x. is_in x a) b) here))
    (member (λ x. is_in x a) x b (both_right (every (λ x. is_in x b) a) (every (λ x. is_in x a) b) here))
same-members (a ∷ us) (b ∷ vs) t (suc row) x = same-members us vs (both_right (same_row a b) (all_alike us vs) t) row x

-- past the last row nothing is listed
pub past : (vs : List (List ℕ)) (row x : ℕ) → length vs ≤ row → false ≡ is_in x (get_or vs row [])
unfolding is_in
past [] row x l = refl
past (b ∷ vs) zero x l = absurd (not-suc-le-zero l)
past (b ∷ vs) (suc row) x l = past vs row x (le_of_suc-le-suc l)
