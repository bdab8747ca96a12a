-- A line is put together piece by piece: what it says with what is left to say is as much of the whole as fits.
-- Assumes nothing.
use Rattle.std.proofs.Common.{◌≡◌, ◌+◌, ◌-◌, ◌<◌, ◌≤◌, ℕ, suc, Bool, true, false, List, [], ◌∷◌, ◌++◌, length, take, replicate, leb}
use Rattle.std.proofs.Common.{refl, sym, ap, ◌∙◌, arith, append_assoc, append-nil}
use borrow.Author.Tests.{leb-true, leb-false}
use lib.ListN.{length-take}
use lib.Seq.{take_all, take_at, take-append-le, take-append-add}
use Rattle.text.specs.declared.line.Line.{Line}
use Rattle.text.specs.Tables.{blank}
use Rattle.text.specs.Written.{text_of, line_room, fitted}

-- ## What fits

pub fitted_short : (s : List ℕ) → length s ≤ line_room → fitted s ≡ s
unfolding fitted
fitted_short s h = take_all line_room s h

-- a front that is cut to what fits changes nothing
pub fitted_front : (s t : List ℕ) → fitted (fitted s ++ t) ≡ fitted (s ++ t)
unfolding fitted
fitted_front s t = go (leb (length s) line_room) refl
  where
    go : (b : Bool) → leb (length s) line_room ≡ b → fitted (fitted s ++ t) ≡ fitted (s ++ t)
    go true e = ap (λ l. fitted (l ++ t)) (fitted_short s (leb-true (length s) line_room e))
    go false e =
        let h : line_room < length s = leb-false (length s) line_room e in
        take_at (take line_room s) t line_room (simp length-take (omega arith)) ∙ sym (take-append-le line_room s t (omega arith))

-- two pieces, one after the other
pub fitted-after : (s t : List ℕ) {u w : List ℕ} → u ≡ fitted s → w ≡ fitted (u ++ t) → w ≡ fitted (s ++ t)
fitted-after s t e f = f ∙ ap (λ u. fitted (u ++ t)) e ∙ fitted_front s t

-- as much of a text as there is room for behind another
pub fitted-part : (s t : List ℕ) (room : ℕ) → room + length s ≡ line_room → s ++ take room t ≡ fitted (s ++ t)
unfolding fitted
fitted-part s t room h =
    let e : line_room ≡ length s + room = omega arith in
    sym (ap (λ n. take n (s ++ t)) e ∙ take-append-add s t room)

-- ## Piece by piece

-- a line that is to say the whole, with what is left
pub record Building (whole : List ℕ) (l : Line) (left : List ℕ) : Type 0 where
  pub same : fitted (text_of l ++ left) ≡ fitted whole

pub begun : (l : Line) (left : List ℕ) → Building (text_of l ++ left) l left
begun l left = record { same = refl }

pub built : (whole left piece : List ℕ) {l m : Line} → Building whole l (piece ++ left)
    → text_of m ≡ fitted (text_of l ++ piece) → Building whole m left
built whole left piece {l} b e = record { same = rw e (fitted_front (text_of l ++ piece) left ∙ rw append_assoc b.same) }

pub line-finished : {whole : List ℕ} {l : Line} (left : List ℕ) → left ≡ [] → Building whole l left → text_of l ≡ fitted whole
line-finished {l} left e b = sym (fitted_short (text_of l) l.fits) ∙ ap fitted (sym (append-nil (text_of l))) ∙ (rw e at b.same)

-- ## Blanks up to a column

module _ (l : Line) (i column : ℕ) {whole : List ℕ} (b : Building whole l (replicate (column - i) blank)) where
  pub blanks-next : {m : Line} → i < column → text_of m ≡ fitted (text_of l ++ (blank ∷ []))
      → Building whole m (replicate (column - (i + 1)) blank)
  blanks-next h e =
      let n : column - i ≡ suc (column - (i + 1)) = omega arith in
      built whole (replicate (column - (i + 1)) blank) (blank ∷ []) (rw n at b) e

  pub blanks-done : column ≤ i → text_of l ≡ fitted whole
  blanks-done h = let n : column - i ≡ 0 = omega arith in line-finished (replicate (column - i) blank) (rw n refl) b
