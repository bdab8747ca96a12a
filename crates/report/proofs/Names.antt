-- Words behind each other. Assumes nothing.
use Rattle.std.proofs.Common.{◌≡◌, ℕ, refl, ap, ◌∙◌, List, [], ◌++◌, append_assoc}
use Rattle.text.specs.Written.{text_of, fitted}
use Rattle.text.specs.declared.line.Line.{Line}
use Rattle.text.proofs.Building.{begun, line-finished, fitted-after}

-- three pieces behind a line
pub three : (line a b c : List ℕ) {u v w : List ℕ} → u ≡ fitted (line ++ a) → v ≡ fitted (u ++ b) → w ≡ fitted (v ++ c)
    → w ≡ fitted (line ++ (a ++ (b ++ c)))
three line a b c p q r =
    fitted-after _ _ (fitted-after _ _ p q) r ∙ ap fitted (append_assoc (line ++ a) b c ∙ append_assoc line a (b ++ c))

pub two : (line a b : List ℕ) {u w : List ℕ} → u ≡ fitted (line ++ a) → w ≡ fitted (u ++ b) → w ≡ fitted (line ++ (a ++ b))
two line a b p q = fitted-after _ _ p q ∙ ap fitted (append_assoc line a b)

-- nothing behind a line
pub none_more : (l : Line) → text_of l ≡ fitted (text_of l ++ [])
none_more l = line-finished [] refl (begun l [])
