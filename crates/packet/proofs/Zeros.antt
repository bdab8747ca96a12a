-- The default of six bytes is zeros. Assumes nothing.
use Rattle.std.proofs.Common.{◌≡◌, ℕ, List, replicate, sym, ◌∙◌, arith}
use Rattle.std.proofs.lemmas.List.{ext_get_or, get_or-replicate}
use Rattle.std.specs.Array.{AllOfLen}

pub six_zeros : (xs : List ℕ) → AllOfLen (λ x. x ≡ 0) xs 6 → xs ≡ replicate 6 0
six_zeros xs a = ext_get_or 0 xs (replicate 6 0) a.long (λ i h. a.at i 0 (omega arith) ∙ sym (get_or-replicate 6 i 0 0 (omega arith)))
