-- An image of the right length is answered with its CRC, any other with 1 and 0. Assumes nothing.
use Prim.Native.Nat.{ℕ}
use mathlib.Core.Path.{◌≡◌, sym, ap, ◌∙◌}
use mathlib.Core.List.{List, [], ◌∷◌}
use Rattle.std.specs.Prelude.{Ok, Err}
use lib.Dec.{lit<}
use lib.ListN.{length}
use mathlib.Core.Bool.{false}
use borrow.Author.Tests.{ne_eqb}
use Rattle.rom.specs.Geometry.{wrong_length}
use Rattle.rom.specs.Bytes.{pick}
use Rattle.rom.specs.declared.refusal.Refusal.{Refusal}
use Rattle.rom.specs.Numbers.{refusal_number}
use Rattle.rom.specs.Refusal.{◌⇒◌, Numbered, Exact, first_met}
use Rattle.rom.proofs.First.{none_here, exact}
use Rattle.rom.proofs.Refusals.{not-accepted}
use Rattle.checksum.specs.declared.Checksum.{Checksum}
use Rattle.checksum.specs.Answer.{crc_causes, checksum_of, answer, srom_answer, id_answer, magic_answer}
use Rattle.checksum.specs.Claims.{ExactCrcs}

-- a length that `rom::check_length` passes
pub right-passed : (size n : ℕ) → 0 ≡ first_met ((1 ⇒ wrong_length size n) ∷ []) → wrong_length size n ≡ false
right-passed size n e = (none_here (1 ⇒ wrong_length size n) [] (lit< tt) (sym e)).0

module _ (size : ℕ) (image : List ℕ) (crc : ℕ) where
  -- one that it does not pass
  pub refused : (r : Refusal) → refusal_number r ≡ first_met ((1 ⇒ wrong_length size (length image)) ∷ [])
      → checksum_of (Err r) ≡ answer (first_met (crc_causes size image)) crc
  unfolding answer crc_causes pick
  refused r e = rw (← e) (simp (ne_eqb (refusal_number r) 0 (not-accepted r)))

  pub accepted : wrong_length size (length image) ≡ false → checksum_of (Ok crc) ≡ answer (first_met (crc_causes size image)) crc
  unfolding answer first_met crc_causes pick
  accepted h = rw h

  -- what a call answers for an image of the right length
  pub answered-value : (v : ℕ) → wrong_length size (length image) ≡ false
      → checksum_of (Ok v) ≡ answer (first_met (crc_causes size image)) crc → v ≡ crc
  answered-value v right e = ap (λ (x : Checksum). x.value) (e ∙ sym (accepted right))

  pub never-refused : (r : Refusal) → wrong_length size (length image) ≡ false
      → checksum_of (Err r) ≡ answer (first_met (crc_causes size image)) crc → ⊥
  never-refused r right e = not-accepted r (ap (λ (x : Checksum). x.number) (e ∙ sym (accepted right)))

crc-numbered : (size : ℕ) (image : List ℕ) → Numbered (crc_causes size image)
unfolding crc_causes
crc-numbered size image = (lit< tt, tt)

pub exact-crcs : ExactCrcs
unfolding srom_answer id_answer magic_answer answer
exact-crcs size image = (λ l. e l.size, e size, e size)
  where
    e : (s : ℕ) → Exact (crc_causes s image) (first_met (crc_causes s image))
    e s = (exact (crc_causes s image) (crc-numbered s image)).0
