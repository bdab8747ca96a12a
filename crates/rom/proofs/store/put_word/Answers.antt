-- The two bytes of a word, low byte first. Assumes nothing.
use Rattle.std.proofs.Common.{◌≡◌, ℕ, ◌<◌, ◌/◌, ◌%◌, ◌∷◌, [], arith, ap, ◌∙◌}
use Rattle.rom.specs.Store.{word_bytes, laid}
use Rattle.rom.proofs.store.put_word.Goals as goal

high_byte : (n : ℕ) → n < 65536 → n / 256 % 256 ≡ n / 256
high_byte n h = omega arith

pub returns : goal.returns
unfolding word_bytes
returns c =
    c.put_bytes.ensures
    ∙ ap (laid c.args.out.now c.args.at.0)
    (c.to_le_bytes.ensures ∙ ap (λ high. c.args.word % 256 ∷ high ∷ []) (high_byte c.args.word (omega arith)))
