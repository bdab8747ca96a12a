-- What the contracts of inner functions cite: a known and permitted block that lies whole in the rest, by its fields alone.
use Rattle.std.specs.Prelude.{ℕ, ◌+◌, ◌*◌, List, [], ◌∷◌}
use Rattle.rom.specs.Bytes.{byte_at}
use Rattle.rom.specs.Refusal.{◌⇒◌, first_met}
use Rattle.block.specs.Answer.{Verdict}
use Rattle.block.specs.Answer.{Power}
use Rattle.format.specs.Block.{Facts, g_count, r_count, is_wrong, sequence, facts_of}
use Rattle.block.specs.Answer.{listed, found, answered}

unfoldable pub judged : Facts → Verdict → Verdict
judged f b = answered (first_met ((15 ⇒ f.wrong_length) ∷ (16 ⇒ f.bad_code) ∷ (17 ⇒ f.advertises_too_much) ∷ [])) b

abbrev pub as_medium : ℕ → ℕ → Facts → Verdict
as_medium kind size f = judged f (listed kind size f)

-- type 6, whose mode byte is not judged
abbrev pub as_power : ℕ → List ℕ → Verdict
as_power size s = judged (sequence (is_wrong 6 s) (byte_at s 2)) (Power size (byte_at s 2))

unfoldable pub judged_as : ℕ → ℕ → List ℕ → Verdict
judged_as kind size s = judged (facts_of kind s) (found kind size (facts_of kind s))

-- the length of types 1 and 3 by their unit
unfoldable pub phy_length : ℕ → List ℕ → ℕ
phy_length unit s = 11 + unit + unit * g_count s + unit * r_count unit s
