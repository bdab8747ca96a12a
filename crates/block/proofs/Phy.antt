-- The laws of the PHY blocks: the counts g and r that the code reads, and where they put the capabilities. Assumes nothing.
use Prim.Native.Nat.{ℕ, ◌+◌, ◌*◌, ◌≤◌, ◌<◌}
use native.Mathlib.Nat.{mul-le-mul}
use native.Mathlib.Omega.{arith}
use mathlib.Core.Path.{◌≡◌, sym, ◌∙◌}
use mathlib.Core.Bool.{Bool, true, false}
use mathlib.Core.List.{List}
use lib.Dec.{ltb}
use Rattle.rom.specs.Geometry.{none}
use Rattle.rom.specs.Bytes.{pick, byte_at, word_at}
use Rattle.block.specs.Answer.{Verdict}
use Rattle.block.specs.Answer.{Listed}
use Rattle.format.specs.Block.{length_of, g_count, r_count, capabilities_at, length_for, is_wrong, exceeds}
use Rattle.block.specs.Inside.{phy_length}
use Rattle.block.proofs.Judged.{is-wrong, is_right}

-- so many units take few bytes
pub few : {unit n : ℕ} → unit ≤ 2 → n < 256 → unit * n ≤ 510
few {unit} {n} h g = let k : n ≤ 255 = omega arith in mul-le-mul h k

-- the two lengths by their unit
pub type-1 : (s : List ℕ) → length_for 1 s ≡ phy_length 1 s
unfolding length_for phy_length pick
type-1 s = omega arith

pub type-3 : (s : List ℕ) → length_for 3 s ≡ phy_length 2 s
unfolding length_for phy_length pick
type-3 s = omega arith

-- a PHY, which is reset or not, with its capabilities
abbrev pub listed_phy : ℕ → ℕ → Bool → ℕ → Verdict
listed_phy kind size resets capabilities =
    Listed
    (record {
      kind = kind;
      size = size;
      media_code = none;
      capabilities = capabilities;
      active_invalid = false;
      is_default = false;
      resets_phy = resets;
    })

module _ (unit : ℕ) (s : List ℕ) {g r : ℕ} (eg : g ≡ byte_at s 3) (er : r ≡ byte_at s (4 + unit * g)) where
  g-count : g_count s ≡ g
  unfolding g_count
  g-count = sym eg

  r-count : r_count unit s ≡ r
  unfolding r_count
  r-count = rw g-count (sym er)

  asked : phy_length unit s ≡ 11 + unit + (unit * g + unit * r)
  unfolding phy_length
  asked = rw (g-count, r-count) (omega arith)

  capabilities-at : capabilities_at unit s ≡ 5 + (unit * g + unit * r)
  unfolding capabilities_at
  capabilities-at = rw (g-count, r-count) (omega arith)

  module _ (kind : ℕ) {len : ℕ} (e : len ≡ length_of s) (f : length_for kind s ≡ phy_length unit s) where
    pub counts-wrong : (len ≡ 11 + unit + (unit * g + unit * r) → ⊥) → is_wrong kind s ≡ true
    counts-wrong h = is-wrong kind s e (λ z. h (z ∙ f ∙ asked))

    pub counts-right : len ≡ 11 + unit + (unit * g + unit * r) → is_wrong kind s ≡ false
    counts-right h = is_right kind s e (h ∙ sym asked ∙ sym f)

  pub advertised : {v w : ℕ} {m : Bool} → v ≡ word_at s (5 + (unit * g + unit * r)) → w ≡ word_at s (7 + (unit * g + unit * r))
      → m ≡ exceeds w v
      → exceeds (word_at s (capabilities_at unit s + 2)) (word_at s (capabilities_at unit s)) ≡ m
  advertised ev ew em =
      let next : 5 + (unit * g + unit * r) + 2 ≡ 7 + (unit * g + unit * r) = omega arith in
      rw (em, ev, ew, capabilities-at, next)

  pub phy-listed : (kind size : ℕ) {v : ℕ} → v ≡ word_at s (5 + (unit * g + unit * r))
      → listed_phy kind size (ltb 0 r) v ≡ listed_phy kind size (ltb 0 (r_count unit s)) (word_at s (capabilities_at unit s))
  phy-listed kind size ev = rw (ev, capabilities-at, r-count)
