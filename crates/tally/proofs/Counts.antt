-- The tally of the blocks that are passed and the blocks that are left make up the whole, which is what `judge` keeps.
-- Assumes nothing.
use Prim.Native.Nat.{ℕ, ◌+◌, ◌-◌, ◌≤◌, ◌<◌, zero-le}
use native.Mathlib.Omega.{arith}
use native.Mathlib.Nat.{le_refl}
use mathlib.Core.List.{List, [], ◌∷◌, ◌++◌, append_assoc}
use mathlib.Core.Path.{◌≡◌, refl, ap, sym, ◌∙◌}
use mathlib.Core.Bool.{Bool, true, false}
use lib.Dec.{eqb}
use lib.ListN.{length, take, drop}
use lib.Bits.{bit_and, bit_or}
use borrow.Author.Tests.{eqb-true, ne_eqb}
use Rattle.rom.specs.Geometry.{none}
use Rattle.rom.specs.Bytes.{pick, one, bit}
use Rattle.rom.specs.Refusal.{first_met}
use Rattle.rom.proofs.First.{after-accepted, after-refused}
use Rattle.block.specs.Answer.{Verdict}
use Rattle.block.specs.Answer.{Listed, Reset, Power, Unknown, Refused}
use Rattle.format.specs.Block.{facts_of, sequence, causes, refusal_in, is_listed, is_reset, is_power, is_skipped, is_default}
use Rattle.format.specs.Block.{resets_a_phy}
use Rattle.block.specs.Answer.{block_in, block_of, number_of, size_in, mode_in}
use Rattle.format.proofs.Exact.{causes-numbered}
use Rattle.block.proofs.Seen.{SeenAs, refused, unknown, a-reset, a-power, a-medium, seen_as, seen_size}
use Rattle.block.proofs.Versions.{answers-first, found-later}
use Rattle.tally.proofs.Modes.{Modes, modes-more, modes-end, mode-bit}
use Rattle.leaf.specs.Tally.{TallyAnswer}
use Rattle.leaf.specs.Leaf.{cut, count_of, first_from, clash, block_causes, clash_cause, mode_cause, whole_causes, leaf_causes}
use Rattle.tally.specs.Inside.{start_tally, first_number, plus}
use Rattle.leaf.specs.Tally.{no_tally, counts, tally_of}
use Rattle.leaf.proofs.Sorts.{one-sort}
use Rattle.leaf.proofs.Cuts.{cut-more, cut-none, rest_part, size_fits}
use Rattle.leaf.proofs.Tables.{few-one}

-- ## One block more

-- a tally u that has block s, number k, more than t
pub record Grown (row level : ℕ) (s : List ℕ) (k : ℕ) (t u : TallyAnswer) : Type 0 where
  pub number : u.number ≡ t.number
  pub listed : u.listed ≡ t.listed + one (is_listed row level s)
  pub resets : u.resets ≡ t.resets + one (is_reset row level s)
  pub skipped : u.skipped ≡ t.skipped + one (is_skipped row level s)
  pub power : u.power ≡ t.power + one (is_power row level s)
  pub phy_resets : u.phy_resets ≡ t.phy_resets + one (resets_a_phy row level s)
  pub defaults : u.defaults ≡ t.defaults + one (is_default row level s)
  pub «default» : u.default_number ≡ first_number t.default_number (is_default row level s) k
  pub few : (one (resets_a_phy row level s) ≤ one (is_listed row level s)) × (one (is_default row level s) ≤ one (is_listed row level s))

first-kept : (old k : ℕ) → old ≡ first_number old false k
unfolding first_number pick
first-kept old k = go (eqb old none) (eqb-true old none)
  where
    go : (t : Bool) → (t ≡ true → old ≡ none) → old ≡ pick t none old
    go true h = h refl
    go false h = refl

pub grown : {row level : ℕ} {s : List ℕ} {b : Verdict} (k : ℕ) (t : TallyAnswer) → SeenAs row level s b → number_of b ≡ 0
    → Grown row level s k t (plus t b k)
unfolding is_listed is_reset is_power is_skipped is_default resets_a_phy facts_of sequence pick
grown k t (refused n e h) z = absurd (h z)
grown k t (unknown e f) z = record {
  number = refl;
  listed = simp f (omega arith);
  resets = simp f (omega arith);
  skipped = simp f;
  power = simp f (omega arith);
  phy_resets = simp f (omega arith);
  defaults = simp f (omega arith);
  «default» = simp f (first-kept _ k);
  few = (simp f (le_refl _), simp f (le_refl _));
}
grown k t (a-reset e f' g) z = let f = rw g at f' in record {
  number = refl;
  listed = simp (f, g) (omega arith);
  resets = simp (f, g);
  skipped = simp (f, g) (omega arith);
  power = simp (f, g) (omega arith);
  phy_resets = simp (f, g) (omega arith);
  defaults = simp (f, g) (omega arith);
  «default» = simp (f, g) (first-kept _ k);
  few = (simp (f, g) (le_refl _), simp (f, g) (le_refl _));
}
grown k t (a-power e f' g) z = let f = rw g at f' in record {
  number = refl;
  listed = simp (f, g) (omega arith);
  resets = simp (f, g) (omega arith);
  skipped = simp (f, g) (omega arith);
  power = simp (f, g);
  phy_resets = simp (f, g) (omega arith);
  defaults = simp (f, g) (omega arith);
  «default» = simp (f, g) (first-kept _ k);
  few = (simp (f, g) (le_refl _), simp (f, g) (le_refl _));
}
grown {row} {level} {s} k t (a-medium e f g) z = let l : one (is_listed row level s) ≡ 1 = simp (f, g.0, g.1) in record {
  number = refl;
  listed = simp (f, g.0, g.1);
  resets = simp (f, g.0) (omega arith);
  skipped = simp f (omega arith);
  power = simp (f, g.1) (omega arith);
  phy_resets = simp f;
  defaults = simp f;
  «default» = simp f;
  few = (omega (arith, l, few-one (resets_a_phy row level s)), omega (arith, l, few-one (is_default row level s)));
}

-- what is counted is refused as the block is
plus-number : (t : TallyAnswer) (b : Verdict) (k : ℕ) → t.number ≡ 0 → (plus t b k).number ≡ number_of b
unfolding no_tally
plus-number t (Listed m) k e = e
plus-number t (Reset size) k e = e
plus-number t (Power size mode) k e = e
plus-number t (Unknown size) k e = e
plus-number t (Refused n) k e = refl

plus-refused : (t : TallyAnswer) (b : Verdict) (k : ℕ) → (number_of b ≡ 0 → ⊥) → plus t b k ≡ no_tally (number_of b)
plus-refused t (Listed m) k h = absurd (h refl)
plus-refused t (Reset size) k h = absurd (h refl)
plus-refused t (Power size mode) k h = absurd (h refl)
plus-refused t (Unknown size) k h = absurd (h refl)
plus-refused t (Refused n) k h = refl

default-more : (old k n w : ℕ) (d : Bool) → k < none → pick (eqb old none) (pick d k n) old ≡ w
    → pick (eqb (first_number old d k) none) n (first_number old d k) ≡ w
unfolding first_number pick
default-more old k n w d h e = go (eqb old none) d refl e
  where
    go : (t d : Bool) → eqb old none ≡ t → pick t (pick d k n) old ≡ w
        → pick (eqb (pick t (pick d k none) old) none) n (pick t (pick d k none) old) ≡ w
    go true true f e = rw (ne_eqb k none (λ z. omega arith)) e
    go true false f e = e
    go false d f e = rw f e

-- What the loop of `judge` keeps: k blocks are passed, with the tally t of them.
pub record Tallied (first : Bool) (row level : ℕ) (whole bs : List (List ℕ)) (k : ℕ) (t : TallyAnswer) : Type 0 where
  pub number : t.number ≡ 0
  pub first-met : first_met (block_causes first row level bs ++ whole_causes row level whole)
      ≡ first_met (leaf_causes first row level whole)
  pub listed : t.listed + count_of (is_listed row level) bs ≡ count_of (is_listed row level) whole
  pub resets : t.resets + count_of (is_reset row level) bs ≡ count_of (is_reset row level) whole
  pub skipped : t.skipped + count_of (is_skipped row level) bs ≡ count_of (is_skipped row level) whole
  pub power : t.power + count_of (is_power row level) bs ≡ count_of (is_power row level) whole
  pub phy_resets : t.phy_resets + count_of (resets_a_phy row level) bs ≡ count_of (resets_a_phy row level) whole
  pub defaults : t.defaults + count_of (is_default row level) bs ≡ count_of (is_default row level) whole
  pub «default» : pick (eqb t.default_number none) (first_from (is_default row level) k bs) t.default_number
      ≡ first_from (is_default row level) 0 whole
  pub sorts : t.listed + t.resets + t.skipped + t.power ≡ k
  pub few : (t.phy_resets ≤ t.listed) × (t.defaults ≤ t.listed)

pub counted_start : (first : Bool) (row level : ℕ) (bs : List (List ℕ)) → Tallied first row level bs bs 0 start_tally
unfolding start_tally leaf_causes pick
counted_start first row level bs =
    record {
      number = refl;
      first-met = refl;
      listed = omega arith;
      resets = omega arith;
      skipped = omega arith;
      power = omega arith;
      phy_resets = omega arith;
      defaults = omega arith;
      «default» = refl;
      sorts = refl;
      few = (zero-le, zero-le);
    }

module _ {first : Bool} {row level : ℕ} {whole bs : List (List ℕ)} {s : List ℕ} {k : ℕ} {t : TallyAnswer}
    (c : Tallied first row level whole (s ∷ bs) k t) where
  pub counted-more : {u : TallyAnswer} → refusal_in first row level s ≡ 0 → k < none → Grown row level s k t u
      → Tallied first row level whole bs (k + 1) u
  unfolding count_of block_causes first_from refusal_in
  counted-more {u} e h g = record {
    number = g.number ∙ c.number;
    first-met = sym (after-accepted (causes first row level s) _ (causes-numbered first row level s) e)
        ∙ sym (ap first_met (append_assoc (causes first row level s) (block_causes first row level bs) _)) ∙ c.first-met;
    listed = omega (arith, g.listed, c.listed);
    resets = omega (arith, g.resets, c.resets);
    skipped = omega (arith, g.skipped, c.skipped);
    power = omega (arith, g.power, c.power);
    phy_resets = omega (arith, g.phy_resets, c.phy_resets);
    defaults = omega (arith, g.defaults, c.defaults);
    «default» = rw g.«default» (default-more t.default_number k _ _ (is_default row level s) h c.«default»);
    sorts = omega (arith, g.listed, g.resets, g.skipped, g.power, one-sort row level s, c.sorts);
    few = (omega (arith, g.phy_resets, g.listed, g.few, c.few), omega (arith, g.defaults, g.listed, g.few, c.few));
  }

  pub tally-refused : {n : ℕ} → refusal_in first row level s ≡ n → (n ≡ 0 → ⊥) → no_tally n ≡ tally_of first row level whole
  unfolding tally_of block_causes refusal_in pick
  tally-refused {n} e h =
      let met : first_met (leaf_causes first row level whole) ≡ n = sym c.first-met
      ∙ ap first_met (append_assoc (causes first row level s) (block_causes first row level bs) _)
      ∙ after-refused (causes first row level s) _ n h e in
      rw (met, ne_eqb n 0 h)

module _ {first : Bool} {row level : ℕ} {whole : List (List ℕ)} {k : ℕ} {t : TallyAnswer} (c : Tallied first row level whole [] k t) where
  at-end : (clash t.resets t.phy_resets t.defaults ≡ (clash_cause row level whole).met)
      × (first_met (leaf_causes first row level whole)
      ≡ pick (clash_cause row level whole).met 18 (pick (mode_cause row level whole).met 31 0))
  unfolding whole_causes clash_cause mode_cause block_causes count_of first_met
  at-end =
      let r : t.resets ≡ count_of (is_reset row level) whole = omega (arith, c.resets) in
      let p : t.phy_resets ≡ count_of (resets_a_phy row level) whole = omega (arith, c.phy_resets) in
      let d : t.defaults ≡ count_of (is_default row level) whole = omega (arith, c.defaults) in
      (rw (r, p, d), sym c.first-met)

  tally-18 : clash t.resets t.phy_resets t.defaults ≡ true → no_tally 18 ≡ tally_of first row level whole
  unfolding tally_of pick
  tally-18 e = rw (at-end.1, ← at-end.0, e)

  module _ {modes repeated : ℕ} (m : Modes row level whole [] modes repeated)
      (e : clash t.resets t.phy_resets t.defaults ≡ false) where
    tally-31 : (repeated ≡ 0 → ⊥) → no_tally 31 ≡ tally_of first row level whole
    unfolding tally_of pick
    tally-31 n = rw (at-end.1, ← at-end.0, e, ← (modes-end m), ne_eqb repeated 0 n)

    tally-done : repeated ≡ 0 → t ≡ tally_of first row level whole
    unfolding tally_of counts pick count_of first_from first_number
    tally-done n =
        let l : t.listed ≡ count_of (is_listed row level) whole = omega (arith, c.listed) in
        let r : t.resets ≡ count_of (is_reset row level) whole = omega (arith, c.resets) in
        let s : t.skipped ≡ count_of (is_skipped row level) whole = omega (arith, c.skipped) in
        let w : t.power ≡ count_of (is_power row level) whole = omega (arith, c.power) in
        let p : t.phy_resets ≡ count_of (resets_a_phy row level) whole = omega (arith, c.phy_resets) in
        let d : t.defaults ≡ count_of (is_default row level) whole = omega (arith, c.defaults) in
        let f : t.default_number ≡ first_from (is_default row level) 0 whole = first-kept t.default_number k ∙ c.«default» in
        rw (at-end.1, ← at-end.0, e, ← (modes-end m), n)
        (λ i. record {
          number = c.number i;
          listed = l i;
          resets = r i;
          skipped = s i;
          power = w i;
          phy_resets = p i;
          defaults = d i;
          default_number = f i;
        })

-- ## The steps of `judge` in its own terms: b is the block that was judged, u the tally with it, z its size.

module _ (first : Bool) (row level count : ℕ) (rest : List ℕ) {whole : List (List ℕ)} {k : ℕ} {t : TallyAnswer}
    (inv : Tallied first row level whole (cut row (count - k) rest) k t) where
  module _ (h : k < count) {b : Verdict} {u : TallyAnswer} (eb : b ≡ block_in first row level rest) (eu : u ≡ plus t b k) where
    number_in : number_of b ≡ refusal_in first row level rest
    number_in = ap number_of eb ∙ (answers-first first row level rest).0

    same_number : u.number ≡ number_of b
    same_number = ap (λ (t : TallyAnswer). t.number) eu ∙ plus-number t b k inv.number

    pub judge-refused : (u.number ≡ 0 → ⊥) → u ≡ tally_of first row level whole
    judge-refused n =
        let m : number_of b ≡ 0 → ⊥ = λ e. n (same_number ∙ e) in
        eu ∙ plus-refused t b k m ∙ tally-refused (rw cut-more at inv) (sym number_in) m

    module _ (e : u.number ≡ 0) {z : ℕ} (ez : z ≡ size_in b) where
      fine : number_of b ≡ 0
      fine = sym same_number ∙ e

      -- as it is accepted, it is what it is in versions 3 and 4
      later : b ≡ block_of row level rest
      later = found-later first row level rest eb refl fine

      view : SeenAs row level rest b
      view = rw later (seen_as row level rest)

      pub judge-fits : z ≤ length rest
      judge-fits = size_fits row level rest later refl fine ez

      pub judge-more : count < 256
          → Tallied first row level whole (cut row (count - (k + 1)) (take (length rest - z) (drop z rest))) (k + 1) u
      judge-more l =
          rw (rest_part, ez, seen_size view fine, eu)
          (counted-more (rw cut-more at inv) (sym number_in ∙ fine) (omega arith) (grown k t view fine))

      -- m is its mode
      pub judge-modes : {modes repeated m : ℕ} → Modes row level whole (cut row (count - k) rest) modes repeated → m ≡ mode_in b → m < 256
          → Modes row level whole (cut row (count - (k + 1)) (take (length rest - z) (drop z rest))) (bit_or modes m)
          (bit_or repeated (bit_and modes m))
      judge-modes told em byte =
          rw (rest_part, ez, seen_size view fine) (modes-more (rw cut-more at told) byte (λ j. ap (bit j) em ∙ mode-bit view fine j))

  module _ (h : count ≤ k) {m : Bool} (em : m ≡ clash t.resets t.phy_resets t.defaults) where
    pub judge-18 : {u : TallyAnswer} → m ≡ true → u ≡ no_tally 18 → u ≡ tally_of first row level whole
    judge-18 e eu = eu ∙ tally-18 (rw cut-none at inv) (sym em ∙ e)

    module _ (e : m ≡ false) {modes repeated : ℕ} (told : Modes row level whole (cut row (count - k) rest) modes repeated) where
      pub judge-31 : {u : TallyAnswer} → (repeated ≡ 0 → ⊥) → u ≡ no_tally 31 → u ≡ tally_of first row level whole
      judge-31 n eu = eu ∙ tally-31 (rw cut-none at inv) (rw cut-none at told) (sym em ∙ e) n

      pub judge-done : repeated ≡ 0 → t ≡ tally_of first row level whole
      judge-done n = tally-done (rw cut-none at inv) (rw cut-none at told) (sym em ∙ e) n
