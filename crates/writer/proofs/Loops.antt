-- What the two passes over entries keep. Assumes nothing.
use Rattle.std.proofs.Common.{ℕ, ◌+◌, ◌*◌, ◌≡◌, ◌≤◌, ◌<◌, ◌∙◌, refl, sym, ap, true, false, ◌||◌, Bool, List, [], ◌∷◌, ◌++◌, length, arith}
use Rattle.std.proofs.Common.{lt-ltb, le-ltb}
use Rattle.std.proofs.Math.ListN.{length-append}
use Rattle.rom.specs.Bytes.{pick, byte_at, bit}
use Rattle.rom.specs.Store.{put}
use Rattle.rom.specs.Refusal.{first_met}
use Rattle.rom.proofs.Reached.{reached, end, stop, skip}
use Rattle.rom.proofs.Truth.{or-false}
use Rattle.rom.proofs.Put.{put-none, put-put, put-length}
use Rattle.format.specs.Block.{sia_size}
use Rattle.sheet.specs.Record.{Entry}
use Rattle.sheet.specs.Image.{opening_of, encode, encodes}
use Rattle.sheet.specs.Write.{is_bad, any_bad}
use Rattle.sheet.proofs.Blocks.{Good, good-compact, good-21041, good-extended, good-so, opening-compact, opening-21041, opening-extended}
use Rattle.writer.specs.Inside.{Fits, Holds, entry_causes}

-- ## One entry and those behind it

module _ {all : List Entry} {e : Entry} {es : List Entry} (first : all ≡ e ∷ es) where
  blocks-length : length (encodes all) ≡ length (encode e) + length (encodes es)
  unfolding encodes
  blocks-length = ap (λ (l : List Entry). length (encodes l)) first ∙ length-append (encode e) (encodes es)

  bad-either : (row : ℕ) → any_bad row all ≡ (is_bad row e || any_bad row es)
  unfolding any_bad
  bad-either row = ap (any_bad row) first

-- a block that images hold has its length in a byte
sia-few : (n : ℕ) → sia_size n ≤ 7
unfolding sia_size pick
sia-few n = go (bit 6 n)
  where
    go : (t : Bool) → pick t 7 1 ≤ 7
    go true = omega arith
    go false = omega arith

good-small : (row : ℕ) (e : Entry) → is_bad row e ≡ false → length (encode e) ≤ 255
good-small row e h = go (good-so row e h)
  where
    long : (l : List ℕ) → opening_of e ≡ l → length (encode e) ≡ length l + length e.body
    long l o = ap (λ (x : List ℕ). length (x ++ e.body)) o ∙ length-append l e.body

    go : Good row e → length (encode e) ≤ 255
    go (good-compact k c l b) = omega (arith, long [] (opening-compact e k), l)
    go (good-21041 k c l) = omega (arith, long [] (opening-21041 e k), l, sia-few (byte_at e.body 0))
    go (good-extended k c l) = omega (arith, long _ (opening-extended e k), l)

-- ## The leaf measured

-- where the leaf ends so far, and the entries that are left
pub record SizedBodies (row start : ℕ) (all left : List Entry) (at : ℕ) : Type 0 where
  pub bad : any_bad row left ≡ any_bad row all
  pub size : at + length (encodes left) ≡ start + length (encodes all)
  pub few : at + 255 * length left ≤ 65536

pub sized-start : {row start : ℕ} {all left : List Entry} → left ≡ all → (length all < 256) × (start < 256)
    → SizedBodies row start all left start
sized-start e h = rw e (record { bad = refl; size = refl; few = omega arith })

module _ {row start : ℕ} {all left : List Entry} {at : ℕ} (i : SizedBodies row start all left at) where
  module _ {e : Entry} {es : List Entry} (first : left ≡ e ∷ es) where
    pub sized-bad : (limit : ℕ) → is_bad row e ≡ true → 25 ≡ first_met (entry_causes limit row start all)
    unfolding entry_causes
    sized-bad limit b = reached (stop (sym i.bad ∙ bad-either first row ∙ ap (λ (t : Bool). t || any_bad row es) b))

    module _ (good : is_bad row e ≡ false) {m : ℕ} (em : m ≡ length (encode e)) where
      pub sized-room : at + m ≤ 65536
      sized-room = omega (arith, i.few, ap length first, good-small row e good)

      pub sized-more : SizedBodies row start all es (at + m)
      sized-more = record {
        bad = ap (λ (t : Bool). t || any_bad row es) (sym good) ∙ sym (bad-either first row) ∙ i.bad;
        size = omega (arith, i.size, blocks-length first);
        few = omega (arith, i.few, ap length first, good-small row e good);
      }

  -- with no entry left the leaf's end is found, and decides
  module _ (none : left ≡ []) where
    none-bad : any_bad row all ≡ false
    unfolding any_bad
    none-bad = sym i.bad ∙ ap (any_bad row) none

    at-end : at ≡ start + length (encodes all)
    unfolding encodes
    at-end = omega (arith, i.size, ap (λ (l : List Entry). length (encodes l)) none)

    pub sized-long : (limit : ℕ) → limit < at → 26 ≡ first_met (entry_causes limit row start all)
    unfolding entry_causes
    sized-long limit l = reached (skip none-bad (stop (lt-ltb limit (start + length (encodes all)) (omega (arith, at-end)))))

    pub sized-none : (limit : ℕ) → at ≤ limit → 0 ≡ first_met (entry_causes limit row start all)
    unfolding entry_causes
    sized-none limit l = reached (skip none-bad (skip (le-ltb limit (start + length (encodes all)) (omega (arith, at-end))) end))

-- ## The leaf written

-- the room so far, and the entries that are left
pub record FilledRoom (room₀ : List ℕ) (start : ℕ) (all : List Entry) (room : List ℕ) (left : List Entry) (to : ℕ) : Type 0 where
  pub holds : Holds room to left
  pub filled : put room to (encodes left) ≡ put room₀ start (encodes all)
  pub same : length room ≡ length room₀

pub filled-start : {room : List ℕ} {start : ℕ} {all left : List Entry} → left ≡ all → Holds room start all
    → FilledRoom room start all room left start
filled-start e h = rw e (record { holds = h; filled = refl; same = refl })

module _ {room₀ : List ℕ} {start : ℕ} {all : List Entry} {room : List ℕ} {left : List Entry} {to : ℕ}
    (i : FilledRoom room₀ start all room left to) where
  pub filled-end : left ≡ [] → room ≡ put room₀ start (encodes all)
  unfolding encodes
  filled-end none = sym (put-none room to) ∙ ap (λ (l : List Entry). put room to (encodes l)) (sym none) ∙ i.filled

  module _ {e : Entry} {es : List Entry} (first : left ≡ e ∷ es) where
    good : (is_bad i.holds.row e ≡ false) × (any_bad i.holds.row es ≡ false)
    good = or-false _ _ (sym (bad-either first i.holds.row) ∙ i.holds.good)

    pub filled-fits : Fits room to e (encode e)
    filled-fits = record { row = i.holds.row; good = good.0; fits = omega (arith, i.holds.fits, blocks-length first) }

    pub filled-more : {room₁ : List ℕ} {to₁ : ℕ} → to₁ ≡ to + length (encode e) → room₁ ≡ put room to (encode e)
        → FilledRoom room₀ start all room₁ es to₁
    unfolding encodes
    filled-more {room₁} {to₁} et er =
        let f = filled-fits.fits in
        let long : length room₁ ≡ length room = ap length er ∙ put-length room to (encode e) f in
        record {
          holds = record { row = i.holds.row; good = good.1; fits = omega (arith, i.holds.fits, blocks-length first, long, et) };
          filled =
              rw (er, et) (put-put room to (encode e) (encodes es) f)
              ∙ ap (λ (l : List Entry). put room to (encodes l)) (sym first) ∙ i.filled;
          same = long ∙ i.same;
        }
