-- An accepted block's size and body, the blocks behind it, and where a pass over them stands. Assumes nothing.
use Rattle.std.proofs.Common.{ℕ, zero, suc, ◌+◌, ◌-◌, ◌%◌, ◌≡◌, ◌≤◌, ◌<◌, ◌∙◌, refl, sym, ap, Bool, true, false, ◌&&◌, not}
use Rattle.std.proofs.Common.{List, [], ◌∷◌, map, length, take, drop, length-drop, arith, eqb, leb}
use native.Mathlib.Nat.{zero-add, sub-zero, suc-add}
use Rattle.std.proofs.lemmas.Bool.{eqb-false}
use Rattle.std.proofs.Math.Dec.{lit<}
use lib.Seq.{length-take-le, take-nil, drop-drop}
use Rattle.rom.specs.Bytes.{pick, byte_at, bit}
use Rattle.rom.proofs.First.{none_here}
use Rattle.rom.proofs.Truth.{or-false}
use Rattle.format.specs.Chips.{newest_level}
use Rattle.format.specs.Block.{is21041, is_extended, length_of, sia_size, size_of, kind_of, causes, refusal_of}
use Rattle.block.proofs.Seen.{fits}
use Rattle.block.proofs.Whole.{size_small}
use Rattle.leaf.specs.Leaf.{cut, PlacedBlock, placed, start_by_stepping}
use Rattle.leaf.proofs.Cuts.{rest_part, first-accepted}
use Rattle.leaf.proofs.Stepping.{Passing, passing-first, passing-more}
use Rattle.sheet.specs.Record.{Entry}
use Rattle.sheet.specs.Image.{opening_length, body_of}
use Rattle.maker.specs.Inside.{AcceptedBlocks}
use Rattle.maker.specs.Blocks.{started_block, leaf_left, blocks_left, blocks_end}
use Rattle.maker.specs.declared.blocks.Blocks.{Blocks}

-- ## An accepted block

-- an extended block's length counts its type
opening-inside : (row : ℕ) (s : List ℕ) → (is_extended row s && eqb (length_of s) 0) ≡ false → opening_length row s ≤ size_of row s
unfolding opening_length size_of is_extended sia_size pick length_of
opening-inside row s = go (is21041 row) (bit 6 (byte_at s 0)) (leb 128 (byte_at s 0))
  where
    go : (t u v : Bool) → ((not t && v) && eqb (byte_at s 0 % 128) 0) ≡ false
        → pick (not t && v) 2 0 ≤ pick t (pick u 7 1) (pick (not t && v) (1 + byte_at s 0 % 128) 4)
    go true true v e = omega arith
    go true false v e = omega arith
    go false u true e = let n = eqb-false (byte_at s 0 % 128) 0 e in omega (arith, n)
    go false u false e = omega arith

some-length : (row : ℕ) (s : List ℕ) → refusal_of row newest_level s ≡ 0 → (is_extended row s && eqb (length_of s) 0) ≡ false
unfolding refusal_of causes
some-length row s e = (or-false (is_extended row s && eqb (length_of s) 0) _ (none_here _ _ (lit< tt) (none_here _ _ (lit< tt) e).1).0).0

pub record FittingBlock (row : ℕ) (s : List ℕ) : Type 0 where
  pub inside : size_of row s ≤ length s
  pub opens : opening_length row s ≤ size_of row s
  pub small : size_of row s ≤ 128
  pub body : take (size_of row s - opening_length row s) (drop (opening_length row s) s) ≡ body_of row s
  pub long : length (body_of row s) ≡ size_of row s - opening_length row s

pub drop-take : (n m : ℕ) (s : List ℕ) → drop n (take (n + m) s) ≡ take m (drop n s)
drop-take zero m s = rw zero-add refl
drop-take (suc n) m [] = rw suc-add (sym (take-nil m))
drop-take (suc n) m (x ∷ s) = rw suc-add (drop-take n m s)

fitting-block : (row : ℕ) (s : List ℕ) → refusal_of row newest_level s ≡ 0 → FittingBlock row s
unfolding body_of
fitting-block row s e =
    let f = fits row newest_level s e in
    let o = opening-inside row s (some-length row s e) in
    let n : opening_length row s + (size_of row s - opening_length row s) ≡ size_of row s = omega (arith, o) in
    record {
      inside = f;
      opens = o;
      small = size_small row s;
      body =
          sym (drop-take (opening_length row s) (size_of row s - opening_length row s) s)
          ∙ ap (λ (k : ℕ). drop (opening_length row s) (take k s)) n;
      long =
          length-drop (opening_length row s) (take (size_of row s) s)
          ∙ ap (λ (k : ℕ). k - opening_length row s) (length-take-le (size_of row s) s f);
    }

-- ## It and the blocks behind it, the first standing at `at`

abbrev pub started_cut : ℕ → ℕ → ℕ → List ℕ → List (ℕ × ℕ × Entry)
started_cut row count at s = map (started_block row) (placed row at (cut row count s))

pub record Turn (row count at : ℕ) (s : List ℕ) : Type 0 where
  pub fitting : FittingBlock row s
  pub left : started_cut row count at s
      ≡ started_block row (record { start = at; rest = s }) ∷ started_cut row (count - 1) (at + size_of row s) (drop (size_of row s) s)
  pub next : AcceptedBlocks row (count - 1) (drop (size_of row s) s)

pub body_turn : (row count at : ℕ) (s : List ℕ) → AcceptedBlocks row count s → (count ≡ 0 → ⊥) → Turn row count at s
unfolding cut placed
body_turn row zero at s a h = absurd (h refl)
body_turn row (suc n) at s a h =
    let one : suc n - 1 ≡ n = omega arith in
    let both = first-accepted row newest_level s (cut row n (drop (size_of row s) s)) a in
    record { fitting = fitting-block row s both.0; left = rw one refl; next = rw one both.1 }

pub blocks-none : (row count at : ℕ) (s : List ℕ) → count ≡ 0 → started_cut row count at s ≡ []
unfolding cut placed
blocks-none row count at s e = rw e refl

none-blocks : (row count at : ℕ) (s : List ℕ) → started_cut row count at s ≡ [] → count ≡ 0
unfolding cut placed
none-blocks row zero at s e = refl
none-blocks row (suc n) at s e = cc

-- as the code finds it, in the leaf's rest as it is sliced
module _ (row count start : ℕ) (leaves : List ℕ) (inside : start ≤ length leaves) (a : AcceptedBlocks row count (drop start leaves))
    (h : count ≡ 0 → ⊥) where
  abbrev rest : List ℕ
  rest = take (length leaves - start) (drop start leaves)

  t : Turn row count start (drop start leaves)
  t = body_turn row count start (drop start leaves) a h

  module _ {size : ℕ} (es : size ≡ size_of row rest) where
    size-is : size ≡ size_of row (drop start leaves)
    size-is = rw (rest_part start leaves) at es

    pub size-fits : size ≤ length rest
    size-fits = rw rest_part (omega (arith, size-is, t.fitting.inside))

    pub next-inside : start + size ≤ length leaves
    next-inside = omega (arith, size-is, t.fitting.inside, length-drop start leaves)

    behind : drop size (drop start leaves) ≡ drop (start + size) leaves
    behind = drop-drop size start leaves

    pub left-accepted : AcceptedBlocks row (count - 1) (drop (start + size) leaves)
    left-accepted = rw (← behind, size-is) t.next

    module _ {opening : ℕ} (eo : opening ≡ opening_length row rest) where
      opening-is : opening ≡ opening_length row (drop start leaves)
      opening-is = rw (rest_part start leaves) at eo

      pub opening-fits : opening ≤ size
      opening-fits = omega (arith, size-is, opening-is, t.fitting.opens)

      body-is : take (size - opening) (drop opening rest) ≡ body_of row (drop start leaves)
      body-is = rw (rest_part start leaves, size-is, opening-is) t.fitting.body

      pub first-block : {kind : ℕ} → kind ≡ kind_of row rest
          → started_cut row count start (drop start leaves)
          ≡ (start, size, record { kind = kind; body = take (size - opening) (drop opening rest) })
          ∷ started_cut row (count - 1) (start + size) (drop (start + size) leaves)
      first-block ek =
          let k = rw (rest_part start leaves) at ek in t.left ∙ rw (body-is, k, ← behind, size-is) refl

-- ## What a pass keeps: some blocks are passed, and the next one's start is the one that stepping from the first gives

pub record Running (all : Blocks) (left : List (ℕ × ℕ × Entry)) (start : ℕ) : Type 0 where
  pub passed : ℕ
  pub passing : Passing all.row newest_level all.start all.count (leaf_left all) passed start (drop start all.leaves.now)
  pub blocks : left ≡ started_cut all.row (all.count - passed) start (drop start all.leaves.now)
  pub inside : start ≤ length all.leaves.now
  pub within : passed ≤ all.count

pub running-first : (all : Blocks) {left : List (ℕ × ℕ × Entry)} → left ≡ blocks_left all → Running all left all.start
running-first all e =
    record { passed = 0; passing = passing-first all.accepted; blocks = rw sub-zero e; inside = all.inside; within = omega arith }

-- a turn: the block at the start, and how the pass goes on behind it
pub record NextBlock (all : Blocks) (start : ℕ) (b : ℕ × ℕ × Entry) (bs : List (ℕ × ℕ × Entry)) : Type 0 where
  pub here : b.0 ≡ start
  pub small : b.1 ≤ 128
  pub body : length b.2.body ≤ b.1
  pub running : Running all bs (b.0 + b.1)

module _ {all : Blocks} {left : List (ℕ × ℕ × Entry)} {start : ℕ} (i : Running all left start) where
  pub running-last : left ≡ [] → start ≡ blocks_end all
  running-last e =
      let z = none-blocks all.row (all.count - i.passed) start (drop start all.leaves.now) (sym i.blocks ∙ e) in
      let n : i.passed ≡ all.count = omega (arith, i.within, z) in
      ap (λ (q : PlacedBlock). q.start) i.passing.stands ∙ ap (λ (k : ℕ). start_by_stepping all.row all.start k (leaf_left all)) n

  pub running-more : {b : ℕ × ℕ × Entry} {bs : List (ℕ × ℕ × Entry)} → left ≡ b ∷ bs → NextBlock all start b bs
  running-more {b} {bs} e =
      let rest = drop start all.leaves.now in
      let some : all.count - i.passed ≡ 0 → ⊥
      = λ z. let none = i.blocks ∙ blocks-none all.row (all.count - i.passed) start rest z in cc in
      let t = body_turn all.row (all.count - i.passed) start rest i.passing.accepted some in
      let l = t.left in
      let is : b ≡ started_block all.row (record { start = start; rest = rest }) = cc in
      let bs-is : bs ≡ started_cut all.row (all.count - i.passed - 1) (start + size_of all.row rest) (drop (size_of all.row rest) rest)
      = cc in
      let on : drop (start + size_of all.row rest) all.leaves.now ≡ drop (size_of all.row rest) rest
      = sym (drop-drop (size_of all.row rest) start all.leaves.now) in
      let less : i.passed < all.count = omega (arith, some) in
      let n : all.count - (i.passed + 1) ≡ all.count - i.passed - 1 = omega arith in
      rw is (record {
        here = refl;
        small = t.fitting.small;
        body = omega (arith, t.fitting.long);
        running = record {
          passed = i.passed + 1;
          passing = passing-more i.passing less refl on;
          blocks = rw (n, on) bs-is;
          inside = omega (arith, t.fitting.inside, length-drop start all.leaves.now, i.inside);
          within = omega (arith, less);
        };
      })
