-- What is read and walked of an image goes by one number, the first cause met, so that each case computes it once and, 3 and 4
-- apart, without a CRC: by the definitions, and for calls by induction over their list. Assumes nothing.
use Prim.Native.Nat.{ℕ}
use mathlib.Core.Path.{◌≡◌, refl, ap, ap₂, fun_ext, ◌∙◌}
use mathlib.Core.List.{List, [], ◌∷◌, ◌++◌, map}
use lib.ListN.{length, take, set}
use Rattle.rom.specs.Geometry.{with_magic}
use Rattle.rom.specs.Bytes.{pick}
use Rattle.rom.specs.Refusal.{first_met}
use Rattle.checksum.specs.Crc.{id_crc}
use Rattle.image.specs.declared.Arguments.{Arguments}
use Rattle.image.specs.Arguments.{row_for}
use Rattle.leaf.specs.Leaf.{kind_at, start_at}
use Rattle.leaf.specs.Cases as leaves
use Rattle.reader.specs.Reading.{judge_causes, read_causes, answer_for, read_answer, read_into, read_kinds, read_offsets}
use Rattle.sheet.specs.Image.{newest_in, newest}
use Rattle.walk.specs.declared.Walk.{Walk}
use Rattle.walk.specs.declared.Walked.{Walked}
use Rattle.walk.specs.Walk.{fresh_walk, loaded_walk, load_causes, walked_to, load_for, look_for, clear_for}
use Rattle.older.specs.Calls.{Call, load, look, clear, call, After, after, run}
use Rattle.older.specs.Written.{Arrays, answer_of, entries, table_in}
use Rattle.worked.specs.Cases.{unsealed, sealed, image_with, ImageCase, arguments_of, room, answered_with, read_whole, worked}
use Rattle.worked.specs.Cases.{OrderCase, leaf_a, order}
use Rattle.worked.proofs.Unmet.{left_out}
use Rattle.worked.proofs.Sealed.{Sealed, crcs_apart, srom-apart, judge-apart, read-apart, srom-behind-set, image-sealed}

-- ## By a number

module _ (image : List ℕ) (a : Arguments) where
  -- what is read with the number n
  unfoldable pub read_with : ℕ → Arrays → leaves.LeafCase → leaves.LeafCase
  read_with n room c =
      let answer = answer_for n image a in
      let kinds = read_into (kind_at (row_for a)) n image a room.kinds in
      let starts = read_into start_at n image a room.offsets in
      let table = entries (take answer.listed kinds) (take answer.listed starts) in
      answered_with answer table c

  -- calls, of which each load of a fresh walk is answered with the number n
  unfoldable pub call_with : ℕ → Walk → Call → Walked
  call_with n w load = walked_to (pick w.loaded 21 n) (loaded_walk image a) w
  call_with n w (look report) = look_for w report
  call_with n w clear = clear_for w

  unfoldable pub run_with : ℕ → Walk → List Call → List After
  run_with n w [] = []
  run_with n w (c ∷ cs) = let r = call_with n w c in after r ∷ run_with n r.walk cs

  call-with : (w : Walk) (c : Call) → call image a w c ≡ call_with (first_met (judge_causes image a)) w c
  unfolding call call_with load_for load_causes first_met
  call-with w load = refl
  call-with w (look report) = refl
  call-with w clear = refl

  run-with : (w : Walk) (cs : List Call) → run image a w cs ≡ run_with (first_met (judge_causes image a)) w cs
  unfolding run run_with
  run-with w [] = refl
  run-with w (c ∷ cs) =
      let n = first_met (judge_causes image a) in
      ap (λ (r : Walked). after r ∷ run image a r.walk cs) (call-with w c)
      ∙ ap (λ (rest : List After). after (call_with n w c) ∷ rest) (run-with (call_with n w c).walk cs)

  read-with : (arrays : Arrays) (c : leaves.LeafCase)
      → read_whole image a arrays c ≡ read_with (first_met (read_causes image a (length arrays.kinds) (length arrays.offsets))) arrays c
  unfolding read_whole read_with answer_of table_in read_answer read_kinds read_offsets
  read-with arrays c = refl

  -- the numbers, 3 and 4 apart
  unfoldable pub read_number : Arrays → ℕ
  read_number arrays = first_met (crcs_apart (read_causes image a (length arrays.kinds) (length arrays.offsets)))

  unfoldable pub judge_number : ℕ
  judge_number = first_met (crcs_apart (judge_causes image a))

  module _ (s : Sealed a.layout image) where
    pub read-once : (arrays : Arrays) (c : leaves.LeafCase) → read_whole image a arrays c ≡ read_with (read_number arrays) arrays c
    unfolding read_number
    read-once arrays c = read-with arrays c ∙ ap (λ (n : ℕ). read_with n arrays c) (read-apart image a s _ _)

    pub run-once : (w : Walk) (cs : List Call) → run image a w cs ≡ run_with judge_number w cs
    unfolding judge_number
    run-once w cs = run-with w cs ∙ ap (λ (n : ℕ). run_with n w cs) (judge-apart image a s)

-- ## A case: `worked`, by the two numbers

unfoldable pub worked_once : ImageCase → ImageCase
worked_once c =
    let image = image_with c.layout c.reading.leaf in
    let a = arguments_of c.layout c.reading in
    let read = read_number image a room in
    let judged = judge_number image a in
    record {
      layout = c.layout;
      reading = read_with image a read room c.reading;
      calls = c.calls;
      seen = run_with image a judged fresh_walk c.calls;
    }

worked-once : (c : ImageCase) → worked c ≡ worked_once c
unfolding worked worked_once arguments_of
worked-once c =
    let image = image_with c.layout c.reading.leaf in
    let a = arguments_of c.layout c.reading in
    let s = image-sealed c.layout c.reading.leaf in
    ap₂ (λ (r : leaves.LeafCase) (s : List After). record { layout = c.layout; reading = r; calls = c.calls; seen = s })
    (read-once image a s room c.reading) (run-once image a s fresh_walk c.calls)

pub all_once : (cs : List ImageCase) → map worked cs ≡ map worked_once cs
all_once cs = ap (λ (f : ImageCase → ImageCase). map f cs) (fun_ext worked-once)

-- ## The order of an image's causes: `order`, 3 apart

unfoldable pub order_once : OrderCase → OrderCase
order_once c =
    let image = sealed with_magic (set (unsealed with_magic (id_crc (unsealed with_magic 0 leaf_a)) leaf_a) c.at c.value) ++ c.block in
    record {
      at = c.at;
      value = c.value;
      block = c.block;
      number = first_met (left_out 2 (judge_causes image (newest with_magic 21143)));
    }

order-once : (c : OrderCase) → order c ≡ order_once c
unfolding order order_once unsealed newest_in
order-once c =
    ap (λ (n : ℕ). record { at = c.at; value = c.value; block = c.block; number = n })
    (srom-apart _ (newest with_magic 21143) (srom-behind-set with_magic 1 30 leaf_a c.at c.value c.block))

pub all-ordered-once : (cs : List OrderCase) → map order cs ≡ map order_once cs
all-ordered-once cs = ap (λ (f : OrderCase → OrderCase). map f cs) (fun_ext order-once)
