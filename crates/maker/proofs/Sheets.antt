-- What is laid in one behind the other, and that it is the sheet. Assumes nothing.
use Prim.Native.Nat.{ℕ, zero, suc, ◌+◌, ◌*◌, ◌-◌, ◌≤◌}
use native.Mathlib.Omega.{arith}
use native.Mathlib.Nat.{sub-zero}
use mathlib.Core.Path.{◌≡◌, refl, sym, ap, ap₂, ◌∙◌}
use mathlib.Core.List.{List, [], ◌∷◌, ◌++◌, map, append_assoc}
use lib.ListN.{length, take, drop, length-append, length-drop}
use lib.Seq.{length-take-le, take-suc, drop-cons, get_or-drop}
use mathlib.Core.Bool.{Bool}
use Rattle.rom.specs.declared.Layout.{Layout}
use Rattle.rom.specs.Geometry.{image_length, checked_length, leaves_end, address_at}
use Rattle.rom.specs.Bytes.{byte_at}
use Rattle.rom.specs.Store.{word_bytes, put, laid}
use Rattle.rom.proofs.Layouts.{geometry}
use Rattle.rom.proofs.Put.{put-length, put-joined, laid-put}
use Rattle.image.specs.Image.{up_to_leaves_end}
use Rattle.image.proofs.Causes.{whole-image}
use Rattle.reader.specs.declared.Answer.{Answer}
use Rattle.reader.specs.Reading.{Judged, accepted_answer, accepted_reading}
use Rattle.reader.specs.Answered.{accepted_as}
use Rattle.reader.proofs.Answered.{ok-number}
use Rattle.reader.proofs.Readings.{Accepted, accepted-judged, reading-start, reading-end, reading-blocks}
use Rattle.sheet.specs.Layout.{id_at, chip_at, head_length}
use Rattle.sheet.specs.Record.{Entry}
use Rattle.sheet.specs.declared.Form.{Form}
use Rattle.sheet.specs.Form.{shift, counts_of}
use Rattle.sheet.specs.Sheet.{head_of, body_bytes, parts_of, content_of, sheet_of}
use Rattle.sheet.specs.Image.{leaf_start, newest_in, image_from}
use Rattle.sheet.specs.Make.{sheet_for}
use Rattle.sheet.proofs.Blocks.{entries-length}
use Rattle.sheet.proofs.Sheets.{kind-length, size-length, counts-length}
use Rattle.format.specs.Block.{size_of}
use Rattle.leaf.specs.Leaf.{cut, placed, place_by_stepping, start_by_stepping}
use Rattle.sheet.specs.Image.{entry_from, sizes, leaf_end}
use Rattle.maker.specs.Inside.{AcceptedBlocks, front_bytes, field_bytes}
use Rattle.maker.specs.Blocks.{started_block, entries_in}
use Rattle.maker.specs.declared.source.ReadImage.{ReadImage}
use Rattle.maker.proofs.Turns.{started_cut, drop-take}

-- ## Three parts

module _ (sheet : List ℕ) (at : ℕ) (a b c : List ℕ) (room : at + length (a ++ (b ++ c)) ≤ length sheet) where
  long : length (a ++ (b ++ c)) ≡ length a + (length b + length c)
  long = length-append a (b ++ c) ∙ ap (λ (n : ℕ). length a + n) (length-append b c)

  first-room : at + length a ≤ length sheet
  first-room = omega (arith, long)

  module _ {one : List ℕ} {next : ℕ} (e₁ : one ≡ put sheet at a) (n₁ : next ≡ at + length a) where
    same₁ : length one ≡ length sheet
    same₁ = ap length e₁ ∙ put-length sheet at a first-room

    second-room : next + length b ≤ length one
    second-room = omega (arith, long, same₁, n₁)

    module _ {two : List ℕ} {last : ℕ} (e₂ : two ≡ put one next b) (n₂ : last ≡ next + length b) where
      same₂ : length two ≡ length one
      same₂ = ap length e₂ ∙ put-length one next b second-room

      pub third-room : last + length c ≤ length two
      third-room = omega (arith, long, same₁, same₂, n₁, n₂)

      pub three-put : {three : List ℕ} → three ≡ put two last c → three ≡ put sheet at (a ++ (b ++ c))
      three-put e₃ = put-joined sheet at a (b ++ c) e₁ (put-joined one next b c e₂ e₃ n₂ second-room) n₁ first-room

-- ## The head

-- what is laid in and fits stands, and the length stays
standing : (sheet : List ℕ) (at : ℕ) (a : List ℕ) {one : List ℕ} → one ≡ laid sheet at a → at + length a ≤ length sheet
    → (one ≡ put sheet at a) × (length one ≡ length sheet)
standing sheet at a e h =
    let is = e ∙ laid-put sheet at a h in
    (is, ap length is ∙ put-length sheet at a h)

module _ (image : List ℕ) (enough : leaf_start ≤ length image) where
  id-long : length (take 16 image) ≡ 16
  id-long = length-take-le 16 image (omega arith)

  last-long : length (take 2 (drop 17 image)) ≡ 2
  last-long = length-take-le 2 (drop 17 image) (omega (arith, length-drop 17 image))

  address-long : length (take 7 (drop address_at image)) ≡ 7
  address-long = length-take-le 7 (drop address_at image) (omega (arith, length-drop address_at image))

  pub front_long : length (front_bytes image) ≡ 25
  unfolding front_bytes
  front_long = simp length-append (omega (arith, id-long, last-long, address-long))

  module _ (sheet : List ℕ) (room : head_length ≤ length sheet) where
    pub front-put : {two three four : List ℕ} → two ≡ laid sheet 2 (take 16 image) → three ≡ laid two 18 (take 2 (drop 17 image))
        → four ≡ laid three 20 (take 7 (drop address_at image)) → four ≡ put sheet id_at (front_bytes image)
    unfolding front_bytes
    front-put {two} {three} {four} e₂ e₃ e₄ =
        let f₂ = standing sheet 2 (take 16 image) e₂ (omega (arith, room, id-long)) in
        let f₃ = standing two 18 (take 2 (drop 17 image)) e₃ (omega (arith, room, f₂.1, last-long)) in
        let f₄ = standing three 20 (take 7 (drop address_at image)) e₄ (omega (arith, room, f₂.1, f₃.1, address-long)) in
        put-joined sheet 2 (take 16 image) _ f₂.0
        (put-joined two 18 (take 2 (drop 17 image)) _ f₃.0 f₄.0 (omega (arith, last-long)) (omega (arith, room, f₂.1, last-long)))
        (omega (arith, id-long)) (omega (arith, room, id-long))

  -- as the record has it
  last-is : take 2 (drop 17 image) ≡ byte_at image 17 ∷ byte_at image 18 ∷ []
  last-is = rw (drop-cons image 17 0 (omega arith), drop-cons image 18 0 (omega arith))

  address_is : take 7 (drop address_at image) ≡ take 6 (drop address_at image) ++ (byte_at image 26 ∷ [])
  address_is =
      take-suc (drop address_at image) 6 0 (omega (arith, length-drop address_at image))
      ∙ ap (λ (x : ℕ). take 6 (drop address_at image) ++ (x ∷ [])) (get_or-drop address_at image 6 0)

module _ (l : Layout) (image : List ℕ) (whole : length image ≡ image_length l.size) where
  maker-long : length (take 2 (drop (leaves_end l) image)) ≡ 2
  maker-long =
      let g = geometry l in length-take-le 2 (drop (leaves_end l) image) (omega (arith, length-drop (leaves_end l) image))

  -- the maker's bytes, as the code cuts them out
  pub maker-part : (room : List ℕ) (at : ℕ) {from to : ℕ} → from ≡ leaves_end l → to ≡ checked_length l
      → laid room at (take (to - from) (drop from image)) ≡ laid room at (take 2 (drop (leaves_end l) image))
  maker-part room at {from} {to} ef et =
      let g = geometry l in
      let two : to - from ≡ 2 = omega arith in
      rw (two, ef)

  pub field-long : (chip : ℕ) (answer : Answer) → length (field_bytes l chip answer image) ≡ 7
  unfolding field_bytes word_bytes
  field-long chip answer = simp length-append (omega (arith, maker-long))

  pub enough : leaf_start ≤ length image
  enough = let g = geometry l in omega arith

  module _ (sheet : List ℕ) (room : head_length ≤ length sheet) where
    pub field_put : (chip : ℕ) (answer : Answer) {one two three four : List ℕ} → one ≡ laid sheet 27 (word_bytes chip)
        → two ≡ laid one 29 (word_bytes answer.connection)
        → three ≡ laid two 31 (answer.control ∷ []) → four ≡ laid three 32 (take 2 (drop (leaves_end l) image))
        → four ≡ put sheet chip_at (field_bytes l chip answer image)
    unfolding field_bytes word_bytes
    field_put chip answer {one} {two} {three} {four} e₁ e₂ e₃ e₄ =
        let f₁ = standing sheet 27 (word_bytes chip) e₁ (omega (arith, room)) in
        let f₂ = standing one 29 (word_bytes answer.connection) e₂ (omega (arith, room, f₁.1)) in
        let f₃ = standing two 31 (answer.control ∷ []) e₃ (omega (arith, room, f₁.1, f₂.1)) in
        let f₄ = standing three 32 (take 2 (drop (leaves_end l) image)) e₄ (omega (arith, room, f₁.1, f₂.1, f₃.1, maker-long)) in
        put-joined sheet 27 (word_bytes chip) _ f₁.0
        (put-joined one 29 (word_bytes answer.connection) _ f₂.0
        (put-joined two 31 (answer.control ∷ []) _ f₃.0 f₄.0 refl (omega (arith, room, f₁.1, f₂.1)))
        refl (omega (arith, room, f₁.1)))
        refl (omega (arith, room))

  head-order : (a : List ℕ) (x y : ℕ) (b : List ℕ) (z : ℕ) (c parts : List ℕ)
      → (a ++ (x ∷ y ∷ (b ++ (z ∷ [])))) ++ (c ++ parts) ≡ (a ++ (x ∷ y ∷ (b ++ (z ∷ c)))) ++ parts
  head-order a x y b z c parts = simp append_assoc

  pub head-is : (chip : ℕ) (answer : Answer) (parts : List ℕ) → answer.connection ≡ (image_from l chip image).connection
      → answer.control ≡ (image_from l chip image).control
      → front_bytes image ++ (field_bytes l chip answer image ++ parts) ≡ head_of (image_from l chip image) ++ parts
  unfolding front_bytes field_bytes head_of image_from word_bytes
  head-is chip answer parts ec eo =
      ap₂ (λ (x a : List ℕ). (take 16 image ++ (x ++ a)) ++ (field_bytes l chip answer image ++ parts))
      (last-is image enough) (address_is image enough)
      ∙ ap₂ (λ (x y : ℕ). (take 16 image
      ++ (byte_at image 17 ∷ byte_at image 18 ∷ (take 6 (drop address_at image) ++ (byte_at image 26 ∷ [])))) ++ ((word_bytes chip
      ++ (word_bytes x ++ (y ∷ take 2 (drop (leaves_end l) image)))) ++ parts)) ec eo
      ∙ head-order (take 16 image) _ _ (take 6 (drop address_at image)) _ _ parts

-- ## The parts

pub parts-long : (es : List Entry) → length (parts_of es) ≡ 3 * length es + length (body_bytes es)
unfolding parts_of
parts-long es = simp length-append (omega (arith, kind-length es, size-length es))

-- ## What a pass over blocks goes through

entries-are : (row at : ℕ) (bs : List (List ℕ)) → entries_in (map (started_block row) (placed row at bs)) ≡ map (entry_from row) bs
unfolding placed
entries-are row at [] = refl
entries-are row at (s ∷ bs) = ap (λ (es : List Entry). entry_from row s ∷ es) (entries-are row (at + size_of row s) bs)

-- the blocks' sizes lead from the first start to the end
stepping-sizes : (row at count : ℕ) (s : List ℕ) → start_by_stepping row at count s ≡ at + sizes row (cut row count s)
unfolding place_by_stepping cut sizes
stepping-sizes row at zero s = omega arith
stepping-sizes row at (suc count) s = omega (arith, stepping-sizes row (at + size_of row s) count (drop (size_of row s) s))

pub count-is : (row count at : ℕ) (s : List ℕ) → length (entries_in (started_cut row count at s)) ≡ count
count-is row count at s = ap length (entries-are row at (cut row count s)) ∙ entries-length row count s

-- ## The sheet of an image that is read

pub its-reading : (s : ReadImage) → Accepted s.bytes.now (newest_in s.layout s.first_edition s.chip) (accepted_as s.reading)
its-reading s = accepted-judged s.bytes.now (newest_in s.layout s.first_edition s.chip) (accepted_as s.reading) s.read (ok-number s.reading)

module _ (l : Layout) (edition : Bool) (chip : ℕ) {image : List ℕ} {r : Judged} (c : Accepted image (newest_in l edition chip) r) where
  pub image-long : length image ≡ image_length l.size
  unfolding newest_in
  image-long = whole-image image (newest_in l edition chip) c.header

  -- its leaf's blocks, in the image up to where leaves end
  module _ {leaves : List ℕ} (q : leaves ≡ up_to_leaves_end l image 0) where
    read-leaf : drop r.start leaves ≡ up_to_leaves_end l image r.start
    unfolding up_to_leaves_end newest_in
    read-leaf =
        let e : leaves_end l - 0 ≡ r.start + (leaves_end l - r.start) = omega (arith, reading-start c) in
        ap (drop r.start) (q ∙ ap (λ (n : ℕ). take n image) e) ∙ drop-take r.start (leaves_end l - r.start) image

    leaves-long : length leaves ≡ leaves_end l
    unfolding up_to_leaves_end newest_in
    leaves-long =
        ap length q ∙ ap (λ (n : ℕ). length (take n image)) (sub-zero (leaves_end l)) ∙ length-take-le (leaves_end l) image (reading-end c)

    pub read-inside : r.start ≤ length leaves
    unfolding newest_in
    read-inside = omega (arith, leaves-long, reading-start c)

    pub read-accepted : AcceptedBlocks r.row r.answer.blocks (drop r.start leaves)
    unfolding newest_in
    read-accepted = rw read-leaf (reading-blocks c)

    pub read-entries : entries_in (started_cut r.row r.answer.blocks r.start (drop r.start leaves)) ≡ (image_from l chip image).entries
    unfolding image_from accepted_reading accepted_answer newest_in
    read-entries = entries-are r.row r.start (cut r.row r.answer.blocks (drop r.start leaves)) ∙ rw (read-leaf, c.known) refl

    pub read-end : start_by_stepping r.row r.start r.answer.blocks (drop r.start leaves) ≡ leaf_end l chip image
    unfolding leaf_end accepted_reading accepted_answer newest_in
    read-end = stepping-sizes r.row r.start r.answer.blocks (drop r.start leaves) ∙ rw (read-leaf, c.known) refl

    pub read-within : length leaves ≤ image_length l.size
    read-within = let g = geometry l in omega (arith, leaves-long)

  pub read-count : r.answer.blocks ≡ length (image_from l chip image).entries
  read-count =
      sym (count-is r.row r.answer.blocks r.start (drop r.start (up_to_leaves_end l image 0))) ∙ ap length (read-entries refl)

  -- part by part
  pub read-content : front_bytes image ++ (field_bytes l chip r.answer image ++ parts_of (image_from l chip image).entries)
      ≡ content_of (image_from l chip image)
  read-content = head-is l image image-long chip r.answer (parts_of (image_from l chip image).entries) connection control
    where
      connection : r.answer.connection ≡ (image_from l chip image).connection
      connection = unfold image_from accepted_reading accepted_answer newest_in in rw c.known

      control : r.answer.control ≡ (image_from l chip image).control
      control = unfold image_from accepted_reading accepted_answer newest_in in rw c.known

  pub content-long : 2 + length (content_of (image_from l chip image))
      ≡ head_length + 3 * r.answer.blocks + length (body_bytes (image_from l chip image).entries)
  content-long =
      let es = (image_from l chip image).entries in
      let f = front_long image (enough l image image-long) in
      let g = field-long l image image-long chip r.answer in
      let whole : length (content_of (image_from l chip image)) ≡ 32 + length (parts_of es)
      = ap length (sym read-content) ∙ simp length-append (omega (arith, f, g)) in
      omega (arith, whole, parts-long es, read-count)

  pub read-long : (form : Form) → length (sheet_for form l image chip)
      ≡ shift form + head_length + 3 * r.answer.blocks + length (body_bytes (image_from l chip image).entries)
  unfolding sheet_of
  read-long form =
      length-append (counts_of form (length (image_from l chip image).entries) (length (body_bytes (image_from l chip image).entries))) _
      ∙ omega (
        arith,
        counts-length form (length (image_from l chip image).entries) (length (body_bytes (image_from l chip image).entries)),
        content-long,
      )
