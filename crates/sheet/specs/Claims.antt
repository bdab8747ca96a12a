-- What is promised of the writer, the sheet maker and the converters together (demand 2; document 02, requests 7 and 12), and that
-- their refusals are exact (demand 1).
use Rattle.std.specs.Prelude.{ℕ, ◌+◌, ◌≤◌, ◌<◌, ◌≡◌, Bool, true, false, List, length, take, drop, eqb}
use Rattle.rom.specs.declared.Layout.{Layout}
use Rattle.rom.specs.Geometry.{small_size, large_size, image_length, magic_at}
use Rattle.rom.specs.Bytes.{pick, is_in, Bytes}
use Rattle.rom.specs.Refusal.{first_met, Exact}
use Rattle.format.specs.Chips.{chips}
use Rattle.reader.specs.Reading.{judge_causes}
use Rattle.sheet.specs.declared.Form.{Form}
use Rattle.sheet.specs.declared.Form.TheVariants.{Narrow, Wide}
use Rattle.sheet.specs.Lists.{over}
use Rattle.sheet.specs.Form.{other, is_beyond, shift, count_in, total_in}
use Rattle.sheet.specs.Sheet.{chip_in, sheet_from, is_sheet}
use Rattle.sheet.specs.Image.{is_tidy, newest_in}
use Rattle.sheet.specs.Write.{cannot_hold, too_many_blocks, wrong_output, write_causes, write_number, written}
use Rattle.sheet.specs.Make.{sheet_for, make_causes, make_number, make_length, made, made_for}
use Rattle.sheet.specs.Convert.{converted, too_large, convert_causes, convert_number, convert_length, converted_in, converted_for}

-- ## Sheet, image, sheet

-- an accepted sheet, written and then made again with the sheet's chip into a buffer that is long enough, is accepted and is
-- that sheet, byte for byte and in length; the buffer's bytes past it are unchanged
abbrev pub SheetReturns : Type 0
SheetReturns =
    (form : Form) (l : Layout) (edition : Bool) (sheet out buffer : List ℕ) → Bytes sheet → write_number form l edition sheet out ≡ 0
    → length sheet ≤ length buffer
    → (make_number form l edition (written form l edition sheet out) (chip_in form sheet) (length buffer) ≡ 0)
    × (make_length form l edition (written form l edition sheet out) (chip_in form sheet) (length buffer) ≡ length sheet)
    × (made form l edition (written form l edition sheet out) (chip_in form sheet) buffer ≡ over buffer sheet)

-- ## Image, sheet, image

-- what the sheet maker leaves at the buffer's front
abbrev pub sheet_made : Form → Layout → Bool → List ℕ → ℕ → List ℕ → List ℕ
sheet_made form l edition image chip buffer =
    take (make_length form l edition image chip (length buffer)) (made form l edition image chip buffer)

-- where there is a Magic Packet block, two images have the same
abbrev pub SameBlock : Layout → List ℕ → List ℕ → Type 0
SameBlock l s t = l.magic ≡ true → drop (magic_at l.size) s ≡ drop (magic_at l.size) t

-- an image that the newest reader accepts and that is tidy, of a size that the form serves, made a sheet in a buffer that is
-- long enough and written over an output that already holds its Magic Packet block, if it has one, is that image byte for byte
abbrev pub ImageReturns : Type 0
ImageReturns =
    (form : Form) (l : Layout) (edition : Bool) (image out buffer : List ℕ) (chip : ℕ) → is_beyond form l.size ≡ false
    → Bytes image → first_met (judge_causes image (newest_in l edition chip)) ≡ 0 → is_tidy l chip image ≡ true
    → length (sheet_for form l image chip) ≤ length buffer → length out ≡ image_length l.size → SameBlock l out image
    → (make_number form l edition image chip (length buffer) ≡ 0)
    × (write_number form l edition (sheet_made form l edition image chip buffer) out ≡ 0)
    × (written form l edition (sheet_made form l edition image chip buffer) out ≡ image)

-- ## Narrow, wide, narrow; wide, narrow, wide

-- what a converter leaves at the buffer's front
abbrev pub sheet_converted : Form → List ℕ → List ℕ → List ℕ
sheet_converted from sheet buffer = take (convert_length from sheet (length buffer)) (converted_in from sheet buffer)

-- an accepted sheet of either form, converted and then converted back into a buffer that is long enough, is accepted and is that
-- sheet, byte for byte and in length; the buffer's bytes past it are unchanged
abbrev pub ConversionReturns : Type 0
ConversionReturns =
    (from : Form) (sheet first buffer : List ℕ) → Bytes sheet → convert_number from sheet (length first) ≡ 0
    → length sheet ≤ length buffer
    → (convert_number (other from) (sheet_converted from sheet first) (length buffer) ≡ 0)
    × (convert_length (other from) (sheet_converted from sheet first) (length buffer) ≡ length sheet)
    × (converted_in (other from) (sheet_converted from sheet first) buffer ≡ over buffer sheet)

-- ## A sheet has one form

-- no bytes have the right length and sum in both
abbrev pub OneForm : Type 0
OneForm = (s : List ℕ) → is_sheet Narrow s ≡ true → is_sheet Wide s ≡ true → ⊥

-- ## Both forms alike

-- a converted sheet is a sheet and means what the sheet means
abbrev pub ConversionMeans : Type 0
ConversionMeans =
    (from : Form) (sheet first : List ℕ) → convert_number from sheet (length first) ≡ 0
    → (is_sheet (other from) (sheet_converted from sheet first) ≡ true)
    × (sheet_from (other from) (sheet_converted from sheet first) ≡ sheet_from from sheet)

-- an image of the smaller size is written alike from a sheet and from that sheet converted
abbrev pub WrittenAlike : Type 0
WrittenAlike =
    (from : Form) (l : Layout) (edition : Bool) (sheet first out : List ℕ) → Bytes sheet → convert_number from sheet (length first) ≡ 0
    → l.size ≡ small_size
    → (write_number (other from) l edition (sheet_converted from sheet first) out ≡ write_number from l edition sheet out)
    × (written (other from) l edition (sheet_converted from sheet first) out ≡ written from l edition sheet out)

-- making the wide sheet of an image that has a narrow one is widening that one: answer and buffer are the same
abbrev pub MadeAlike : Type 0
MadeAlike =
    (l : Layout) (edition : Bool) (image : List ℕ) (chip : ℕ) (first buffer : List ℕ) → Bytes image
    → make_number Narrow l edition image chip (length first) ≡ 0
    → (made_for Wide l edition image chip (length buffer)
    ≡ converted_for Narrow (sheet_made Narrow l edition image chip first) (length buffer))
    × (made Wide l edition image chip buffer ≡ converted_in Narrow (sheet_made Narrow l edition image chip first) buffer)

-- ## The longest sheets

-- 91 blocks of one byte make the longest sheet of an image of 128 bytes; 255 blocks, 36 of them of seven bytes and the others of
-- one, that of an image of 512 bytes
unfoldable pub longest_sheet : Form → ℕ → ℕ
longest_sheet form size = shift form + pick (eqb size large_size) 1270 398

-- a buffer of so many bytes is long enough
abbrev pub SheetFits : Type 0
SheetFits =
    (form : Form) (l : Layout) (edition : Bool) (image : List ℕ) (chip : ℕ) → is_beyond form l.size ≡ false
    → Bytes image → first_met (judge_causes image (newest_in l edition chip)) ≡ 0 → is_tidy l chip image ≡ true
    → length (sheet_for form l image chip) ≤ longest_sheet form l.size

-- ## What is written

-- an accepted sheet's image is tidy and accepted by the newest reader
abbrev pub WrittenIsTidy : Type 0
WrittenIsTidy =
    (form : Form) (l : Layout) (edition : Bool) (sheet out : List ℕ) → write_number form l edition sheet out ≡ 0
    → (is_tidy l (chip_in form sheet) (written form l edition sheet out) ≡ true)
    × (first_met (judge_causes (written form l edition sheet out) (newest_in l edition (chip_in form sheet))) ≡ 0)

-- told of a Magic Packet block, the writer keeps that of its output, whatever the sheet
abbrev pub WriterKeepsBlock : Type 0
WriterKeepsBlock = (form : Form) (l : Layout) (edition : Bool) (sheet out : List ℕ) → SameBlock l (written form l edition sheet out) out

-- ## Refusals

-- a number other than 0 means that its cause is met and none before it; 0 that none is met
abbrev pub ExactRefusals : Type 0
ExactRefusals =
    (form : Form)
    → ((l : Layout) (edition : Bool) (sheet out : List ℕ)
    → Exact (write_causes form l edition sheet out) (write_number form l edition sheet out))
    × ((l : Layout) (edition : Bool) (image : List ℕ) (chip room : ℕ)
    → Exact (make_causes form l edition image chip room) (make_number form l edition image chip room))
    × ((sheet : List ℕ) (room : ℕ) → Exact (convert_causes form sheet room) (convert_number form sheet room))

-- the writer tries 24, then 33, then 1, then 7, then 25: each is its number whatever else of what comes later is met
abbrev pub WriterOrder : Type 0
WriterOrder =
    (form : Form) (l : Layout) (edition : Bool) (sheet out : List ℕ)
    → (is_sheet form sheet ≡ false → write_number form l edition sheet out ≡ 24)
    × (is_sheet form sheet ≡ true
    → (too_many_blocks form sheet ≡ true → write_number form l edition sheet out ≡ 33)
    × (too_many_blocks form sheet ≡ false
    → (wrong_output form l (length out) ≡ true → write_number form l edition sheet out ≡ 1)
    × (wrong_output form l (length out) ≡ false
    → (is_in (chip_in form sheet) chips ≡ false → write_number form l edition sheet out ≡ 7)
    × (is_in (chip_in form sheet) chips ≡ true → cannot_hold (sheet_from form sheet) ≡ true → write_number form l edition sheet out ≡ 25))))

-- and a converter 24, then 33, then 12
abbrev pub ConverterOrder : Type 0
ConverterOrder =
    (from : Form) (sheet : List ℕ) (room : ℕ)
    → (is_sheet from sheet ≡ false → convert_number from sheet room ≡ 24)
    × (is_sheet from sheet ≡ true
    → (too_large from sheet ≡ true → convert_number from sheet room ≡ 33)
    × (too_large from sheet ≡ false
    → (room < length (converted from sheet) → convert_number from sheet room ≡ 12)
    × (length (converted from sheet) ≤ room → convert_number from sheet room ≡ 0)))

-- 33 is never given for a narrow sheet, and for a wide one exactly where its length and sum are right and N is over 255, or,
-- by the converter alone, T
abbrev pub TooLargeExactly : Type 0
TooLargeExactly =
    ((l : Layout) (edition : Bool) (sheet out : List ℕ) (room : ℕ)
    → (write_number Narrow l edition sheet out ≡ 33 → ⊥) × (convert_number Narrow sheet room ≡ 33 → ⊥))
    × ((l : Layout) (edition : Bool) (sheet out : List ℕ) (room : ℕ) → is_sheet Wide sheet ≡ true
    → (255 < count_in Wide sheet → (write_number Wide l edition sheet out ≡ 33) × (convert_number Wide sheet room ≡ 33))
    × (count_in Wide sheet ≤ 255
    → (write_number Wide l edition sheet out ≡ 33 → ⊥)
    × (255 < total_in Wide sheet → convert_number Wide sheet room ≡ 33)
    × (total_in Wide sheet ≤ 255 → convert_number Wide sheet room ≡ 33 → ⊥)))

-- the narrow form gets 1 for any stated size but 128
abbrev pub NarrowKeeps : Type 0
NarrowKeeps =
    (l : Layout) (edition : Bool) → (l.size ≡ small_size → ⊥)
    → ((sheet out : List ℕ) → is_sheet Narrow sheet ≡ true → write_number Narrow l edition sheet out ≡ 1)
    × ((image : List ℕ) (chip room : ℕ) → make_number Narrow l edition image chip room ≡ 1)

-- the bytes of a buffer past the sheet that is made, or converted, are unchanged
abbrev pub PastUnchanged : Type 0
PastUnchanged =
    (form : Form)
    → ((l : Layout) (edition : Bool) (image buffer : List ℕ) (chip : ℕ)
    → drop (make_length form l edition image chip (length buffer)) (made form l edition image chip buffer)
    ≡ drop (make_length form l edition image chip (length buffer)) buffer)
    × ((sheet buffer : List ℕ)
    → drop (convert_length form sheet (length buffer)) (converted_in form sheet buffer) ≡ drop
    (convert_length form sheet (length buffer)) buffer)

-- a refusal leaves what was lent as it was, and answers no length
abbrev pub RefusalsChangeNothing : Type 0
RefusalsChangeNothing =
    (form : Form)
    → ((l : Layout) (edition : Bool) (sheet out : List ℕ) → (write_number form l edition sheet out ≡ 0 → ⊥)
    → written form l edition sheet out ≡ out)
    × ((l : Layout) (edition : Bool) (image buffer : List ℕ) (chip : ℕ) → (make_number form l edition image chip (length buffer) ≡ 0 → ⊥)
    → (make_length form l edition image chip (length buffer) ≡ 0) × (made form l edition image chip buffer ≡ buffer))
    × ((sheet buffer : List ℕ) → (convert_number form sheet (length buffer) ≡ 0 → ⊥)
    → (convert_length form sheet (length buffer) ≡ 0) × (converted_in form sheet buffer ≡ buffer))
