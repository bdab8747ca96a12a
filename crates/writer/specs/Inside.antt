-- What the contracts of the writer's inner functions cite.
use Rattle.std.specs.Prelude.{ℕ, ◌+◌, ◌-◌, ◌*◌, ◌≤◌, ◌≡◌, List, [], ◌∷◌, ◌++◌, Bool, false, length, take, set, replicate, eqb, ltb}
use Rattle.rom.specs.declared.Layout.{Layout}
use Rattle.rom.specs.Geometry.{wrong_length, image_length, leaves_end, checked_length, id_crc_at}
use Rattle.rom.specs.Bytes.{pick}
use Rattle.rom.specs.Store.{word_bytes, put}
use Rattle.rom.specs.Refusal.{Cause, ◌⇒◌, first_met}
use Rattle.format.specs.Chips.{row_of}
use Rattle.checksum.specs.Crc.{srom_crc, id_crc}
use Rattle.reader.specs.Reading.{judge_causes}
use Rattle.sheet.specs.Lists.{sum}
use Rattle.sheet.specs.Layout.{head_length}
use Rattle.sheet.specs.Record.{Entry, Plain}
use Rattle.sheet.specs.Sheet.{sizes_in, plain_from}
use Rattle.sheet.specs.Image.{leaf_start, encodes, leaf_of, image_of, newest_in}
use Rattle.sheet.specs.Write.{is_bad, any_bad, record_causes}

-- ## Bytes laid into others

unfoldable pub zeros : ℕ → List ℕ
zeros n = replicate n 0

-- an image with these bytes before the place of its leaf, these maker's bytes, and zeros elsewhere
unfoldable pub frame_of : Layout → List ℕ → List ℕ → List ℕ
frame_of l front maker = front ++ (zeros (leaves_end l - leaf_start) ++ (maker ++ zeros (image_length l.size - checked_length l)))

-- an image with its ID CRC, and with its SROM CRC
unfoldable pub with_id_crc : List ℕ → List ℕ
with_id_crc image = set image id_crc_at (id_crc image)

unfoldable pub with_srom_crc : Layout → List ℕ → List ℕ
with_srom_crc l image = put image (checked_length l) (word_bytes (srom_crc l image))

-- ## Entries

-- a sheet of n blocks, from where its places count as in a narrow one, whose length and sum are right
pub record Counted (n : ℕ) (s : List ℕ) : Type 0 where
  pub long : length s ≡ head_length + 3 * n + sum (take n (sizes_in n s))

-- three parallel parts, of kinds, body sizes and bodies
pub record Parts (kinds sizes bodies : List ℕ) : Type 0 where
  pub for_kinds : length kinds ≡ 2 * length sizes
  pub for_bodies : sum sizes ≤ length bodies

-- 25 and 26 of entries whose first block stands at `start`, where leaves end before `limit`
unfoldable pub entry_causes : ℕ → ℕ → ℕ → List Entry → List Cause
entry_causes limit row start es = (25 ⇒ any_bad row es) ∷ (26 ⇒ ltb limit (start + length (encodes es))) ∷ []

-- ## What an inner function may take for granted

-- an entry that images of some chip hold, and room for these of its bytes from a place on
pub record Fits (room : List ℕ) (to : ℕ) (e : Entry) (ys : List ℕ) : Type 0 where
  pub row : ℕ
  pub good : is_bad row e ≡ false
  pub fits : to + length ys ≤ length room

-- entries that images of some chip hold, and room for their blocks from a place on
pub record Holds (room : List ℕ) (to : ℕ) (es : List Entry) : Type 0 where
  pub row : ℕ
  pub good : any_bad row es ≡ false
  pub fits : to + length (encodes es) ≤ length room

-- a sheet of n blocks that passes 7, 25 and 26, for an output of the right length
pub record Writable (l : Layout) (n : ℕ) (s out : List ℕ) : Type 0 where
  pub right : wrong_length l.size (length out) ≡ false
  pub number : first_met (record_causes l (plain_from n s)) ≡ 0

-- one whose entries images of its chip hold, and room for its leaf
pub record Roomy (n : ℕ) (s room : List ℕ) : Type 0 where
  pub good : any_bad (row_of (plain_from n s).chip) (plain_from n s).entries ≡ false
  pub head : 4 ≤ length room
  pub fits : length (leaf_of (plain_from n s)) ≤ length room

-- ## What is written out

-- the newest reader's number in an edition for controller 0 of a record's image, and an output after it
unfoldable pub issue_number : Layout → Bool → Plain → List ℕ → ℕ
issue_number l edition p out = first_met (judge_causes (image_of l p out) (newest_in l edition p.chip))

unfoldable pub issued : Layout → Bool → Plain → List ℕ → List ℕ
issued l edition p out = pick (eqb (issue_number l edition p out) 0) (image_of l p out) out
