-- What the contracts of the sheet maker's inner functions cite.
use Rattle.std.specs.Prelude.{ℕ, ◌≡◌, List, [], ◌∷◌, ◌++◌, Bool, ◌&&◌, take, drop, eqb}
use Rattle.rom.specs.declared.Layout.{Layout}
use Rattle.rom.specs.Geometry.{leaves_end, address_at}
use Rattle.rom.specs.Bytes.{all_zero}
use Rattle.rom.specs.Store.{word_bytes}
use Rattle.rom.specs.Refusal.{first_met}
use Rattle.format.specs.Chips.{newest_level}
use Rattle.image.specs.Image.{controller_count, leaf_at, up_to_leaves_end}
use Rattle.format.specs.Block.{the_later_version}
use Rattle.leaf.specs.Leaf.{cut, block_causes}
use Rattle.reader.specs.declared.Answer.{Answer}
use Rattle.sheet.specs.Image.{leaf_start}

-- ## A leaf's blocks

-- so many blocks at the front of a leaf's rest, accepted at the newest level
abbrev pub AcceptedBlocks : ℕ → ℕ → List ℕ → Type 0
AcceptedBlocks row count s = first_met (block_causes the_later_version row newest_level (cut row count s)) ≡ 0

-- n = 1, leaf at 30, zeros from a place up to where leaves end
unfoldable pub is_tidy_from : Layout → ℕ → List ℕ → Bool
is_tidy_from l end image =
    eqb (controller_count image) 1 && (eqb (leaf_at image 0) leaf_start && all_zero (up_to_leaves_end l image end))

-- ## Bytes laid into a sheet

-- bytes 2 to 26 of a narrow sheet: ID bytes 0 to 15, ID byte 17 and the version, the address and the device number
unfoldable pub front_bytes : List ℕ → List ℕ
front_bytes image = take 16 image ++ (take 2 (drop 17 image) ++ take 7 (drop address_at image))

-- bytes 27 to 33: the chip, the connection type, the control byte and the maker's bytes
unfoldable pub field_bytes : Layout → ℕ → Answer → List ℕ → List ℕ
field_bytes l chip answer image =
    word_bytes chip ++ (word_bytes answer.connection ++ ((answer.control ∷ []) ++ take 2 (drop (leaves_end l) image)))
