-- Words for what a card says.
use Rattle.std.specs.Prelude.{ℕ, ◌/◌, ◌%◌, Bool, List, [], ◌∷◌, ◌++◌, eqb, leb, get_or, map}
use Prim.Native.String.{String}
use Rattle.rom.specs.declared.Layout.{Layout}
use Rattle.rom.specs.Bytes.{pick, byte_at}
use Rattle.text.specs.Quoted.{quoted}
use Rattle.text.specs.Numbers.{decimal_of}
use Rattle.text.specs.Written.{with_values, with_fields}
use Rattle.format.specs.Chips.{kind_compact, kind21041, taken_as}
use Rattle.image.specs.declared.Arguments.{Arguments}
use Rattle.image.specs.Image.{is_first_version}
use Rattle.survey.specs.declared.Place.{Place}
use Rattle.report.specs.Sizes.{is_named}

-- a pattern of text with its values
abbrev pub says : String → List ℕ → List ℕ
says pattern values = with_values values (quoted pattern)

-- media by their codes, as 000 names them
unfoldable pub media_names : List String
media_names =
    "10BaseT" ∷ "10Base2 (BNC)" ∷ "10Base5 (AUI)" ∷ "100BaseTx" ∷ "10BaseT full duplex" ∷ "100BaseTx full duplex" ∷ "100BaseT4"
    ∷ "100BaseFx" ∷ "100BaseFx full duplex" ∷ []

unfoldable pub media_words : ℕ → List ℕ
media_words code = quoted (get_or media_names code "")

-- a block's kind: an extended type, or one of the two forms without
unfoldable pub kind_words : ℕ → List ℕ
kind_words kind =
    pick (eqb kind kind_compact) (quoted "compact") (pick (eqb kind kind21041) (quoted "21041") (quoted "type " ++ decimal_of kind))

-- what a listed block stands for: a medium by its code, or a PHY by its number
unfoldable pub medium_words : List ℕ → ℕ → List ℕ
medium_words bytes kind =
    pick (leb kind_compact kind) (media_words (byte_at bytes 0 % 64))
    (pick (eqb (kind % 2) 1) (says "MII PHY #" (byte_at bytes 2 ∷ 0 ∷ 0 ∷ 0 ∷ [])) (media_words (byte_at bytes 2 % 64)))

-- the lower three bytes of a number, high byte first
abbrev pub three_bytes : ℕ → List ℕ
three_bytes n = n / 0x10000 % 256 ∷ n / 0x100 % 256 ∷ n % 256 ∷ 0 ∷ []

-- xx:xx:xx:xx:xx:xx
unfoldable pub address_words : ℕ → List ℕ
address_words address = says "%:%:%:" (three_bytes (address / 0x1000000)) ++ says "%:%:%" (three_bytes address)

-- the same of six bytes
unfoldable pub six_words : List ℕ → List ℕ
six_words bytes = with_fields bytes (quoted "%0:%1:%2:%3:%4:%5")

abbrev pub layout_words : Layout → List ℕ
layout_words l = pick l.magic (quoted ", Magic Packet layout") []

-- a size, where it is named
unfoldable pub size_words : Bool → ℕ → List ℕ
size_words given size = pick (is_named given size) (says ", size #" (size ∷ 0 ∷ 0 ∷ 0 ∷ [])) []

-- the edition in which an image of version 1 is read
unfoldable pub edition_words : List ℕ → Bool → List ℕ
edition_words image first =
    pick (is_first_version image) (pick first (quoted ", read in edition 1.00") (quoted ", read in edition 1.01")) []

-- what a code of edition 1.00 is since
abbrev pub since_words : ℕ → List ℕ
since_words code = says ", in edition 1.00 what @ is since" (taken_as code ∷ 0 ∷ 0 ∷ 0 ∷ [])

-- a connection type's code
unfoldable pub connection_words : ℕ → List ℕ
connection_words code = says "@" (code ∷ 0 ∷ 0 ∷ 0 ∷ []) ++ pick (eqb (taken_as code) code) [] (since_words code)

abbrev pub reader_words : Arguments → List ℕ
reader_words a = says "chip #, controller #, level #" (a.chip ∷ a.controller ∷ a.level ∷ 0 ∷ [])

-- the arguments of a reading, and whether its size was given
unfoldable pub arguments_words : Bool → Arguments → List ℕ
arguments_words given a = reader_words a ++ (size_words given a.layout.size ++ layout_words a.layout)

abbrev pub start_words : ℕ → Place → List ℕ
start_words number place = says "block # at byte #, " (number ∷ place.start ∷ 0 ∷ 0 ∷ [])

unfoldable pub place_words : ℕ → Place → List ℕ
place_words number place = start_words number place ++ (kind_words place.kind ++ says ", size #" (place.size ∷ 0 ∷ 0 ∷ 0 ∷ []))

-- ## Bits by their names

-- the names of the bits that are set, from the lowest on: the next behind one text, the others behind another
unfoldable pub set_names : List (List ℕ) → List ℕ → List ℕ → ℕ → List ℕ
set_names [] next other bits = []
set_names (name ∷ names) next other bits =
    pick (eqb (bits % 2) 1) ((next ++ name) ++ set_names names other other (bits / 2)) (set_names names next other (bits / 2))

abbrev pub list_words : List String → List ℕ → List ℕ → ℕ → List ℕ
list_words names first other bits = set_names (map quoted names) first other bits

-- the bits of a Magic command as 000 names them; one that must be 0 has its number alone
unfoldable pub command_names : List String
command_names =
    "MAGIC_DIS" ∷ "Sec_ON_En" ∷ "bit 2" ∷ "BNC" ∷ "AUI/HR" ∷ "TP10" ∷ "MII" ∷ "SYM" ∷ "LOCK" ∷ "bit 9" ∷ "bit 10" ∷ "bit 11" ∷ "bit 12"
    ∷ "bit 13" ∷ "bit 14" ∷ "bit 15" ∷ []

unfoldable pub command_words : ℕ → List ℕ
command_words command = list_words command_names (quoted " ") (quoted " ") command

-- when a power block applies: the bits of a mode byte (000, section 7.5.2.1.5), in the same way
unfoldable pub mode_names : List String
mode_names = "link fail" ∷ "D1" ∷ "D2" ∷ "D3" ∷ "bit 4" ∷ "bit 5" ∷ "bit 6" ∷ "bit 7" ∷ []

unfoldable pub mode_words : ℕ → List ℕ
mode_words mode = pick (eqb mode 0) (quoted " none") (list_words mode_names (quoted " ") (quoted ", ") mode)
