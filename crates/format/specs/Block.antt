-- One block, given as the leaf's rest `s` from its first byte on (document 01, 'Leaf and blocks'; document 02, requests 3, 5 and
-- 12). Its size, its kind and what its fields say take no level: the level decides only which of the causes 14 to 17 count.
use Rattle.std.specs.Prelude.{ℕ, ◌+◌, ◌*◌, ◌/◌, ◌%◌, List, [], ◌∷◌, Bool, true, false, ◌||◌, ◌&&◌, not, length, eqb, leb, ltb}
use Rattle.rom.specs.Geometry.{none}
use Rattle.rom.specs.Bytes.{pick, byte_at, word_at, bit, is_in}
use Rattle.rom.specs.Refusal.{Cause, ◌⇒◌, first_met}
use Rattle.format.specs.Chips.{row21041, kind_compact, kind21041, is_permitted, sia_codes, port_codes, sym_codes, never_default}

-- ## Where a block ends and what kind it is

abbrev pub is21041 : ℕ → Bool
is21041 row = eqb row row21041

-- elsewhere a first byte with top bit 1 opens an extended block, one with top bit 0 a compact block
unfoldable pub is_extended : ℕ → List ℕ → Bool
is_extended row s = not (is21041 row) && leb 128 (byte_at s 0)

-- bits 6:0 of an extended block's first byte: the length of all that follows
unfoldable pub length_of : List ℕ → ℕ
length_of s = byte_at s 0 % 128

-- a code byte: bits 5:0 are the media code, and bit 6 is EXT in the 21041's form and type 2
abbrev pub media_code_of : ℕ → ℕ
media_code_of b = b % 64

abbrev pub has_ext : ℕ → Bool
has_ext b = bit 6 b

-- a 21041 block is a code byte, and six bytes more if EXT is 1
unfoldable pub sia_size : ℕ → ℕ
sia_size b = pick (has_ext b) 7 1

-- a compact block is a code byte, port data and the command word
unfoldable pub size_of : ℕ → List ℕ → ℕ
size_of row s = pick (is21041 row) (sia_size (byte_at s 0)) (pick (is_extended row s) (1 + length_of s) 4)

-- the type byte comes first of all that follows an extended block's first byte
unfoldable pub kind_of : ℕ → List ℕ → ℕ
kind_of row s = pick (is21041 row) kind21041 (pick (is_extended row s) (byte_at s 1) kind_compact)

-- a level knows the types below it; compact and 21041 blocks are known at every level
unfoldable pub is_known : ℕ → ℕ → Bool
is_known level kind = leb kind_compact kind || ltb kind level

-- ## The length of each type

-- types 1 and 3: PHY number, g, g units, r, r units, then the words capabilities, advertisement, full duplex, threshold; a unit is a byte
-- in type 1 and a word in type 3. Type 6: a mode byte, g, g words
unfoldable pub g_count : List ℕ → ℕ
g_count s = byte_at s 3

unfoldable pub r_count : ℕ → List ℕ → ℕ
r_count unit s = byte_at s (4 + unit * g_count s)

unfoldable pub capabilities_at : ℕ → List ℕ → ℕ
capabilities_at unit s = 5 + unit * g_count s + unit * r_count unit s

-- type 2 has its code byte, type 5 its count r behind the type byte
unfoldable pub length_for : ℕ → List ℕ → ℕ
length_for kind s =
    pick (eqb kind 0) 5
    (pick (eqb kind 1) (12 + g_count s + r_count 1 s)
    (pick (eqb kind 2) (pick (has_ext (byte_at s 2)) 12 6)
    (pick (eqb kind 3) (13 + 2 * g_count s + 2 * r_count 2 s)
    (pick (eqb kind 4) 8
    (pick (eqb kind 5) (2 * byte_at s 2 + 2)
    (2 * g_count s + 3))))))

-- a count past the block's end asks for more than the block has, so its length is wrong too
unfoldable pub is_wrong : ℕ → List ℕ → Bool
is_wrong kind s = not (eqb (length_of s) (length_for kind s))

-- ## What a block's fields say, type by type

-- `code` is the media code, none where there is none, and `capabilities` the word of a PHY, 0 where there is none
pub record Facts : Type 0 where
  pub wrong_length : Bool
  pub bad_code : Bool
  pub advertises_too_much : Bool
  pub active_invalid : Bool
  pub is_default : Bool
  pub resets_phy : Bool
  pub code : ℕ
  pub capabilities : ℕ
  pub mode : ℕ

-- a code byte with EXT: bit 7 is reserved
unfoldable pub bad_sia_code : ℕ → Bool
bad_sia_code b = leb 128 b || not (is_in (media_code_of b) sia_codes)

-- a code byte without: bits 7:6 are reserved
unfoldable pub bad_plain_code : ℕ → List ℕ → Bool
bad_plain_code b codes = leb 64 b || not (is_in (media_code_of b) codes)

-- command bits 13:8, which are 0 in compact and type 0
unfoldable pub bad_command : ℕ → Bool
bad_command command = not (eqb (command / 256 % 64) 0)

-- command bit 15 is Active_Invalid, 14 Default, which counts only with bit 15 clear and a code other than 4, 5, 8
unfoldable pub counts_as_default : ℕ → ℕ → Bool
counts_as_default code command = not (bit 15 command) && not (is_in code never_default) && bit 14 command

-- advertisement bits 9:5 have a 1 where capability bits 15:11, in the same order, have none
unfoldable pub exceeds : ℕ → ℕ → Bool
exceeds advertisement capabilities = beyond 0 || beyond 1 || beyond 2 || beyond 3 || beyond 4
  where
    beyond : ℕ → Bool
    beyond i = bit (5 + i) advertisement && not (bit (11 + i) capabilities)

-- the 21041's form and type 2: the code byte at `at`
unfoldable pub sia : Bool → ℕ → List ℕ → Facts
sia wrong at s =
    record {
      wrong_length = wrong;
      bad_code = bad_sia_code (byte_at s at);
      advertises_too_much = false;
      active_invalid = false;
      is_default = false;
      resets_phy = false;
      code = media_code_of (byte_at s at);
      capabilities = 0;
      mode = 0;
    }

-- compact and type 0: code byte, port data, command word from byte `at` on
unfoldable pub port : Bool → ℕ → List ℕ → Facts
port wrong at s = record {
  wrong_length = wrong;
  bad_code = bad_plain_code (byte_at s at) port_codes || bad_command (word_at s (at + 2));
  advertises_too_much = false;
  active_invalid = bit 15 (word_at s (at + 2));
  is_default = counts_as_default (media_code_of (byte_at s at)) (word_at s (at + 2));
  resets_phy = false;
  code = media_code_of (byte_at s at);
  capabilities = 0;
  mode = 0;
}

-- type 4: code byte, two words, command word
unfoldable pub symbol : Bool → List ℕ → Facts
symbol wrong s = record {
  wrong_length = wrong;
  bad_code = bad_plain_code (byte_at s 2) sym_codes;
  advertises_too_much = false;
  active_invalid = bit 15 (word_at s 7);
  is_default = counts_as_default (media_code_of (byte_at s 2)) (word_at s 7);
  resets_phy = false;
  code = media_code_of (byte_at s 2);
  capabilities = 0;
  mode = 0;
}

-- types 1 and 3: a PHY has no media code, and is reset with r above 0
unfoldable pub phy : Bool → ℕ → List ℕ → Facts
phy wrong unit s = record {
  wrong_length = wrong;
  bad_code = false;
  advertises_too_much = exceeds (word_at s (capabilities_at unit s + 2)) (word_at s (capabilities_at unit s));
  active_invalid = false;
  is_default = false;
  resets_phy = ltb 0 (r_count unit s);
  code = none;
  capabilities = word_at s (capabilities_at unit s);
  mode = 0;
}

-- types 5 and 6: nothing but the length is judged; type 6 has a mode byte
unfoldable pub sequence : Bool → ℕ → Facts
sequence wrong mode =
    record {
      wrong_length = wrong;
      bad_code = false;
      advertises_too_much = false;
      active_invalid = false;
      is_default = false;
      resets_phy = false;
      code = none;
      capabilities = 0;
      mode = mode;
    }

-- types past 6 are permitted on no chip, so what is said of them is never asked
unfoldable pub facts_of : ℕ → List ℕ → Facts
facts_of kind s =
    pick (eqb kind kind21041) (sia false 0 s)
    (pick (eqb kind kind_compact) (port false 0 s)
    (pick (eqb kind 0) (port (is_wrong 0 s) 2 s)
    (pick (eqb kind 1) (phy (is_wrong 1 s) 1 s)
    (pick (eqb kind 2) (sia (is_wrong 2 s) 2 s)
    (pick (eqb kind 3) (phy (is_wrong 3 s) 2 s)
    (pick (eqb kind 4) (symbol (is_wrong 4 s) s)
    (pick (eqb kind 5) (sequence (is_wrong 5 s) 0)
    (sequence (is_wrong 6 s) (byte_at s 2)))))))))

-- ## How a level sees a block

-- a medium or a PHY: every kind but types 5 and 6
abbrev pub is_medium : ℕ → Bool
is_medium kind = not (eqb kind 5 || eqb kind 6)

-- known blocks but types 5 and 6 are listed
unfoldable pub is_listed : ℕ → ℕ → List ℕ → Bool
is_listed row level s = is_known level (kind_of row s) && is_medium (kind_of row s)

unfoldable pub is_reset : ℕ → ℕ → List ℕ → Bool
is_reset row level s = is_known level (kind_of row s) && eqb (kind_of row s) 5

unfoldable pub is_power : ℕ → ℕ → List ℕ → Bool
is_power row level s = is_known level (kind_of row s) && eqb (kind_of row s) 6

-- an unknown type is stepped over
unfoldable pub is_skipped : ℕ → ℕ → List ℕ → Bool
is_skipped row level s = not (is_known level (kind_of row s))

unfoldable pub is_default : ℕ → ℕ → List ℕ → Bool
is_default row level s = is_known level (kind_of row s) && (facts_of (kind_of row s) s).is_default

unfoldable pub resets_a_phy : ℕ → ℕ → List ℕ → Bool
resets_a_phy row level s = is_known level (kind_of row s) && (facts_of (kind_of row s) s).resets_phy

-- whether a power block sets bit k of its mode byte
unfoldable pub sets_mode : ℕ → ℕ → ℕ → List ℕ → Bool
sets_mode row level k s = is_power row level s && bit k (facts_of (kind_of row s) s).mode

-- ## Why a reader of a level refuses the block (document 01, 'Why a call is refused', 13 to 17)

-- version 1, the first, has 21041 and compact blocks only: an extended one gets 14 there at every level (document 02, request 12);
-- so a judge is told whether the image is of the first version or of a later one
abbrev pub the_first_version : Bool
the_first_version = true

abbrev pub the_later_version : Bool
the_later_version = false

unfoldable pub causes : Bool → ℕ → ℕ → List ℕ → List Cause
causes first row level s =
    let kind = kind_of row s in
    let known = is_known level kind in
    let facts = facts_of kind s in
    (13 ⇒ ltb (length s) (size_of row s))
    ∷ (14 ⇒ is_extended row s && (first || eqb (length_of s) 0) || known && not (is_permitted row kind))
    ∷ (15 ⇒ known && facts.wrong_length)
    ∷ (16 ⇒ known && facts.bad_code)
    ∷ (17 ⇒ known && facts.advertises_too_much) ∷ []

unfoldable pub refusal_in : Bool → ℕ → ℕ → List ℕ → ℕ
refusal_in first row level s = first_met (causes first row level s)

-- in the later versions, 3 and 4
unfoldable pub refusal_of : ℕ → ℕ → List ℕ → ℕ
refusal_of row level s = first_met (causes the_later_version row level s)
