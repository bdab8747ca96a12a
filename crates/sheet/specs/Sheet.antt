-- The sheet (document 01, 'The sheet'; document 02, request 7): the sheet of a record in each form, and what a sheet means.
use Rattle.std.specs.Prelude.{ℕ, zero, suc, ◌+◌, ◌*◌, List, [], ◌∷◌, ◌++◌, Bool, ◌&&◌, length, take, drop, eqb}
use Rattle.rom.specs.Bytes.{byte_at, word_at}
use Rattle.rom.specs.Store.{word_bytes}
use Rattle.sheet.specs.Lists.{sum}
use Rattle.sheet.specs.declared.Form.{Form}
use Rattle.sheet.specs.Form.{shift, shifted, count_in, total_in, counts_of}
use Rattle.sheet.specs.Layout.{id_at, last_id_at, sheet_version_at, sheet_address_at, device_at, chip_at, connection_at}
use Rattle.sheet.specs.Layout.{control_at, maker_at, head_length}
use Rattle.sheet.specs.Record.{Entry, Plain}

-- ## The sheet of a record

-- bytes 2 to 33
unfoldable pub head_of : Plain → List ℕ
head_of p =
    p.id ++ (p.last_id ∷ p.version ∷ (p.address
    ++ (p.device ∷ (word_bytes p.chip ++ (word_bytes p.connection ++ (p.control ∷ p.maker))))))

-- two parallel arrays, both by block number, then the bodies in that order
unfoldable pub kind_bytes : List Entry → List ℕ
kind_bytes [] = []
kind_bytes (e ∷ es) = word_bytes e.kind ++ kind_bytes es

unfoldable pub size_bytes : List Entry → List ℕ
size_bytes [] = []
size_bytes (e ∷ es) = length e.body ∷ size_bytes es

unfoldable pub body_bytes : List Entry → List ℕ
body_bytes [] = []
body_bytes (e ∷ es) = e.body ++ body_bytes es

unfoldable pub parts_of : List Entry → List ℕ
parts_of es = kind_bytes es ++ (size_bytes es ++ body_bytes es)

-- all that follows the sizes
abbrev pub content_of : Plain → List ℕ
content_of p = head_of p ++ parts_of p.entries

-- sizes first
unfoldable pub sheet_of : Form → Plain → List ℕ
sheet_of form p = counts_of form (length p.entries) (length (body_bytes p.entries)) ++ content_of p

-- ## What a sheet means

-- where the three parts of N blocks stand
abbrev pub kinds_in : List ℕ → List ℕ
kinds_in s = drop head_length s

abbrev pub sizes_in : ℕ → List ℕ → List ℕ
sizes_in n s = drop (head_length + 2 * n) s

abbrev pub bodies_in : ℕ → List ℕ → List ℕ
bodies_in n s = drop (head_length + 3 * n) s

-- the entries of so many blocks, from their kinds, body sizes and bodies; each part's rest is handed on
unfoldable pub entries_from : ℕ → List ℕ → List ℕ → List ℕ → List Entry
entries_from zero kinds sizes bodies = []
entries_from (suc n) kinds sizes bodies =
    record { kind = word_at kinds 0; body = take (byte_at sizes 0) bodies }
    ∷ entries_from n (drop 2 kinds) (drop 1 sizes) (drop (byte_at sizes 0) bodies)

-- of N blocks, by the places of a narrow sheet
unfoldable pub plain_from : ℕ → List ℕ → Plain
plain_from n s = record {
  id = take 16 (drop id_at s);
  last_id = byte_at s last_id_at;
  version = byte_at s sheet_version_at;
  address = take 6 (drop sheet_address_at s);
  device = byte_at s device_at;
  chip = word_at s chip_at;
  connection = word_at s connection_at;
  control = byte_at s control_at;
  maker = take 2 (drop maker_at s);
  entries = entries_from n (kinds_in s) (sizes_in n s) (bodies_in n s);
}

-- in its form
abbrev pub sheet_from : Form → List ℕ → Plain
sheet_from form s = plain_from (count_in form s) (shifted form s)

abbrev pub chip_in : Form → List ℕ → ℕ
chip_in form s = word_at (shifted form s) chip_at

-- length exactly 34+3N+T, or 36+3N+T in the wide form, T the sum of the sizes; a shorter one is never that
unfoldable pub is_sheet : Form → List ℕ → Bool
is_sheet form s =
    eqb (length s) (shift form + (head_length + 3 * count_in form s + total_in form s))
    && eqb (total_in form s) (sum (take (count_in form s) (sizes_in (count_in form s) (shifted form s))))
