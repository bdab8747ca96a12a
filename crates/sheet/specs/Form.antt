-- The two forms of a sheet (document 02, request 7): block count N and total T of body bytes are bytes in the narrow one, which
-- is document 01's, and words in the wide one, where all that follows stands two bytes later.
use Rattle.std.specs.Prelude.{ℕ, List, [], ◌∷◌, ◌++◌, Bool, true, false, ◌&&◌, not, drop}
use Rattle.rom.specs.Geometry.{other_size}
use Rattle.rom.specs.Bytes.{byte_at, word_at}
use Rattle.rom.specs.Store.{word_bytes}
use Rattle.sheet.specs.declared.Form.{Form}
use Rattle.sheet.specs.declared.Form.TheVariants.{Narrow, Wide}

-- as a caller names it
abbrev pub form_named : Bool → Form
form_named false = Narrow
form_named true = Wide

abbrev pub is_wide : Form → Bool
is_wide Narrow = false
is_wide Wide = true

abbrev pub other : Form → Form
other Narrow = Wide
other Wide = Narrow

-- the narrow form keeps to images of the smaller size: another stated size is beyond it
unfoldable pub is_beyond : Form → ℕ → Bool
is_beyond form size = not (is_wide form) && other_size size

-- ## Block count N and total T

abbrev pub count_in : Form → List ℕ → ℕ
count_in Narrow s = byte_at s 0
count_in Wide s = word_at s 0

abbrev pub total_in : Form → List ℕ → ℕ
total_in Narrow s = byte_at s 1
total_in Wide s = word_at s 2

-- the bytes that state them, and the largest of either that a form states
abbrev pub counts_of : Form → ℕ → ℕ → List ℕ
counts_of Narrow n t = n ∷ t ∷ []
counts_of Wide n t = word_bytes n ++ word_bytes t

abbrev pub largest : Form → ℕ
largest Narrow = 255
largest Wide = 65535

-- ## All that follows

-- how much later it stands
abbrev pub shift : Form → ℕ
shift Narrow = 0
shift Wide = 2

-- a sheet from where its further places count as in a narrow one
abbrev pub shifted : Form → List ℕ → List ℕ
shifted form s = drop (shift form) s
