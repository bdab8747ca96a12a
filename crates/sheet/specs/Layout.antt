-- Where things stand in a narrow sheet, behind its block count and total (document 01, 'The sheet').
use Rattle.std.specs.Prelude.{ℕ}

-- ID bytes 0 to 15, then ID byte 17
abbrev pub id_at : ℕ
id_at = 2

abbrev pub last_id_at : ℕ
last_id_at = 18

abbrev pub sheet_version_at : ℕ
sheet_version_at = 19

abbrev pub sheet_address_at : ℕ
sheet_address_at = 20

abbrev pub device_at : ℕ
device_at = 26

-- words: the decimal chip number, the connection type
abbrev pub chip_at : ℕ
chip_at = 27

abbrev pub connection_at : ℕ
connection_at = 29

abbrev pub control_at : ℕ
control_at = 31

-- the maker's two bytes
abbrev pub maker_at : ℕ
maker_at = 32

-- the two parallel arrays and the bodies stand behind these bytes
abbrev pub head_length : ℕ
head_length = 34
