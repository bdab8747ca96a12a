-- Digits, the numbers that they spell, and the digits that spell a number.
use Rattle.std.specs.Prelude.{ℕ, zero, suc, ◌+◌, ◌-◌, ◌*◌, ◌^◌, min, max, Bool, ◌&&◌, ◌||◌, List, [], ◌∷◌, eqb, leb, ltb, length}
use Rattle.rom.specs.Bytes.{pick}
use Rattle.io.specs.Digits.{last_digits}

-- ## Numbers that are read

-- whether a character stands between two, or is one of them
abbrev pub is_among : ℕ → ℕ → ℕ → Bool
is_among low high c = leb low c && leb c high

-- the value of a hexadecimal digit (0 to 9, A to F, a to f), or 16
unfoldable pub digit_of : ℕ → ℕ
digit_of c =
    pick (is_among 48 57 c) (c - 48) (pick (is_among 65 70 c) (c - 65 + 10) (pick (is_among 97 102 c) (c - 97 + 10) 16))

-- more than any number that is asked for
abbrev pub no_number : ℕ
no_number = 100000

-- the number that digits spell behind those of n; no_number where one is no decimal digit
unfoldable pub read_on : ℕ → List ℕ → ℕ
read_on n [] = n
read_on n (c ∷ cs) = pick (ltb 9 (digit_of c)) no_number (read_on (10 * n + digit_of c) cs)

-- a decimal number of one to five digits, or no_number
unfoldable pub decimal_number : List ℕ → ℕ
decimal_number s = pick (eqb (length s) 0 || ltb 5 (length s)) no_number (read_on 0 s)

-- ## Numbers that are spelled

-- the first count of digits, from least up, that holds n in a base
unfoldable pub places_from : ℕ → ℕ → ℕ → ℕ → ℕ
places_from base least zero n = least
places_from base least (suc more) n = pick (ltb n (base ^ least)) least (places_from base (suc least) more n)

-- the fewest digits that hold n, and no fewer than least; a 64-bit number has no more than 20
unfoldable pub numeral : ℕ → ℕ → ℕ → List ℕ
numeral base least n = last_digits base (places_from base least 20 n) n

abbrev pub decimal_of : ℕ → List ℕ
decimal_of n = numeral 10 1 n

-- in lower case, with zeros in front up to a width, which counts as 1 where it is less and as 16 where it is more
abbrev pub hex_of : ℕ → ℕ → List ℕ
hex_of width n = numeral 16 (min (max width 1) 16) n
