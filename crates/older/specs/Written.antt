-- The table as a reading leaves it at the front of the two lent arrays: entries of a kind and a start.
use Rattle.std.specs.Prelude.{ℕ, ◌≤◌, List, [], ◌∷◌, Bool, not, length, take}
use Rattle.rom.specs.Bytes.{pick}
use Rattle.format.specs.Block.{is_known}
use Rattle.image.specs.declared.Arguments.{Arguments}
use Rattle.image.specs.Arguments.{count_for}
use Rattle.leaf.specs.Leaf.{PlacedBlock, kind_at, start_at}
use Rattle.reader.specs.declared.Answer.{Answer}
use Rattle.reader.specs.Reading.{read_answer, read_kinds, read_offsets}

pub record Arrays : Type 0 where
  pub kinds : List ℕ
  pub offsets : List ℕ

-- arrays no shorter than the block count
abbrev pub Room : List ℕ → Arguments → Arrays → Type 0
Room image a arrays = (count_for image a ≤ length arrays.kinds) × (count_for image a ≤ length arrays.offsets)

unfoldable pub answer_of : List ℕ → Arguments → Arrays → Answer
answer_of image a arrays = read_answer image a (length arrays.kinds) (length arrays.offsets)

-- a start is an entry's byte offset
pub record TableEntry : Type 0 where
  pub kind : ℕ
  pub start : ℕ

unfoldable pub entries : List ℕ → List ℕ → List TableEntry
entries [] starts = []
entries (k ∷ kinds) [] = []
entries (k ∷ kinds) (s ∷ starts) = record { kind = k; start = s } ∷ entries kinds starts

-- an entry of the table that the definitions give
abbrev pub as_entry : ℕ → PlacedBlock → TableEntry
as_entry row p = record { kind = kind_at row p; start = start_at p }

-- as many as are listed, from the front of what `read` writes
unfoldable pub table_in : List ℕ → Arguments → Arrays → List TableEntry
table_in image a arrays =
    let listed = (answer_of image a arrays).listed in
    entries (take listed (read_kinds image a arrays.kinds arrays.offsets))
    (take listed (read_offsets image a arrays.kinds arrays.offsets))

-- a removed entry: one of the newest table whose kind is a type not below the older level; 256 and 257 are no types
abbrev pub removed : ℕ → TableEntry → Bool
removed older e = not (is_known older e.kind)

abbrev pub kept : ℕ → TableEntry → Bool
kept older e = is_known older e.kind

-- of the numbers that stand beside entries, those whose entry p takes
unfoldable pub numbers_of : (TableEntry → Bool) → List TableEntry → List ℕ → List ℕ
numbers_of p [] ks = []
numbers_of p (e ∷ es) [] = []
numbers_of p (e ∷ es) (k ∷ ks) = pick (p e) (k ∷ numbers_of p es ks) (numbers_of p es ks)
