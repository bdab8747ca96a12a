-- What a sheet of a form states of a number that is laid in as its block count or total.
use Rattle.std.specs.Prelude.{ℕ, ◌%◌}
use Rattle.sheet.specs.declared.Form.{Form}
use Rattle.sheet.specs.declared.Form.TheVariants.{Narrow, Wide}

-- its low byte, or a word
abbrev pub stated_as : Form → ℕ → ℕ
stated_as Narrow n = n % 256
stated_as Wide n = n
