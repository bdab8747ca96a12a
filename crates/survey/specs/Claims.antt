-- What is promised of the block that a refusal names.
use Rattle.std.specs.Prelude.{ℕ, ◌≡◌, List}
use Rattle.rom.specs.Refusal.{first_met}
use Rattle.format.specs.Block.{refusal_in}
use Rattle.image.specs.declared.Arguments.{Arguments}
use Rattle.image.specs.Image.{is_first_version}
use Rattle.image.specs.Arguments.{row_for, header_causes}
use Rattle.leaf.specs.Leaf.{block_causes}
use Rattle.reader.specs.Reading.{blocks_for, judge_answer}
use Rattle.survey.specs.Survey.{refused_for, standing_for}

-- where nothing before the blocks is refused and a block is, the reading's number is why the named block is refused
abbrev pub NamesTheBlock : Type 0
NamesTheBlock = (image : List ℕ) (a : Arguments) → first_met (header_causes image a) ≡ 0
    → (first_met (block_causes (is_first_version image) (row_for a) a.level (blocks_for image a)) ≡ 0 → ⊥)
    → (judge_answer image a).number ≡ refusal_in (is_first_version image) (row_for a) a.level
    (standing_for image a (refused_for image a)).rest
