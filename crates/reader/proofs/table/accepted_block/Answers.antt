-- A refused block has its refusal's number, which is none of acceptance. Assumes nothing.
use Rattle.std.proofs.Common.{ap, ◌∙◌}
use Rattle.rom.proofs.Refusals.{not-accepted}
use Rattle.block.specs.Answer.{number_of}
use Rattle.block.proofs.Seen.{answers-refusal}
use Rattle.reader.proofs.table.accepted_block.Goals as goal

pub unreachable-requires : goal.unreachable-requires
unreachable-requires c =
    not-accepted _ (ap number_of c.in-Err.ensures ∙ (answers-refusal c.args.row c.args.level c.args.rest.now).0 ∙ c.requires)
