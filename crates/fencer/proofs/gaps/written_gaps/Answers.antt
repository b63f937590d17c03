use Rattle.fencer.proofs.Vocabulary.{option_map}
use Rattle.placed_text.proofs.Judged.{one_each}
use Rattle.gap_list.proofs.AsGiven.{given_as_read}
use Rattle.fencer.proofs.gaps.written_gaps.Goals as goal

pub template_file-requires-clause-one_each : goal.template_file-requires-clause-one_each
template_file-requires-clause-one_each c = one_each c.args.source.now.program _ c.args.costs.now c.requires

pub template_file-requires-clause-read : goal.template_file-requires-clause-read
template_file-requires-clause-read c = given_as_read c.args.source.now.program (option_map (λ text. text.items) c.args.texts.now.costs) c.args.costs.now c.requires
