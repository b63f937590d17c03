use Rattle.fencer_words.proofs.Vocabulary.{◌∙◌, found_of, raw_values-rows}
use Rattle.fencer_words.proofs.arguments.values_of.Goals as goal

pub returns : goal.returns
returns c = c.get_strs.ensures ∙ raw_values-rows (found_of c.args.matches.now) c.args.id.now
