use Rattle.fencer_words.proofs.Vocabulary.{◌∙◌, found_of, first_value-rows}
use Rattle.fencer_words.proofs.arguments.value_of.Goals as goal

pub returns : goal.returns
returns c = c.get_str.ensures ∙ first_value-rows (found_of c.args.matches.now) c.args.id.now
