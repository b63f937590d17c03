use Rattle.conditions.proofs.SpelledIsRead.{spells_one}
use Rattle.conditions.proofs.spelling.spell_at_most_one.Goals as goal

pub returns : goal.returns
returns g c = spells_one
