use Rattle.litmus_reader.proofs.Vocabulary.{◌∙◌}
use Rattle.litmus_reader.proofs.Targets.{lookup_label}
use Rattle.litmus_reader.proofs.jumps.Targets.find.Goals as goal

pub returns : goal.returns
returns c = rw (← c.self.view_is) (c.copied.ensures ∙ c.get.ensures.value ∙ lookup_label c.self.inside.positions.entries c.args.name.now)
