use Rattle.litmus_reader.proofs.Vocabulary.{ℕ, ap, ◌∙◌, min, unwrap_or, Option, label_in}
use Rattle.litmus_reader.proofs.{NameLaws.byte_of, Targets.mapped_or}
use Rattle.litmus_reader.proofs.jumps.Targets.position.Goals as goal

pub returns : goal.returns
returns c =
    c.unwrap_or.ensures ∙ byte_of c.unwrap_or-position.result _ c.try_from.ensures
    ∙ ap (min 255) (c.unwrap_or-position.ensures ∙ ap (λ (o : Option ℕ). unwrap_or o 0) c.find.ensures ∙ mapped_or (label_in c.args.self.now c.args.name.now))
