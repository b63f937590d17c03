use Rattle.litmus_reader.proofs.Vocabulary.{ℕ, sym, ap, ◌∙◌, min, unwrap_or, Option}
use Rattle.litmus_reader.proofs.NameLaws.{position_texts, byte_of}
use Rattle.litmus_reader.proofs.names.NameTable.number.Goals as goal

pub returns : goal.returns
returns c =
    let place = position_texts c.self.inside.locations.keys c.args.name.now in
    rw (← c.self.view_is) (c.unwrap_or.ensures ∙ byte_of c.unwrap_or-number.result _ c.try_from.ensures ∙ ap (min 255) (c.unwrap_or-number.ensures ∙ ap (λ (o : Option ℕ). unwrap_or o 0) (c.get_index_of.ensures.index ∙ sym place)))
