use Rattle.litmus_reader.proofs.Vocabulary.{ℕ, [], List, ap, ◌∙◌, Option, unwrap_or}
use Rattle.std.proofs.lemmas.Option.{unwrap_or-slice_get}
use Rattle.litmus_reader.proofs.names.location_name.Goals as goal

pub returns-in-None : goal.returns-in-None
returns-in-None c = ap (λ (o : Option (List ℕ)). unwrap_or o []) c.in-None.ensures ∙ unwrap_or-slice_get c.args.names.now.locations c.args.number []
