use Rattle.json_text.proofs.Vocabulary.{ap, bytes_of_each, NoElement}
use Rattle.json_text.proofs.array.JsonArray.new.Goals as goal

pub invariant_of-result : goal.invariant_of-result
invariant_of-result c = record { items = NoElement; are = ap bytes_of_each c.new.ensures.items }
