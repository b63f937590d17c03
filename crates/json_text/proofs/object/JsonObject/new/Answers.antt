use Rattle.json_text.proofs.Vocabulary.{ap, bytes_of_each, NoField}
use Rattle.json_text.proofs.object.JsonObject.new.Goals as goal

pub invariant_of-result : goal.invariant_of-result
invariant_of-result c = record { fields = NoField; are = ap bytes_of_each c.new.ensures.items }
