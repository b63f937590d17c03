use Rattle.rowless_sketches.proofs.Vocabulary.{ap, length, arith}
use Rattle.rowless_sketches.proofs.parts.Parts.accesses.Goals as goal

pub overflow_cast-result : goal.overflow_cast-result
overflow_cast-result c = let few = c.accesses_of.ensures.few in omega arith

pub returns : goal.returns
returns c = ap length c.accesses_of.ensures.value
