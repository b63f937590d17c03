use Rattle.rowless_sketches.proofs.Vocabulary.{◌↔◌, IsTrue, subst, ProgramSketch, mode_in}
use Rattle.candidate_executions.specs.Settled.{IsSettled}
use Rattle.rowless_sketches.proofs.rowless_sketch.RowlessSketch.is_settled.Goals as goal

pub returns : goal.returns
returns c = subst (λ (s : ProgramSketch). IsTrue c.is_settled.result ↔ IsSettled s.program (mode_in s) s.chosen c.args.read) c.parts.ensures c.is_settled.ensures
