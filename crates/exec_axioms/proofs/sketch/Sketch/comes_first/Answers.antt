use Rattle.exec_axioms.proofs.Vocabulary.{◌↔◌, IsTrue, subst, ProgramSketch, mode_in, KnownEdge}
use Rattle.exec_axioms.proofs.sketch.Sketch.comes_first.Goals as goal

pub returns : goal.returns
returns c = subst (λ (s : ProgramSketch). IsTrue c.comes_first.result ↔ KnownEdge s.program (mode_in s) s.chosen c.args.kind c.args.from c.args.to) c.parts.ensures c.comes_first.ensures
