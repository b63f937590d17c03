use Rattle.exec_axioms.proofs.Vocabulary.{◌↔◌, IsTrue, subst, ProgramSketch, mode_in, IsSourceOf}
use Rattle.exec_axioms.proofs.sketch.Sketch.is_source.Goals as goal

pub returns : goal.returns
returns c = subst (λ (s : ProgramSketch). IsTrue c.is_source.result ↔ IsSourceOf s.program (mode_in s) s.chosen c.args.source c.args.read) c.parts.ensures c.is_source.ensures
