use Rattle.exec_axioms.proofs.sketch.Sketch.last_write.Goals as goal

pub returns-then-has_later-clause-write : goal.returns-then-has_later-clause-write
returns-then-has_later-clause-write c l v h last = let later = c.requires.later.0 c.if-has_later.true in last.1.no_later later.0 later.1
