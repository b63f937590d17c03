use Rattle.rowless_sketches.proofs.Vocabulary.{AreListedTo}
use Rattle.rowless_sketches.proofs.parts.Parts.push_sources.Given as goal

-- the sources of the threads so far are listed
abbrev pub invariant-loop-t : goal.invariant-loop-t
invariant-loop-t l = AreListedTo l.self l.read 0 0 l.fn.sources.items → AreListedTo l.self l.read l.t 0 l.sources.items
