use Rattle.rowless_sketches.proofs.Vocabulary.{AreListedTo}
use Rattle.rowless_sketches.proofs.parts.Parts.push_sources_in.Given as goal

-- the thread's accesses so far are listed
abbrev pub invariant-loop-i : goal.invariant-loop-i
invariant-loop-i l = AreListedTo l.self l.read l.t 0 l.fn.sources.items → AreListedTo l.self l.read l.t l.i l.sources.items
