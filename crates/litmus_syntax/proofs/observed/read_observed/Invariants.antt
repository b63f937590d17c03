use Rattle.litmus_syntax.proofs.Vocabulary.{map, length, toks, place_view}
use Rattle.litmus_syntax.proofs.ObservedLaws.{ObservedSoFar}
use Rattle.litmus_syntax.proofs.observed.read_observed.Given as goal

abbrev pub invariant-loop-rest : goal.invariant-loop-rest
invariant-loop-rest l = ObservedSoFar l.threads (toks l.tokens) (map place_view l.places.items) (toks l.rest)

abbrev pub decreases-loop-rest : goal.decreases-loop-rest
decreases-loop-rest l = length l.rest
