use Rattle.litmus_syntax.proofs.Vocabulary.{map, length, toks, sign_at_view}
use Rattle.litmus_syntax.proofs.SignLaws.{SignsSoFar}
use Rattle.litmus_syntax.proofs.formula.read_signs.Given as goal

abbrev pub invariant-loop-rest : goal.invariant-loop-rest
invariant-loop-rest l = SignsSoFar l.threads (toks l.tokens) (map sign_at_view l.signs.items) (toks l.rest)

abbrev pub decreases-loop-rest : goal.decreases-loop-rest
decreases-loop-rest l = length l.rest
