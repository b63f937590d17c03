use Rattle.sequential_states.proofs.Vocabulary.{HasFirst}
use Rattle.sequential_states.proofs.listed.has_first.Given as goal

-- so far each is
abbrev pub invariant-loop-k : goal.invariant-loop-k
invariant-loop-k l = HasFirst l.listed l.t l.k
