use Rattle.sequential_states.proofs.Vocabulary.{ℕ, ◌<◌, length, code_of, HasFirst}
use Rattle.sequential_states.proofs.listed.has_each.Given as goal

-- each instruction of the threads so far is
abbrev pub invariant-loop-t : goal.invariant-loop-t
invariant-loop-t l = (u : ℕ) → u < l.t → HasFirst l.listed u (length (code_of l.program.threads u))
