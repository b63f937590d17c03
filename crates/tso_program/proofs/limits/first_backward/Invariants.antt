use Rattle.tso_program.proofs.Vocabulary.{◌≡◌, drop, first_found, first_backward_in}
use Rattle.tso_program.proofs.limits.first_backward.Given as goal

-- nothing is found in the threads so far
abbrev pub invariant-loop-t : goal.invariant-loop-t
invariant-loop-t l = first_found first_backward_in 0 l.threads ≡ first_found first_backward_in l.t (drop l.t l.threads)
