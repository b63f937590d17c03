use Rattle.tso_program.proofs.Vocabulary.{◌≡◌, drop, first_found, first_past_end_in}
use Rattle.tso_program.proofs.limits.first_past_end.Given as goal

-- nothing is found in the threads so far
abbrev pub invariant-loop-t : goal.invariant-loop-t
invariant-loop-t l = first_found first_past_end_in 0 l.threads ≡ first_found first_past_end_in l.t (drop l.t l.threads)
