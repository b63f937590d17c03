use Rattle.tso_program.proofs.Vocabulary.{◌≡◌, ◌≤◌, ◌*◌, take, sum_by, accesses_of, MAX_FENCED_INSTRUCTIONS}
use Rattle.tso_program.proofs.limits.all_accesses.Given as goal

-- the total so far, at most 127 for each thread
abbrev pub invariant-loop-thread : goal.invariant-loop-thread
invariant-loop-thread l = record { sum_so_far : l.total ≡ sum_by accesses_of (take l.thread-index l.threads); small : l.total ≤ MAX_FENCED_INSTRUCTIONS * l.thread-index }
