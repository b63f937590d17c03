use Rattle.tso_program.proofs.Vocabulary.{◌≡◌, ◌≤◌, ◌*◌, take, sum_by, gaps_of_thread, MAX_INSTRUCTIONS}
use Rattle.tso_program.proofs.limits.all_gaps.Given as goal

-- the total so far, at most 64 for each thread
abbrev pub invariant-loop-thread : goal.invariant-loop-thread
invariant-loop-thread l = record { sum_so_far : l.total ≡ sum_by gaps_of_thread (take l.thread-index l.threads); small : l.total ≤ MAX_INSTRUCTIONS * l.thread-index }
