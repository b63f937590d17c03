use Rattle.thread_traces.proofs.Vocabulary.{◌+◌, take, sum_by, loaded, action, trace_count, values_at, IsCountUpTo}
use Rattle.thread_traces.proofs.trace_count.+count_from.Given as goal

abbrev pub decreases-count_from : goal.decreases-count_from
decreases-count_from l = l.steps + l.steps

abbrev pub decreases-count_after : goal.decreases-count_after
decreases-count_after l = l.steps + l.steps + 1

-- the traces after the values so far
abbrev pub invariant-count_after-loop-value : goal.invariant-count_after-loop-value
invariant-count_after-loop-value l =
    IsCountUpTo l.most (sum_by (λ v. trace_count (action l.thread.program.now.threads l.thread.number) (values_at l.thread.values.now) l.steps (loaded l.to v l.next)) (take l.value-index (values_at l.thread.values.now l.location))) l.count
