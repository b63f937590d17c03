use Rattle.program_sketches.proofs.Vocabulary.{◌≡◌, take}
use Rattle.program_sketches.proofs.thread_lists.copied.Given as goal

abbrev pub invariant-loop-thread_trace : goal.invariant-loop-thread_trace
invariant-loop-thread_trace l = l.copies.items ≡ take l.thread_trace-index l.thread_traces
