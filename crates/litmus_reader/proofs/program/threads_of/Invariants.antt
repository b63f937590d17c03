use Rattle.litmus_reader.proofs.Vocabulary.{◌≡◌, map, range_with_len, row_view, byte_in, thread_in}
use Rattle.litmus_reader.proofs.program.threads_of.Given as goal

-- the threads so far
abbrev pub invariant-loop-thread : goal.invariant-loop-thread
invariant-loop-thread l = l.threads.items ≡ map (thread_in (byte_in l.names.locations) (map row_view l.body.rows.items) l.registers l.targets) (range_with_len 0 l.thread)
