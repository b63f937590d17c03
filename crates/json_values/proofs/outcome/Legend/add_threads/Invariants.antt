use Rattle.json_values.proofs.Vocabulary.{◌≡◌, ◌++◌, register_values}
use Rattle.json_values.proofs.outcome.Legend.add_threads.Given as goal

-- the items of the threads so far
abbrev pub invariant-loop-thread : goal.invariant-loop-thread
invariant-loop-thread l = l.array ≡ l.initial.array ++ register_values l.self.names.now l.self.shown.now l.registers l.thread
