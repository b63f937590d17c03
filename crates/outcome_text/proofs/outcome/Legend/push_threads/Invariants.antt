use Rattle.outcome_text.proofs.Vocabulary.{◌≡◌, ◌++◌, texts, register_items}
use Rattle.outcome_text.proofs.outcome.Legend.push_threads.Given as goal

-- the items of the threads so far
abbrev pub invariant-loop-thread : goal.invariant-loop-thread
invariant-loop-thread l = texts l.items.items ≡ texts l.initial.items.items ++ register_items l.self.names.now l.self.shown.now l.registers l.thread
