use Rattle.outcome_text.proofs.Vocabulary.{◌≡◌, ◌++◌, take, flat_map, texts, named_item, all_registers}
use Rattle.outcome_text.proofs.outcome.Legend.push_thread.Given as goal

-- the items of the registers so far
abbrev pub invariant-loop-register : goal.invariant-loop-register
invariant-loop-register l = texts l.items.items ≡ texts l.initial.items.items ++ flat_map (named_item l.self.names.now l.self.shown.now l.thread l.values) (take l.register-index all_registers)
