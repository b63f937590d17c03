use Rattle.json_values.proofs.Vocabulary.{◌≡◌, ◌++◌, take, flat_map, all_registers, register_value}
use Rattle.json_values.proofs.outcome.Legend.add_thread.Given as goal

-- the items of the registers so far
abbrev pub invariant-loop-register : goal.invariant-loop-register
invariant-loop-register l = l.array ≡ l.initial.array ++ flat_map (register_value l.self.names.now l.self.shown.now l.thread l.values) (take l.register-index all_registers)
