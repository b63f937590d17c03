use Rattle.thread_traces.proofs.Gathered.{HasCome, HasNumberBelow}
use Rattle.thread_traces.proofs.location_values.push_numbers.Given as goal

-- the numbers of the instructions so far have come
abbrev pub invariant-loop-instr : goal.invariant-loop-instr
invariant-loop-instr l = HasCome (HasNumberBelow l.code l.location l.instr-index) l.fn.values.items l.values.items
