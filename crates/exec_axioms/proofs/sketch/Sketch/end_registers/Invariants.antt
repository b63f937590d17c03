use Rattle.exec_axioms.proofs.Vocabulary.{◌≡◌, ℕ, ◌<◌, [], get_or, length, shown_registers, trace_in}
use Rattle.exec_axioms.proofs.sketch.Sketch.end_registers.Given as goal

-- what is shown of the registers of the threads so far
abbrev pub invariant-loop-t : goal.invariant-loop-t
invariant-loop-t l = record {
  many : length l.registers.items ≡ l.t;
  each : (k : ℕ) → k < l.t → get_or l.registers.items k [] ≡ shown_registers l.shown k (trace_in l.self k).last.registers;
}
