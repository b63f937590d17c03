use Rattle.tso_program.proofs.Vocabulary.{◌≡◌, ℕ, ◌<◌, ◌≤◌, [], get_or, length, shown_registers}
use Rattle.tso_program.proofs.outcome.show_registers.Given as goal

-- the registers of the threads so far are as shown, and the others as they were
abbrev pub invariant-loop-t : goal.invariant-loop-t
invariant-loop-t l = record {
  long : length l.registers ≡ length l.fn.registers;
  shown : (k : ℕ) → k < l.t → get_or l.registers k [] ≡ shown_registers l.shown k (get_or l.fn.registers k []);
  left : (k : ℕ) → l.t ≤ k → get_or l.registers k [] ≡ get_or l.fn.registers k [];
}
