use Rattle.tso_program.proofs.Vocabulary.{◌≡◌, ℕ, ◌<◌, ◌≤◌, get_or, length, shown_value}
use Rattle.tso_program.proofs.outcome.show_memory.Given as goal

-- the values so far are as shown, and the others as they were
abbrev pub invariant-loop-l : goal.invariant-loop-l
invariant-loop-l l = record {
  long : length l.memory ≡ length l.fn.memory;
  shown : (k : ℕ) → k < l.l → get_or l.memory k 0 ≡ shown_value l.shown k (get_or l.fn.memory k 0);
  left : (k : ℕ) → l.l ≤ k → get_or l.memory k 0 ≡ get_or l.fn.memory k 0;
}
