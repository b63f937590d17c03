use Rattle.tso_program.proofs.Vocabulary.{◌≡◌, ℕ, ◌<◌, get_or, length, shows_register, value_if}
use Rattle.tso_program.proofs.shown.Shown.registers.Given as goal

-- the registers so far are as shown
abbrev pub invariant-loop-r : goal.invariant-loop-r
invariant-loop-r l = record {
  long : length l.left ≡ length l.held;
  shown : (k : ℕ) → k < l.r → get_or l.left k 0 ≡ value_if (shows_register l.self l.t k) (get_or l.held k 0);
}
