use Rattle.litmus_lines.proofs.Vocabulary.{ℕ, List, length, AreSkipped, BeginsSkipped}
use Rattle.litmus_lines.proofs.skipped_lines.skip_lines.Given as goal

-- where the lines end after the rest, they end after the whole, and the other way round
abbrev pub invariant-loop-rest : goal.invariant-loop-rest
invariant-loop-rest l = record {
  forth : (end : List ℕ) → AreSkipped l.rest end → AreSkipped l.lines end;
  begun : BeginsSkipped l.lines l.rest;
  back : (end : List ℕ) → AreSkipped l.lines end → AreSkipped l.rest end;
}

abbrev pub decreases-loop-rest : goal.decreases-loop-rest
decreases-loop-rest l = length l.rest
