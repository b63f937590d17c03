use Rattle.tso_program.proofs.Vocabulary.{◌≡◌, ℕ, nat_lt}
use Rattle.std.specs.FinSet as set
use Rattle.tso_program.proofs.program.Program.all_gaps.Given as goal

-- the gaps so far, and no others
abbrev pub invariant-loop-gap : goal.invariant-loop-gap
invariant-loop-gap l = (gap : ℕ) → set.contains l.gaps gap ≡ nat_lt gap l.gap
