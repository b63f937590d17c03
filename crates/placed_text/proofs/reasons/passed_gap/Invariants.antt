use Rattle.placed_text.proofs.Vocabulary.{◌≡◌, ℕ, true}
use Rattle.std.specs.Prelude.{Contains}
use Rattle.std.specs.FinSet as set
use Rattle.placed_text.proofs.reasons.passed_gap.Given as goal

-- the gaps to come are of the tie, and each of it that the run passes is to come
abbrev pub invariant-loop-gap : goal.invariant-loop-gap
invariant-loop-gap l = record {
  here : (gap : ℕ) → Contains l.gap-iterator gap → set.contains l.tie gap ≡ true;
  to_come : (gap : ℕ) → set.contains l.tie gap ≡ true → set.contains l.passed gap ≡ true → Contains l.gap-iterator gap;
}
