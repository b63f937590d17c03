-- No two sets are both the answer.
use Rattle.std.proofs.Common.{ℕ, ◌≤◌, List, inl, inr, arith}
use Rattle.tso_program.specs.declared.listing.Listing.{Listing}
use Rattle.tso_program.specs.declared.question.Question.{Question}
use Rattle.tso_program.specs.Listings.{gap_count}
use Rattle.gap_sets.specs.Gaps.{SetOfGaps, IsGapSet}
use Rattle.gap_sets.specs.Order.{Better}
use Rattle.tso_machine.specs.Outcomes.{AreGapsOf, LeavesOutcome, IsTheAnswer}
use Rattle.tso_machine.specs.FenceLaws.{TheAnswerIsTheOnlyOne}
use Rattle.gap_sets.proofs.Orders.{decided}
use Rattle.gap_sets.specs.declared.gap_set.TheConstants.{MAX_GAPS}

-- the gaps of a program within the limits have numbers below `MAX_GAPS`
small : (p : Listing) (s : SetOfGaps) → gap_count p.threads ≤ MAX_GAPS → AreGapsOf p s → IsGapSet s
small p s few of_program gap there = let h = of_program gap there in omega arith

-- an answer is not better than another: that one would leave an outcome
none_better : (q : Question) (costs : List ℕ) (a b : SetOfGaps) → IsTheAnswer q costs a → IsTheAnswer q costs b → Better costs a b → ⊥
none_better q costs a b one other better =
    let left : LeavesOutcome q a = other.least a one.of_program better in
    left.foreign ((one.serves left.outcome).0 left.left)

-- of two that differ one would be better
pub one_answer : TheAnswerIsTheOnlyOne
one_answer q costs a b within one other =
    elim (decided costs a b (small q.program a within.few_gaps one.of_program) (small q.program b within.few_gaps other.of_program)) [
      | inl same ↦ same
      | inr (inl better) ↦ absurd (none_better q costs a b one other better)
      | inr (inr better) ↦ absurd (none_better q costs b a other one better)
    ]
