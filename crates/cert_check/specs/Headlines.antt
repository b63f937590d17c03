-- The headline, where some gaps go together, in the words of the gaps that are fenced.
use Rattle.std.specs.Prelude.{◌↔◌, ℕ, List}
use Rattle.gap_sets.specs.Gaps.{SetOfGaps}
use Rattle.gap_sets.specs.Order.{Better}
use Rattle.gap_sets.specs.Ties.{IsAllowed, names_in}
use Rattle.tso_program.specs.declared.outcome.Outcome.{Outcome}
use Rattle.tso_program.specs.declared.question.Question.{Question}
use Rattle.tso_machine.specs.Outcomes.{AreGapsOf, IsSequentialOutcome, IsFencedOutcome, FencedLeavesOutcome}
use Rattle.tso_machine.specs.TieLaws.{untied}

-- The set has of each tie all gaps or none. The program fenced there has, under the store buffer machine, exactly the source's sequential outcomes, and fenced
-- at any better set that has of each tie all or none it leaves an outcome that no sequential run has. A tie costs once.
pub record HeadlineOfAllowed (q : Question) (costs : List ℕ) (gaps : SetOfGaps) : Type 0 where
  pub of_program : AreGapsOf q.program gaps
  pub allowed : IsAllowed q.ties gaps
  pub exactly_sequential : (o : Outcome) → IsFencedOutcome (untied q) gaps o ↔ IsSequentialOutcome q o
  pub each_better_leaves_an_outcome : (other : SetOfGaps) → AreGapsOf q.program other → IsAllowed q.ties other →
      Better costs (names_in q.ties other) (names_in q.ties gaps) → FencedLeavesOutcome (untied q) other
