-- A valid tree shows that there are no other outcomes.
use Rattle.std.proofs.Common.{List, Contains}
use Rattle.tso_program.specs.declared.listing.Listing.{Listing}
use Rattle.tso_program.specs.declared.outcome.Outcome.{Outcome}
use Rattle.tso_program.specs.declared.question.Question.{Question}
use Rattle.tso_program.specs.Limits.{JumpForward}
use Rattle.tso_machine.specs.Machine.{Machine}
use Rattle.tso_machine.specs.Outcomes.{AllowsShown}
use Rattle.candidate_executions.specs.Sketches.{empty_sketch}
use Rattle.candidate_executions.proofs.Sketches.Choices.{empty_is_a_sketch}
use Rattle.cert_trees.specs.Trees.{Cover}
use Rattle.cert_trees.specs.declared.rule.Rule.{Rule}
use Rattle.tree_laws.specs.CoverTrees.{IsValidCoverBy}
use Rattle.tree_laws.specs.Laws.{AValidCoverCovers, ACoveredListHasEachOutcome}

pub no_others : (rule : Rule) (q : Question) (machine : Machine) (outcomes : List Outcome) (tree : Cover) → AValidCoverCovers rule → ACoveredListHasEachOutcome → JumpForward q.program.threads →
    IsValidCoverBy rule q machine outcomes tree (empty_sketch q.program) → (o : Outcome) → AllowsShown q machine o → Contains outcomes o
no_others rule q machine outcomes tree covers each forward valid o =
    each q machine outcomes o forward (covers q machine outcomes tree (empty_sketch q.program) forward (empty_is_a_sketch q.program machine) valid)
