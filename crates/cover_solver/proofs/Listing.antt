-- Lists of outcomes that are all that a machine allows.
use Rattle.cover_solver.proofs.Vocabulary.{◌↔◌, List, Contains, Outcome, Question, Label, Machine, AreRunsOf, AllowsShown, JumpForward}
use Rattle.cert_trees.specs.Trees.{Cover}
use Rattle.candidate_executions.specs.Sketches.{empty_sketch}
use Rattle.candidate_executions.proofs.Sketches.Choices.{empty_is_a_sketch}
use Rattle.tree_laws.specs.CoverTrees.{IsValidCover}
use Rattle.tree_laws.proofs.{CoveredSketches.valid_covers, ListedOutcomes.listed}
use Rattle.cover_solver.proofs.ProposedRuns.{exactly_allowed}

-- a list with a run of each outcome, over which a tree is valid, has exactly what the mode's machine allows
pub allowed_by_tree : (q : Question) (mode : Machine) (runs : List (List Label)) (outcomes : List Outcome) (tree : Cover) → JumpForward q.program.threads → AreRunsOf q mode runs outcomes →
    IsValidCover q mode outcomes tree (empty_sketch q.program) → (o : Outcome) → Contains outcomes o ↔ AllowsShown q mode o
allowed_by_tree q mode runs outcomes tree forward are valid =
    let covered = valid_covers q mode outcomes tree (empty_sketch q.program) forward (empty_is_a_sketch q.program mode) valid in
    exactly_allowed q mode runs outcomes are (λ o. listed q mode outcomes o forward covered)
