-- Valid trees within the limits of a certificate.
use Rattle.std.specs.Prelude.{◌≢◌, ◌+◌, ◌*◌, ◌/◌, ◌≤◌, ℕ, List}
use Rattle.std.specs.List.{AllPairs}
use Rattle.tso_program.specs.declared.limits.TheConstants.{MAX_ACCESSES}
use Rattle.tso_program.specs.declared.outcome.Outcome.{Outcome}
use Rattle.tso_program.specs.declared.question.Question.{Question}
use Rattle.tso_machine.specs.Machine.{Machine}
use Rattle.candidate_executions.specs.Sketches.{empty_sketch}
use Rattle.cert_forest.specs.Trees.{Cover, Value, Source, Order, Cycle, Known, Covers, NoCover, MoreCovers}
use Rattle.cert_forest.specs.Limits.{cover_depth, HasNumbers, HaveNumbers}
use Rattle.tree_laws.specs.CoverTrees.{IsValidCover}

-- no cycle of the tree has an event twice
abbrev mutual
  pub HasSimpleCycles : Cover → Type 0
  HasSimpleCycles (Value t trees) = HaveSimpleCycles trees
  HasSimpleCycles (Source read trees) = HaveSimpleCycles trees
  HasSimpleCycles (Order first second one other) = HasSimpleCycles one × HasSimpleCycles other
  HasSimpleCycles (Cycle kind events) = AllPairs (λ a b. a ≢ b) events
  HasSimpleCycles (Known number) = Unit {0}

  pub HaveSimpleCycles : Covers → Type 0
  HaveSimpleCycles NoCover = Unit {0}
  HaveSimpleCycles (MoreCovers tree trees) = HasSimpleCycles tree × HaveSimpleCycles trees

-- the tree's numbers are those of a certificate's text, and no cycle has an event twice
pub record IsNeat (tree : Cover) : Type 0 where
  pub numbers : HasNumbers tree
  pub simple : HasSimpleCycles tree

-- the numbers of several trees are those of a certificate's text, and no cycle has an event twice
pub record AreNeat (trees : Covers) : Type 0 where
  pub numbers : HaveNumbers trees
  pub simple : HaveSimpleCycles trees

-- a tree needs no more levels: one for each choice, of which each access takes a value and a source at most and each two accesses one order, and one for its leaves
abbrev pub most_levels : ℕ
most_levels = 2 * MAX_ACCESSES + MAX_ACCESSES * MAX_ACCESSES / 2 + 1

-- a valid tree at the sketch with no choice
pub record IsWholeCover (q : Question) (mode : Machine) (outcomes : List Outcome) (tree : Cover) : Type 0 where
  pub valid : IsValidCover q mode outcomes tree (empty_sketch q.program)
  pub neat : IsNeat tree
  pub shallow : cover_depth tree ≤ most_levels
