-- Valid trees within the limits of a certificate.
use Rattle.std.specs.Prelude.{◌≡◌, ◌+◌, ◌≤◌, ℕ, List, [], ◌∷◌, Some, Contains, map, slice_get}
use Rattle.tso_program.specs.declared.outcome.Outcome.{Outcome}
use Rattle.tso_program.specs.declared.shown.Shown.{Shown}
use Rattle.tso_program.specs.Shown.{asked}
use Rattle.candidate_executions.specs.Sketches.{MustEndAs}
use Rattle.program_sketches.specs.ProgramSketches.{ProgramSketch, mode_in}
use Rattle.program_sketches.specs.Known.{HasNoCycle}
use Rattle.program_sketches.specs.Sizes.{choice_count, most_choices}
use Rattle.cert_trees.specs.Trees.{Cover, Value, Source, Order, Known, covers_of}
use Rattle.cert_forest.specs.Limits.{cover_depth, covers_depth}
use Rattle.cert_trees.specs.declared.node.Node.{Node}
use Rattle.cert_trees.specs.declared.node.Node.TheVariants as node
use Rattle.tree_laws.specs.Covers.{IsNeat, AreNeat}
use Rattle.tree_laws.specs.CoverTrees.{IsValidCover, AreValidCovers, sketch_with}
use Rattle.tree_laws.specs.declared.choice.Choice.{Choice}
use Rattle.cover_judge.specs.Judged.{IsValidAt}
use Rattle.tree_laws.specs.declared.choice.OpenChoice.{OpenChoice}
use Rattle.tree_laws.specs.declared.choice.OpenChoice.TheVariants as left

-- the outcome has this number in the list
abbrev pub HasNumber : List Outcome → ℕ → Outcome → Type 0
HasNumber outcomes n o = slice_get outcomes n ≡ Some o

-- no outcome as which the sketch must end is in the list
abbrev pub IsEndNotListed : ProgramSketch → Shown → List Outcome → Type 0
IsEndNotListed s shown outcomes = HasNoCycle s → (o : Outcome) → MustEndAs (asked s.program shown) (mode_in s) s.chosen o → Contains outcomes o → ⊥

-- neither an outcome of the list nor a cycle closes the sketch
pub record IsUnsettled (s : ProgramSketch) (shown : Shown) (outcomes : List Outcome) : Type 0 where
  pub not_listed : IsEndNotListed s shown outcomes
  pub acyclic : HasNoCycle s

-- a valid leaf at the sketch
pub record IsLeafAt (s : ProgramSketch) (shown : Shown) (outcomes : List Outcome) (tree : Cover) : Type 0 where
  pub valid : IsValidAt s shown outcomes tree
  pub neat : IsNeat tree
  pub leaf : cover_depth tree ≡ 1

-- a valid tree at the sketch, which has one level for each choice that is left at most, and one for its leaves
pub record IsCoverAt (s : ProgramSketch) (shown : Shown) (outcomes : List Outcome) (tree : Cover) : Type 0 where
  pub valid : IsValidAt s shown outcomes tree
  pub neat : IsNeat tree
  pub shallow : cover_depth tree + choice_count s ≤ most_choices + 1

-- a valid tree at the sketch after a choice, with as few levels
pub record IsCoverAfter (s : ProgramSketch) (shown : Shown) (outcomes : List Outcome) (choice : Choice) (tree : Cover) : Type 0 where
  pub valid : IsValidCover (asked s.program shown) (mode_in s) outcomes tree (sketch_with s.chosen choice)
  pub neat : IsNeat tree
  pub shallow : cover_depth tree + choice_count s ≤ most_choices

-- a valid tree for each choice, at the sketch after it, with as few levels
pub record AreCoversAfter (s : ProgramSketch) (shown : Shown) (outcomes : List Outcome) (choices : List Choice) (trees : List Cover) : Type 0 where
  pub valid : AreValidCovers (asked s.program shown) (mode_in s) outcomes (covers_of trees) (map (sketch_with s.chosen) choices)
  pub neat : AreNeat (covers_of trees)
  pub shallow : covers_depth (covers_of trees) + choice_count s ≤ most_choices

-- the node over these trees
abbrev pub tree_over : OpenChoice → List Cover → Cover
tree_over (left.Value t) trees = Value t (covers_of trees)
tree_over (left.Source read) trees = Source read (covers_of trees)
tree_over (left.Order first second) [] = Known 0
tree_over (left.Order first second) (one ∷ []) = Known 0
tree_over (left.Order first second) (one ∷ (other ∷ trees)) = Order first second one other

-- the node over so many trees
abbrev pub node_over : OpenChoice → ℕ → Node
node_over (left.Value t) count = node.Value t count
node_over (left.Source read) count = node.Source read count
node_over (left.Order first second) count = node.Order first second
