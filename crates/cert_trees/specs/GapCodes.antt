-- A code of gap trees that distinguishes any two of them: that of a cover tree of the same shape.
use Rattle.std.specs.Prelude.{◌≡◌, ℕ, List, [], ◌∷◌, map, refl}
use Rattle.std.specs.Coded.{Coded, code_by}
use Rattle.candidate_executions.specs.declared.event.Kind.TheVariants as union
use Rattle.cert_trees.specs.declared.tree.AccessId.{AccessId}
use Rattle.cert_trees.specs.Trees.{Cover, Value, Source, Order, Cycle, Known, Covers, NoCover, MoreCovers, Gap, Split, Bound, GapTrees, NoGap, MoreGaps}
use Rattle.cert_trees.specs.CoverCodes.{coded_cover}

-- a run's number as an access of the thread of this number
abbrev access_of : ℕ → AccessId
access_of run = record { thread = run; access = 0 }

abbrev run_of : AccessId → ℕ
run_of event = event.thread

runs_of-accesses_of : (runs : List ℕ) → map run_of (map access_of runs) ≡ runs
runs_of-accesses_of [] = refl
runs_of-accesses_of (run ∷ runs) = λ i. run ∷ runs_of-accesses_of runs i

-- a split as a value with its children, a bound as a cycle
abbrev mutual
  shape_of : Gap → Cover
  shape_of (Split run children) = Value run (shapes_of children)
  shape_of (Bound runs) = Cycle union.Sequential (map access_of runs)

  shapes_of : GapTrees → Covers
  shapes_of NoGap = NoCover
  shapes_of (MoreGaps tree trees) = MoreCovers (shape_of tree) (shapes_of trees)

abbrev mutual
  gap_of : Cover → Gap
  gap_of (Value run children) = Split run (gaps_of children)
  gap_of (Cycle kind events) = Bound (map run_of events)
  gap_of (Source read children) = Bound []
  gap_of (Order first second one other) = Bound []
  gap_of (Known number) = Bound []

  gaps_of : Covers → GapTrees
  gaps_of NoCover = NoGap
  gaps_of (MoreCovers tree trees) = MoreGaps (gap_of tree) (gaps_of trees)

mutual
  pub gap_of-shape_of : (tree : Gap) → gap_of (shape_of tree) ≡ tree
  gap_of-shape_of (Split run children) = λ i. Split run (gaps_of-shapes_of children i)
  gap_of-shape_of (Bound runs) = λ i. Bound (runs_of-accesses_of runs i)

  pub gaps_of-shapes_of : (trees : GapTrees) → gaps_of (shapes_of trees) ≡ trees
  gaps_of-shapes_of NoGap = refl
  gaps_of-shapes_of (MoreGaps tree trees) = λ i. MoreGaps (gap_of-shape_of tree i) (gaps_of-shapes_of trees i)

abbrev pub coded_gap : Coded Gap
coded_gap = code_by Cover coded_cover shape_of gap_of gap_of-shape_of
