-- The nodes of gap trees: each tree is spelled by one list of nodes, which begins no other tree's.
use Rattle.std.specs.Prelude.{◌≡◌, ℕ, suc, Bool, true, false, if◌then◌else◌, List, [], ◌∷◌, ◌++◌, take, drop}
use Rattle.cert_trees.specs.declared.node.GapNode.{GapNode}
use Rattle.cert_trees.specs.declared.node.GapNode.TheVariants as node
use Rattle.cert_trees.specs.Trees.{Gap, Split, Bound, GapTrees, NoGap, MoreGaps, gap_trees_of, count_gaps}
use Rattle.cert_trees.specs.Spelling.{spell_each}

-- the runs of a bound, and its end
abbrev pub bound_nodes : List ℕ → List GapNode
bound_nodes [] = node.Bound ∷ []
bound_nodes (run ∷ runs) = node.By run ∷ bound_nodes runs

-- each node before its children
abbrev mutual
  pub spell_gap : Gap → List GapNode
  spell_gap (Split run children) = node.Split (count_gaps children) run ∷ spell_gap_row children
  spell_gap (Bound runs) = bound_nodes runs

  pub spell_gap_row : GapTrees → List GapNode
  spell_gap_row NoGap = []
  spell_gap_row (MoreGaps t ts) = spell_gap t ++ spell_gap_row ts

-- whether it is a run of a bound
abbrev pub is_run : GapNode → Bool
is_run (node.Split count run) = false
is_run (node.By run) = true
is_run node.Bound = false

-- with how many runs of a bound the nodes begin
abbrev pub runs_first : List GapNode → ℕ
runs_first [] = 0
runs_first (x ∷ xs) = if is_run x then suc (runs_first xs) else 0

-- several trees
abbrev pub spell_gaps : List Gap → List GapNode
spell_gaps ts = spell_each spell_gap ts

-- ---- from nodes to the trees that they spell, the last node first

-- the first tree, a bound, with one run more before its others
abbrev pub bounded_by : ℕ → List Gap → List Gap
bounded_by run [] = []
bounded_by run (Split number children ∷ ts) = ts
bounded_by run (Bound runs ∷ ts) = Bound (run ∷ runs) ∷ ts

abbrev pub gap_before : GapNode → List Gap → List Gap
gap_before (node.Split count run) ts = Split run (gap_trees_of (take count ts)) ∷ drop count ts
gap_before (node.By run) ts = bounded_by run ts
gap_before node.Bound ts = Bound [] ∷ ts

-- the trees that these nodes spell
abbrev pub gap_trees_in : List GapNode → List Gap
gap_trees_in [] = []
gap_trees_in (x ∷ xs) = gap_before x (gap_trees_in xs)

-- the first tree, or any
abbrev pub first_gap : List Gap → Gap
first_gap [] = Bound []
first_gap (t ∷ ts) = t

-- the tree that these nodes spell
abbrev pub gap_tree_of : List GapNode → Gap
gap_tree_of nodes = first_gap (gap_trees_in nodes)

-- they spell one tree, no more and no less
abbrev pub IsGapTree : List GapNode → Type 0
IsGapTree nodes = spell_gap (gap_tree_of nodes) ≡ nodes

abbrev pub AreGapTrees : List GapNode → Type 0
AreGapTrees nodes = spell_gaps (gap_trees_in nodes) ≡ nodes
