-- What a walk over trees shows.
use Rattle.std.specs.Prelude.{◌≡◌, ℕ, List, [], ◌∷◌, ◌++◌, length}
use Rattle.cert_trees.specs.declared.walk.CoverNode.{CoverNode}
use Rattle.cert_trees.specs.declared.walk.CoverNode.TheVariants as n
use Rattle.cert_trees.specs.declared.node.GapNode.{GapNode}
use Rattle.cert_trees.specs.declared.node.GapNode.TheVariants as g
use Rattle.cert_trees.specs.Trees.{Cover, Value, Source, Order, Cycle, Known, cover_list, Gap, Split, Bound, gap_list, count_covers, count_gaps}

-- a tree's root
abbrev pub root_of : Cover → CoverNode
root_of (Value thread children) = n.Value thread (count_covers children)
root_of (Source read children) = n.Source read (count_covers children)
root_of (Order first second first_before second_before) = n.Order first second
root_of (Cycle kind events) = n.Cycle kind events
root_of (Known run) = n.Known run

-- the trees below it
abbrev pub children_of : Cover → List Cover
children_of (Value thread children) = cover_list children
children_of (Source read children) = cover_list children
children_of (Order first second first_before second_before) = first_before ∷ (second_before ∷ [])
children_of (Cycle kind events) = []
children_of (Known run) = []

-- a bound's runs are shown one after another, and then the bound
abbrev pub gap_root_of : Gap → GapNode
gap_root_of (Split run children) = g.Split (count_gaps children) run
gap_root_of (Bound []) = g.Bound
gap_root_of (Bound (run ∷ runs)) = g.By run

abbrev pub gap_children_of : Gap → List Gap
gap_children_of (Split run children) = gap_list children
gap_children_of (Bound []) = []
gap_children_of (Bound (run ∷ runs)) = Bound runs ∷ []

-- the root of the first tree is shown, and its children come next
abbrev pub IsNextBy : {T N : Type 0} → (T → N) → (T → List T) → List T → N → List T → Type 0
IsNextBy root children [] shown after = ⊥
IsNextBy root children (t ∷ ts) shown after = (shown ≡ root t) × (after ≡ children t ++ ts)

abbrev pub IsNext : List Cover → CoverNode → List Cover → Type 0
IsNext ts shown after = IsNextBy root_of children_of ts shown after

-- how many runs the first tree names, where it is a bound
abbrev pub bound_len : List Gap → ℕ
bound_len [] = 0
bound_len (Split run children ∷ ts) = 0
bound_len (Bound runs ∷ ts) = length runs

abbrev pub IsNextGap : List Gap → GapNode → List Gap → Type 0
IsNextGap ts shown after = IsNextBy gap_root_of gap_children_of ts shown after
