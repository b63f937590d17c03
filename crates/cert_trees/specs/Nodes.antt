-- The nodes of cover trees: each tree is spelled by one list of nodes, which begins no other tree's.
use Rattle.std.specs.Prelude.{◌≡◌, ℕ, ◌+◌, ◌*◌, ◌/◌, ◌%◌, nat_lt, if◌then◌else◌, List, [], ◌∷◌, ◌++◌, take, drop, Bool, true, false, Option, Some, None}
use Rattle.candidate_executions.specs.declared.event.Kind.{Kind}
use Rattle.cert_trees.specs.declared.tree.AccessId.{AccessId}
use Rattle.cert_trees.specs.declared.node.TheConstants.{NEAR_RUNS}
use Rattle.cert_trees.specs.declared.node.Node.{Node}
use Rattle.cert_trees.specs.declared.node.Node.TheVariants as node
use Rattle.cert_trees.specs.Trees.{Cover, Value, Source, Order, Cycle, Known, Covers, NoCover, MoreCovers, covers_of, count_covers}
use Rattle.cert_trees.specs.Spelling.{spell_each}

-- ---- from a tree to its nodes

abbrev pub known_nodes : ℕ → List Node
known_nodes run = if nat_lt run NEAR_RUNS then node.Known run ∷ [] else node.Far (run / NEAR_RUNS) ∷ (node.Known (run % NEAR_RUNS) ∷ [])

-- its accesses, three to a node, and its union with the last one to three of them
abbrev pub cycle_nodes : Kind → List AccessId → List Node
cycle_nodes kind [] = node.EmptyCycle kind ∷ []
cycle_nodes kind (a ∷ []) = node.LastOne kind a ∷ []
cycle_nodes kind (a ∷ (b ∷ [])) = node.LastTwo kind a b ∷ []
cycle_nodes kind (a ∷ (b ∷ (c ∷ []))) = node.LastThree kind a b c ∷ []
cycle_nodes kind (a ∷ (b ∷ (c ∷ (d ∷ es)))) = node.Earlier a b c ∷ cycle_nodes kind (d ∷ es)

-- each node before its children
abbrev mutual
  pub spell : Cover → List Node
  spell (Value thread children) = node.Value thread (count_covers children) ∷ spell_row children
  spell (Source read children) = node.Source read (count_covers children) ∷ spell_row children
  spell (Order first second first_before second_before) = node.Order first second ∷ (spell first_before ++ spell second_before)
  spell (Cycle kind events) = cycle_nodes kind events
  spell (Known run) = known_nodes run

  pub spell_row : Covers → List Node
  spell_row NoCover = []
  spell_row (MoreCovers t ts) = spell t ++ spell_row ts

-- several trees
abbrev pub spell_all : List Cover → List Node
spell_all ts = spell_each spell ts

-- ---- from nodes to the trees that they spell, the last node first

-- a node over the first two trees
abbrev pub over_two : (Cover → Cover → Cover) → List Cover → List Cover
over_two two [] = []
over_two two (t ∷ []) = []
over_two two (t ∷ (u ∷ ts)) = two t u ∷ ts

-- the first tree, so many times `NEAR_RUNS` further
abbrev pub further : ℕ → List Cover → List Cover
further times [] = []
further times (Known run ∷ ts) = Known (times * NEAR_RUNS + run) ∷ ts
further times (Value thread children ∷ ts) = ts
further times (Source read children ∷ ts) = ts
further times (Order first second t u ∷ ts) = ts
further times (Cycle kind events ∷ ts) = ts

-- the first tree, a cycle, with three accesses before its others
abbrev pub lengthened : AccessId → AccessId → AccessId → List Cover → List Cover
lengthened a b c [] = []
lengthened a b c (Cycle kind events ∷ ts) = Cycle kind (a ∷ (b ∷ (c ∷ events))) ∷ ts
lengthened a b c (Value thread children ∷ ts) = ts
lengthened a b c (Source read children ∷ ts) = ts
lengthened a b c (Order first second t u ∷ ts) = ts
lengthened a b c (Known run ∷ ts) = ts

abbrev pub before : Node → List Cover → List Cover
before (node.Value thread count) ts = Value thread (covers_of (take count ts)) ∷ drop count ts
before (node.Source read count) ts = Source read (covers_of (take count ts)) ∷ drop count ts
before (node.Order first second) ts = over_two (Order first second) ts
before (node.Earlier a b c) ts = lengthened a b c ts
before (node.EmptyCycle kind) ts = Cycle kind [] ∷ ts
before (node.LastOne kind a) ts = Cycle kind (a ∷ []) ∷ ts
before (node.LastTwo kind a b) ts = Cycle kind (a ∷ (b ∷ [])) ∷ ts
before (node.LastThree kind a b c) ts = Cycle kind (a ∷ (b ∷ (c ∷ []))) ∷ ts
before (node.Known run) ts = Known run ∷ ts
before (node.Far times) ts = further times ts

-- the trees that these nodes spell
abbrev pub trees_of : List Node → List Cover
trees_of [] = []
trees_of (x ∷ xs) = before x (trees_of xs)

-- the first tree, or any
abbrev pub first_tree : List Cover → Cover
first_tree [] = Known 0
first_tree (t ∷ ts) = t

-- the tree that these nodes spell
abbrev pub tree_of : List Node → Cover
tree_of nodes = first_tree (trees_of nodes)

-- they spell one tree, no more and no less
abbrev pub IsTree : List Node → Type 0
IsTree nodes = spell (tree_of nodes) ≡ nodes

abbrev pub AreTrees : List Node → Type 0
AreTrees nodes = spell_all (trees_of nodes) ≡ nodes

-- the first node is the number of a run
pub record BeginsKnown (nodes : List Node) : Type 0 where
  pub run : ℕ
  pub others : List Node
  pub is : nodes ≡ node.Known run ∷ others

-- they begin with the nodes of a cycle
pub record BeginsCycle (nodes : List Node) : Type 0 where
  pub kind : Kind
  pub events : List AccessId
  pub others : List Node
  pub is : nodes ≡ cycle_nodes kind events ++ others

-- ---- the parts of a cycle

-- whether other nodes of the cycle follow
abbrev pub goes_on : Node → Bool
goes_on (node.Earlier a b c) = true
goes_on x = false

-- a node's own accesses, and more after those of a node that is not its cycle's last
abbrev pub gathered : Node → List AccessId → List AccessId
gathered (node.Earlier a b c) more = a ∷ (b ∷ (c ∷ more))
gathered (node.LastOne kind a) more = a ∷ []
gathered (node.LastTwo kind a b) more = a ∷ (b ∷ [])
gathered (node.LastThree kind a b c) more = a ∷ (b ∷ (c ∷ []))
gathered x more = []

-- the accesses of the cycle that these nodes begin with
abbrev pub events_of : List Node → List AccessId
events_of [] = []
events_of (x ∷ xs) = gathered x (events_of xs)

-- the union of a cycle whose last node this is
abbrev pub union_of : Node → Option Kind
union_of (node.EmptyCycle kind) = Some kind
union_of (node.LastOne kind a) = Some kind
union_of (node.LastTwo kind a b) = Some kind
union_of (node.LastThree kind a b c) = Some kind
union_of x = None

-- a union, and the nodes after it, or else what comes later
abbrev pub or_later : Option Kind → List Node → Option (Kind × List Node) → Option (Kind × List Node)
or_later (Some kind) xs later = Some (kind, xs)
or_later None xs later = later

-- the union of the cycle that these nodes begin with, and the nodes after the cycle
abbrev pub cycle_end : List Node → Option (Kind × List Node)
cycle_end [] = None
cycle_end (x ∷ xs) = or_later (union_of x) xs (cycle_end xs)
