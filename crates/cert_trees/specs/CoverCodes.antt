-- A code of cover trees that distinguishes any two of them: the nodes, each after its children.
use Rattle.std.specs.Prelude.{◌≡◌, ◌⊎◌, ℕ, zero, suc, List, [], ◌∷◌, ◌++◌, refl}
use Rattle.std.specs.Coded.{Coded, code_by, coded×, coded⊎, coded_list, coded_ℕ}
use Rattle.std.proofs.Common.{ap, ◌∙◌, inl, inr}
use Rattle.candidate_executions.specs.declared.event.Kind.{Kind}
use Rattle.candidate_executions.specs.declared.event.Kind.TheVariants as union
use Rattle.cert_trees.specs.declared.tree.AccessId.{AccessId}
use Rattle.cert_trees.specs.Trees.{Cover, Value, Source, Order, Cycle, Known, Covers, NoCover, MoreCovers}

-- a node without its children; the end of a row of trees, and one tree more in it
pub data Node : Type 0 where
  ValueNode : ℕ → Node
  SourceNode : AccessId → Node
  OrderNode : AccessId → AccessId → Node
  CycleNode : Kind → List AccessId → Node
  KnownNode : ℕ → Node
  EndNode : Node
  MoreNode : Node

abbrev mutual
  nodes_of : Cover → List Node
  nodes_of (Value t children) = row_of children ++ ValueNode t ∷ []
  nodes_of (Source read children) = row_of children ++ SourceNode read ∷ []
  nodes_of (Order first second one other) = nodes_of one ++ (nodes_of other ++ OrderNode first second ∷ [])
  nodes_of (Cycle kind events) = CycleNode kind events ∷ []
  nodes_of (Known number) = KnownNode number ∷ []

  row_of : Covers → List Node
  row_of NoCover = EndNode ∷ []
  row_of (MoreCovers tree trees) = nodes_of tree ++ (row_of trees ++ MoreNode ∷ [])

-- the trees and rows that are made, the last one first
record Made : Type 0 where
  trees : List Cover
  rows : List Covers

abbrev with_tree : Cover → Made → Made
with_tree tree made = record made { trees = tree ∷ made.trees }

abbrev with_row : Covers → Made → Made
with_row row made = record made { rows = row ∷ made.rows }

-- a node over the last row, over the last two trees, and a row with the last tree before the last row
abbrev over_row : (Covers → Cover) → List Covers → Made → Made
over_row node [] made = made
over_row node (row ∷ rows) made = record { trees = node row ∷ made.trees; rows = rows }

abbrev over_two : (Cover → Cover → Cover) → List Cover → Made → Made
over_two node [] made = made
over_two node (other ∷ []) made = made
over_two node (other ∷ (one ∷ trees)) made = record { trees = node one other ∷ trees; rows = made.rows }

abbrev longer : List Cover → List Covers → Made → Made
longer [] rows made = made
longer (tree ∷ trees) [] made = made
longer (tree ∷ trees) (row ∷ rows) made = record { trees = trees; rows = MoreCovers tree row ∷ rows }

abbrev step : Node → Made → Made
step (ValueNode t) made = over_row (Value t) made.rows made
step (SourceNode read) made = over_row (Source read) made.rows made
step (OrderNode first second) made = over_two (Order first second) made.trees made
step (CycleNode kind events) made = with_tree (Cycle kind events) made
step (KnownNode number) made = with_tree (Known number) made
step EndNode made = with_row NoCover made
step MoreNode made = longer made.trees made.rows made

abbrev steps : List Node → Made → Made
steps [] made = made
steps (node ∷ nodes) made = steps nodes (step node made)

steps_append : (xs ys : List Node) (made : Made) → steps (xs ++ ys) made ≡ steps ys (steps xs made)
steps_append [] ys made = refl
steps_append (x ∷ xs) ys made = steps_append xs ys (step x made)

mutual
  tree_made : (tree : Cover) (made : Made) → steps (nodes_of tree) made ≡ with_tree tree made
  tree_made (Value t children) made =
      steps_append (row_of children) (ValueNode t ∷ []) made ∙ ap (step (ValueNode t)) (row_made children made)
  tree_made (Source read children) made =
      steps_append (row_of children) (SourceNode read ∷ []) made ∙ ap (step (SourceNode read)) (row_made children made)
  tree_made (Order first second one other) made =
      steps_append (nodes_of one) (nodes_of other ++ OrderNode first second ∷ []) made
      ∙ ap (steps (nodes_of other ++ OrderNode first second ∷ [])) (tree_made one made)
      ∙ steps_append (nodes_of other) (OrderNode first second ∷ []) (with_tree one made)
      ∙ ap (step (OrderNode first second)) (tree_made other (with_tree one made))
  tree_made (Cycle kind events) made = refl
  tree_made (Known number) made = refl

  row_made : (trees : Covers) (made : Made) → steps (row_of trees) made ≡ with_row trees made
  row_made NoCover made = refl
  row_made (MoreCovers tree trees) made =
      steps_append (nodes_of tree) (row_of trees ++ MoreNode ∷ []) made
      ∙ ap (steps (row_of trees ++ MoreNode ∷ [])) (tree_made tree made)
      ∙ steps_append (row_of trees) (MoreNode ∷ []) (with_tree tree made)
      ∙ ap (step MoreNode) (row_made trees (with_tree tree made))

abbrev last_tree : List Cover → Cover
last_tree [] = Known 0
last_tree (tree ∷ trees) = tree

abbrev tree_of : List Node → Cover
tree_of nodes = last_tree (steps nodes (record { trees = []; rows = [] })).trees

pub tree_of-nodes_of : (tree : Cover) → tree_of (nodes_of tree) ≡ tree
tree_of-nodes_of tree = ap (λ (made : Made). last_tree made.trees) (tree_made tree (record { trees = []; rows = [] }))

-- a node as a choice between pairs of numbers and lists
abbrev Shape : Type 0
Shape = ℕ ⊎ (AccessId ⊎ ((AccessId × AccessId) ⊎ ((Kind × List AccessId) ⊎ (ℕ ⊎ ℕ))))

abbrev shape_of : Node → Shape
shape_of (ValueNode t) = inl t
shape_of (SourceNode read) = inr (inl read)
shape_of (OrderNode first second) = inr (inr (inl (first, second)))
shape_of (CycleNode kind events) = inr (inr (inr (inl (kind, events))))
shape_of (KnownNode number) = inr (inr (inr (inr (inl number))))
shape_of EndNode = inr (inr (inr (inr (inr 0))))
shape_of MoreNode = inr (inr (inr (inr (inr 1))))

abbrev mark_of : ℕ → Node
mark_of zero = EndNode
mark_of (suc n) = MoreNode

abbrev node_of : Shape → Node
node_of (inl t) = ValueNode t
node_of (inr (inl read)) = SourceNode read
node_of (inr (inr (inl (first, second)))) = OrderNode first second
node_of (inr (inr (inr (inl (kind, events))))) = CycleNode kind events
node_of (inr (inr (inr (inr (inl number))))) = KnownNode number
node_of (inr (inr (inr (inr (inr n))))) = mark_of n

pub node_of-shape_of : (node : Node) → node_of (shape_of node) ≡ node
node_of-shape_of (ValueNode t) = refl
node_of-shape_of (SourceNode read) = refl
node_of-shape_of (OrderNode first second) = refl
node_of-shape_of (CycleNode kind events) = refl
node_of-shape_of (KnownNode number) = refl
node_of-shape_of EndNode = refl
node_of-shape_of MoreNode = refl

abbrev coded_access : Coded AccessId
coded_access = code_by (ℕ × ℕ) (coded× coded_ℕ coded_ℕ) (λ a. (a.thread, a.access)) (λ p. record { thread = p.0; access = p.1 }) (λ _. refl)

abbrev kind_number : Kind → ℕ
kind_number union.Sequential = 0
kind_number union.Location = 1
kind_number union.Global = 2

abbrev kind_of : ℕ → Kind
kind_of zero = union.Sequential
kind_of (suc zero) = union.Location
kind_of (suc (suc n)) = union.Global

pub kind_of-kind_number : (kind : Kind) → kind_of (kind_number kind) ≡ kind
kind_of-kind_number union.Sequential = refl
kind_of-kind_number union.Location = refl
kind_of-kind_number union.Global = refl

abbrev coded_kind : Coded Kind
coded_kind = code_by ℕ coded_ℕ kind_number kind_of kind_of-kind_number

abbrev coded_node : Coded Node
coded_node = code_by Shape
    (coded⊎ coded_ℕ (coded⊎ coded_access (coded⊎ (coded× coded_access coded_access) (coded⊎ (coded× coded_kind (coded_list coded_access)) (coded⊎ coded_ℕ coded_ℕ)))))
    shape_of node_of node_of-shape_of

abbrev pub coded_cover : Coded Cover
coded_cover = code_by (List Node) (coded_list coded_node) nodes_of tree_of tree_of-nodes_of
