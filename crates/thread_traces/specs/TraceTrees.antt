-- Trees of traces: what threads do under the values that they were given so far.
use Rattle.std.specs.Prelude.{◌≡◌, ◌≢◌, ◌⊎◌, ◌<◌, ◌+◌, ◌++◌, ◌∷◌, [], ℕ, List, Option, Some, None, length, slice_get}
use Rattle.tso_program.specs.declared.listing.Listing.{Listing}
use Rattle.tso_machine.specs.declared.mode.Mode.{Mode}
use Rattle.tso_machine.specs.Modes.{machine_of_mode}
use Rattle.thread_traces.specs.declared.thread_trace.ThreadTrace.{ThreadTrace}
use Rattle.thread_traces.specs.declared.trace_tree.TraceNode.{TraceNode}
use Rattle.thread_traces.specs.declared.trace_tree.TracePlace.{TracePlace}
use Rattle.thread_traces.specs.declared.trace_tree.TraceTree.{TraceTree}
use Rattle.thread_traces.specs.ThreadTraces.{IsThreadTraceOf}

-- the nodes are of these threads, under these values
pub record AreNodes (p : Listing) (mode : Mode) (threads : ℕ → ℕ) (values : ℕ → List ℕ) (nodes : List TraceNode) : Type 0 where
  -- a trace is what the node's thread does under the node's values
  pub traces : (i : ℕ) (x : TraceNode) (c : ThreadTrace) → slice_get nodes i ≡ Some x → x.trace ≡ Some c → IsThreadTraceOf p (machine_of_mode p mode) (threads i) (values i) c
  -- a parent comes before its children; they are of its thread, under one value more
  pub parents : (i q : ℕ) (x : TraceNode) → slice_get nodes i ≡ Some x → x.parent ≡ Some q → (q < i) × (threads i ≡ threads q) × (values i ≡ values q ++ x.value ∷ [])

-- the thread, under these given values, is at its place: they are those of a node of the thread, and so many more
abbrev pub IsTracePlace : (threads : ℕ → ℕ) (values : ℕ → List ℕ) (nodes t : ℕ) → List ℕ → TracePlace → Type 0
IsTracePlace threads values nodes t given place = (n : ℕ) → place.node ≡ Some n →
    (n < nodes) × (threads n ≡ t) × (more : List ℕ) × (length more ≡ place.beyond) × (given ≡ values n ++ more)

-- a tree of a program's traces, with each thread at its place under its given values
pub record IsTraceTree (p : Listing) (mode : Mode) (given : ℕ → List ℕ) (tree : TraceTree) : Type 0 where
  pub threads : ℕ → ℕ
  pub values : ℕ → List ℕ
  pub nodes_are : AreNodes p mode threads values tree.nodes.items
  pub places_are : (t : ℕ) (place : TracePlace) → slice_get tree.places.items t ≡ Some place → IsTracePlace threads values (length tree.nodes.items) t (given t) place

-- thread t is given one value more, and no other thread
abbrev pub IsGivenMore : (ℕ → List ℕ) → ℕ → ℕ → (ℕ → List ℕ) → Type 0
IsGivenMore given t value next = (next t ≡ given t ++ value ∷ []) × ((u : ℕ) → u ≢ t → next u ≡ given u)

-- the node of this number is the parent's, under the value
abbrev pub IsChildOf : List TraceNode → ℕ → ℕ → ℕ → Type 0
IsChildOf nodes parent value n = (x : TraceNode) × (slice_get nodes n ≡ Some x) × (x.parent ≡ Some parent) × (x.value ≡ value)

-- the node stands for the other: it has its parent and its value, and no trace but its, or this one where it is the node of this number
abbrev pub NodeStandsFor : Option (ℕ × ThreadTrace) → ℕ → TraceNode → TraceNode → Type 0
NodeStandsFor back i x y = (x.parent ≡ y.parent) × (x.value ≡ y.value) × ((c : ThreadTrace) → x.trace ≡ Some c → (y.trace ≡ Some c) ⊎ (back ≡ Some (i, c)))

-- each of the new nodes stands for the old one of its number
pub record AreNodesOf (old : List TraceNode) (back : Option (ℕ × ThreadTrace)) (new : List TraceNode) : Type 0 where
  pub many : length new ≡ length old
  pub each : (i : ℕ) (x : TraceNode) → slice_get new i ≡ Some x → (y : TraceNode) × (slice_get old i ≡ Some y) × NodeStandsFor back i x y

-- a node of this parent and value is new
pub record IsPushed (old : List TraceNode) (parent value : ℕ) (new : List TraceNode) : Type 0 where
  pub node : TraceNode
  pub nodes : AreNodesOf (old ++ node ∷ []) None new
  pub no_trace : node.trace ≡ None
  pub is_value : node.value ≡ value
  pub parent_is : node.parent ≡ Some parent

-- the thread was at its node, and is at a new child of it
pub record IsAtChild (old : List TraceNode) (place : TracePlace) (value : ℕ) (new : List TraceNode) (next : TracePlace) : Type 0 where
  pub parent : ℕ
  pub was_at : place.node ≡ Some parent
  pub not_beyond : place.beyond ≡ 0
  pub pushed : IsPushed old parent value new
  pub is_at : next ≡ record { node = Some (length old); beyond = 0 }

-- the thread is one value further beyond its node, or at none
abbrev pub IsFurther : TracePlace → TracePlace → Type 0
IsFurther place next = (n : ℕ) → next.node ≡ Some n → (place.node ≡ Some n) × (next.beyond ≡ place.beyond + 1)

abbrev pub IsNextPlace : List TraceNode → TracePlace → ℕ → List TraceNode → TracePlace → Type 0
IsNextPlace old place value new next = IsAtChild old place value new next ⊎ ((new ≡ old) × IsFurther place next)
