use Rattle.thread_traces.proofs.Vocabulary.{◌≡◌, ℕ, None, Some, slice_get, length, TraceNode, TracePlace}
use Rattle.thread_traces.proofs.trace_tree.TraceTree.new.Given as goal

-- a node and a place for each thread so far
abbrev pub invariant-loop-t : goal.invariant-loop-t
invariant-loop-t l = (length l.nodes.items ≡ l.t) × (length l.places.items ≡ l.t)
    × ((i : ℕ) (x : TraceNode) → slice_get l.nodes.items i ≡ Some x → (x.trace ≡ None) × (x.parent ≡ None))
    × ((t : ℕ) (place : TracePlace) → slice_get l.places.items t ≡ Some place → (place.beyond ≡ 0) × ((n : ℕ) → place.node ≡ Some n → n ≡ t))
