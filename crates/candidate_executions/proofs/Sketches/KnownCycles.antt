-- A cycle of known edges, of a union of the mode, leaves a sketch no consistent completion.
use Rattle.candidate_executions.proofs.Vocabulary.{List, [], ◌∷◌, Listing, Machine, SequentialMachine, StoreBufferMachine, Event, Kind, Candidate, IsOfMode, Edge, Leads, IsCycle, IsAcyclic, IsConsistent, Sketch, IsConsistentCompletion, IsSketch, KnownEdge}
use Rattle.candidate_executions.proofs.Vocabulary.{KnownEdgeOfMode, IsKnownCycle}
use Rattle.candidate_executions.specs.declared.event.Kind.TheVariants as union
use Rattle.candidate_executions.proofs.{Orders.WiderRelations.cycle_wider, Sketches.KnownEdges.known_cycle}

first_edge : (R : Event → Event → Type 0) (es : List Event) (d z : Event) → Leads R d es z → (e : Event) × R d e
first_edge R [] d z h = (z, h)
first_edge R (e ∷ es) d z h = (e, h.0)

some_edge : (R : Event → Event → Type 0) (es : List Event) → IsCycle R es → (d : Event) × ((e : Event) × R d e)
some_edge R [] h = absurd h
some_edge R (e ∷ es) h = (e, first_edge R es e e h)

-- a consistent candidate has no cycle of a union of its mode
no_cycle : (p : Listing) (mode : Machine) (c : Candidate) (kind : Kind) → IsOfMode mode kind → IsConsistent p mode c → IsAcyclic (Edge p mode c kind)
no_cycle p SequentialMachine c union.Sequential of_mode consistent = consistent
no_cycle p (StoreBufferMachine gaps) c union.Location of_mode consistent = consistent.0
no_cycle p (StoreBufferMachine gaps) c union.Global of_mode consistent = consistent.1
no_cycle p mode c kind of_mode consistent = absurd of_mode

pub known_cycle_refutes : (p : Listing) (mode : Machine) (k : Sketch) (kind : Kind) (es : List Event) → IsSketch p mode k → IsKnownCycle p mode k kind es →
    (c : Candidate) → IsConsistentCompletion p mode k c → ⊥
known_cycle_refutes p mode k kind es fits h c is =
    let known = cycle_wider (KnownEdgeOfMode p mode k kind) (KnownEdge p mode k kind) (λ d e r. r.1) es h in
    let of_mode = (some_edge (KnownEdgeOfMode p mode k kind) es h).1.1.0 in
    no_cycle p mode c kind of_mode is.consistent es (known_cycle p mode k fits c is.is_candidate is.completes kind es known)
