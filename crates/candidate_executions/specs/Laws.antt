-- What ties candidate executions to the machines, and what shows how their definitions are to be read.
use Rattle.std.specs.Prelude.{◌≡◌, ◌≢◌, ◌↔◌, ◌⊎◌, ℕ, ◌<◌, List, Some, None, IsSome, Contains}
use Rattle.tso_program.specs.declared.listing.Listing.{Listing}
use Rattle.tso_program.specs.declared.outcome.Outcome.{Outcome}
use Rattle.tso_program.specs.declared.question.Question.{Question}
use Rattle.tso_program.specs.Listings.{action}
use Rattle.tso_program.specs.Limits.{JumpForward}
use Rattle.tso_program.specs.Fences.{Gaps}
use Rattle.tso_machine.specs.declared.label.Label.{Label}
use Rattle.tso_machine.specs.Machine.{Machine, StoreBufferMachine, IsRun}
use Rattle.candidate_executions.specs.declared.access.Access.{Access}
use Rattle.candidate_executions.specs.declared.event.Event.{Event, TheVariants.Initial, TheVariants.Access as At}
use Rattle.candidate_executions.specs.declared.event.Kind.{Kind}
use Rattle.candidate_executions.specs.Candidates.{Candidate, access, access_by, IsCandidate, HasOutcome, HasShownOutcome}
use Rattle.candidate_executions.specs.Consistency.{KeepsOrder, Edge, IsCycle, IsConsistent}
use Rattle.candidate_executions.specs.Orders.{labels_along, IsOrder}
use Rattle.candidate_executions.specs.RunCandidates.{IsCandidateOf}
use Rattle.candidate_executions.specs.Paths.{path_of, LiesBetween}
use Rattle.candidate_executions.specs.Values.{IsHeldValue, IsValueOf}
use Rattle.candidate_executions.specs.Sketches.{Sketch, empty_sketch, given_to, Completes, IsConsistentCompletion, IsSketch, IsSourceOf, IsPair, with_value, with_source, with_pair, next_read, IsWhole, MustEndAs, KnownEdge}
use Rattle.candidate_executions.specs.Settled.{IsSettled}

-- the labels have a consistent candidate, with the outcome
abbrev pub HasItsCandidate : Listing → Machine → List Label → Outcome → Type 0
HasItsCandidate p mode labels o = (c : Candidate) × IsCandidate p mode c × IsConsistent p mode c × HasOutcome p mode c o × IsCandidateOf p mode labels c

-- every run of a mode's machine is one of a consistent candidate, with its outcome
abbrev pub EveryRunIsACandidate : Type 0
EveryRunIsACandidate = (p : Listing) (mode : Machine) (labels : List Label) (o : Outcome) → JumpForward p.threads → IsRun p mode labels o →
    HasItsCandidate p mode labels o

-- every consistent candidate of a mode is the candidate of a run of its machine, with its outcome
abbrev pub EveryCandidateIsARun : Type 0
EveryCandidateIsARun = (p : Listing) (mode : Machine) (c : Candidate) (o : Outcome) → IsCandidate p mode c → IsConsistent p mode c →
    HasOutcome p mode c o → (labels : List Label) × IsRun p mode labels o × IsCandidateOf p mode labels c

-- of one run along each order of its accesses that the unions allow
abbrev pub EveryOrderIsARun : Type 0
EveryOrderIsARun = (p : Listing) (mode : Machine) (c : Candidate) (order : List Event) (o : Outcome) → IsCandidate p mode c → IsConsistent p mode c →
    IsOrder p mode c order → HasOutcome p mode c o →
    IsRun p mode (labels_along p mode c.given (λ t. 0) order) o × IsCandidateOf p mode (labels_along p mode c.given (λ t. 0) order) c

-- the candidate has these two accesses of thread t, the first before the second
pub record HasInProgramOrder (p : Listing) (gaps : Gaps) (c : Candidate) (t i j : ℕ) (x y : Access) : Type 0 where
  pub first : access p (StoreBufferMachine gaps) c (At t i) ≡ Some x
  pub second : access p (StoreBufferMachine gaps) c (At t j) ≡ Some y
  pub in_order : i < j

-- the sections of a plain store and of a later access of its thread differ exactly where a fence, a fenced gap or an exchange lies between them
abbrev pub SectionsTellFences : Type 0
SectionsTellFences = (p : Listing) (gaps : Gaps) (c : Candidate) (t i j : ℕ) (x y : Access) → HasInProgramOrder p gaps c t i j x y → x.read ≡ None →
    (x.section ≢ y.section) ↔ LiesBetween (action p.threads t) (gaps t) (path_of p c t) i j

-- program order is kept but from a plain store to a plain load with no fence, no fenced gap and no exchange between them
abbrev pub KeptOrderIsTold : Type 0
KeptOrderIsTold = (p : Listing) (gaps : Gaps) (c : Candidate) (t i j : ℕ) (x y : Access) → HasInProgramOrder p gaps c t i j x y →
    KeepsOrder x y ↔ (IsSome x.read ⊎ (IsSome y.written ⊎ LiesBetween (action p.threads t) (gaps t) (path_of p c t) i j))

-- no edge of any union leads into an initial write
abbrev pub NoEdgeLeadsIntoInitial : Type 0
NoEdgeLeadsIntoInitial = (p : Listing) (mode : Machine) (c : Candidate) (kind : Kind) (d : Event) (l : ℕ) → IsCandidate p mode c →
    Edge p mode c kind d (Initial l) → ⊥

-- so every cycle is one of accesses alone
abbrev pub CyclesAreOfAccesses : Type 0
CyclesAreOfAccesses = (p : Listing) (mode : Machine) (c : Candidate) (kind : Kind) (es : List Event) (l : ℕ) → IsCandidate p mode c →
    IsCycle (Edge p mode c kind) es → Contains es (Initial l) → ⊥

-- a candidate has one outcome
abbrev pub OutcomesAreOne : Type 0
OutcomesAreOne = (p : Listing) (mode : Machine) (c : Candidate) (o q : Outcome) → IsCandidate p mode c → HasOutcome p mode c o →
    HasOutcome p mode c q → o ≡ q

-- the sketch in which nothing is chosen is one
abbrev pub EmptyIsASketch : Type 0
EmptyIsASketch = (p : Listing) (mode : Machine) → IsSketch p mode (empty_sketch p)

-- a value for a read that has none keeps a sketch
abbrev pub AValueKeepsASketch : Type 0
AValueKeepsASketch = (p : Listing) (mode : Machine) (k : Sketch) (t l v : ℕ) → JumpForward p.threads → IsSketch p mode k →
    next_read p mode k t ≡ Some l → IsSketch p mode (with_value k t v)

-- one of a read's sources keeps a sketch
abbrev pub ASourceKeepsASketch : Type 0
ASourceKeepsASketch = (p : Listing) (mode : Machine) (k : Sketch) (e s : Event) → IsSketch p mode k → IsSourceOf p mode k s e →
    IsSketch p mode (with_source k e s)

-- a pair of writes keeps a sketch
abbrev pub APairKeepsASketch : Type 0
APairKeepsASketch = (p : Listing) (mode : Machine) (k : Sketch) (d e : Event) → IsSketch p mode k → IsPair p mode k d e →
    IsSketch p mode (with_pair k d e)

-- every candidate completes the sketch in which nothing is chosen
abbrev pub EveryCandidateCompletesEmpty : Type 0
EveryCandidateCompletesEmpty = (p : Listing) (c : Candidate) → Completes (empty_sketch p) c

-- so every run of the mode's machine is a consistent completion of it with the run's outcome
abbrev pub EveryRunIsACompletion : Type 0
EveryRunIsACompletion = (p : Listing) (mode : Machine) (labels : List Label) (o : Outcome) → JumpForward p.threads → IsRun p mode labels o →
    (c : Candidate) × IsConsistentCompletion p mode (empty_sketch p) c × HasOutcome p mode c o

-- an edge that is known of a sketch is one of each completion
abbrev pub AKnownEdgeIsAnEdge : Type 0
AKnownEdgeIsAnEdge = (p : Listing) (mode : Machine) (k : Sketch) (c : Candidate) (kind : Kind) (d e : Event) → IsSketch p mode k →
    IsCandidate p mode c → Completes k c → KnownEdge p mode k kind d e → Edge p mode c kind d e

-- so a cycle of known edges is one of each completion
abbrev pub AKnownCycleIsACycle : Type 0
AKnownCycleIsACycle = (p : Listing) (mode : Machine) (k : Sketch) (c : Candidate) (kind : Kind) (es : List Event) → IsSketch p mode k →
    IsCandidate p mode c → Completes k c → IsCycle (KnownEdge p mode k kind) es → IsCycle (Edge p mode c kind) es

-- no known edge leads into an initial write
abbrev pub NoKnownEdgeLeadsIntoInitial : Type 0
NoKnownEdgeLeadsIntoInitial = (p : Listing) (mode : Machine) (k : Sketch) (kind : Kind) (d : Event) (l : ℕ) → IsSketch p mode k →
    KnownEdge p mode k kind d (Initial l) → ⊥

-- so every cycle of known edges is one of accesses alone
abbrev pub KnownCyclesAreOfAccesses : Type 0
KnownCyclesAreOfAccesses = (p : Listing) (mode : Machine) (k : Sketch) (kind : Kind) (es : List Event) (l : ℕ) → IsSketch p mode k →
    IsCycle (KnownEdge p mode k kind) es → Contains es (Initial l) → ⊥

-- each completion gives a read that has no value yet one of its location's values
abbrev pub EachCompletionHasAValue : Type 0
EachCompletionHasAValue = (p : Listing) (mode : Machine) (k : Sketch) (c : Candidate) (t l : ℕ) → JumpForward p.threads → IsSketch p mode k →
    IsCandidate p mode c → Completes k c → next_read p mode k t ≡ Some l → (v : ℕ) × IsValueOf p l v × Completes (with_value k t v) c

-- once each read has its value, each completion has these given values and no others
abbrev pub EachCompletionHasTheValues : Type 0
EachCompletionHasTheValues = (p : Listing) (mode : Machine) (k : Sketch) (c : Candidate) → JumpForward p.threads → IsSketch p mode k →
    IsCandidate p mode c → Completes k c → IsWhole p mode k → (t : ℕ) → c.given t ≡ given_to k t

-- and each completion's source of a read is one of the read's sources
abbrev pub EachCompletionHasASource : Type 0
EachCompletionHasASource = (p : Listing) (mode : Machine) (k : Sketch) (c : Candidate) (e : Event) (x : Access) (v : ℕ) → JumpForward p.threads →
    IsSketch p mode k → IsCandidate p mode c → Completes k c → IsWhole p mode k → access_by p mode (given_to k) e ≡ Some x → x.read ≡ Some v →
    IsSourceOf p mode k (c.source e) e × Completes (with_source k e (c.source e)) c

-- a settled read's source in each consistent completion is one of its sources that are there, whatever the threads read next
abbrev pub EachCompletionHasASettledSource : Type 0
EachCompletionHasASettledSource = (p : Listing) (mode : Machine) (k : Sketch) (c : Candidate) (e : Event) (x : Access) (v : ℕ) → JumpForward p.threads →
    IsSketch p mode k → IsConsistentCompletion p mode k c → IsSettled p mode k e → access_by p mode (given_to k) e ≡ Some x → x.read ≡ Some v →
    IsSourceOf p mode k (c.source e) e × Completes (with_source k e (c.source e)) c

-- where each read has its value, each is settled
abbrev pub WholeSketchesAreSettled : Type 0
WholeSketchesAreSettled = (p : Listing) (mode : Machine) (k : Sketch) (e : Event) → IsWhole p mode k → IsSettled p mode k e

-- each completion orders two writes to one location
abbrev pub EachCompletionHasAnOrder : Type 0
EachCompletionHasAnOrder = (p : Listing) (mode : Machine) (k : Sketch) (c : Candidate) (d e : Event) → IsSketch p mode k → IsCandidate p mode c →
    Completes k c → IsPair p mode k d e → Completes (with_pair k d e) c ⊎ Completes (with_pair k e d) c

-- where a sketch must end as an outcome, it is shown of each completion's
abbrev pub EachCompletionEndsSo : Type 0
EachCompletionEndsSo = (q : Question) (mode : Machine) (k : Sketch) (c : Candidate) (o : Outcome) → JumpForward q.program.threads →
    IsSketch q.program mode k → IsCandidate q.program mode c → Completes k c → MustEndAs q mode k o → HasShownOutcome q mode c o

-- each value that a location may hold is one of its values
abbrev pub HeldValuesAreValues : Type 0
HeldValuesAreValues = (p : Listing) (l v : ℕ) → IsHeldValue p l v → IsValueOf p l v

-- each read of the candidate takes a value that its location may hold
abbrev pub ReadsHeldValues : Listing → Machine → Candidate → Type 0
ReadsHeldValues p mode c = (e : Event) (x : Access) (v : ℕ) → access p mode c e ≡ Some x → x.read ≡ Some v → IsHeldValue p x.location v

-- the reads of a consistent candidate do
abbrev pub ConsistentCandidatesReadHeldValues : Type 0
ConsistentCandidatesReadHeldValues = (p : Listing) (mode : Machine) (c : Candidate) → JumpForward p.threads → IsCandidate p mode c → IsConsistent p mode c →
    ReadsHeldValues p mode c

-- so each consistent completion gives a read that has no value yet one that its location may hold
abbrev pub EachConsistentCompletionHasAHeldValue : Type 0
EachConsistentCompletionHasAHeldValue = (p : Listing) (mode : Machine) (k : Sketch) (c : Candidate) (t l : ℕ) → JumpForward p.threads → IsSketch p mode k →
    IsConsistentCompletion p mode k c → next_read p mode k t ≡ Some l → (v : ℕ) × IsHeldValue p l v × Completes (with_value k t v) c
