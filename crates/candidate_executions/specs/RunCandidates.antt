-- Which candidate a run has: the values that its reads take and the writes that they find, and the order in which its writes reach memory.
use Rattle.std.specs.Prelude.{◌≡◌, ◌↔◌, ◌<◌, ℕ, suc, List, [], ◌∷◌, ◌++◌, Some, IsSome, Option, ◌==◌, if◌then◌else◌, Contains, AllPairs}
use Rattle.std.specs.Option.{option_map_or}
use Rattle.tso_program.specs.declared.action.Action.{Action, TheVariants.Read, TheVariants.Write, TheVariants.Swap}
use Rattle.tso_program.specs.declared.listing.Listing.{Listing}
use Rattle.tso_program.specs.Listings.{action}
use Rattle.tso_machine.specs.declared.label.Label.{Label, TheVariants.Exec, TheVariants.Flush}
use Rattle.tso_machine.specs.Machine.{Machine, SequentialMachine, StoreBufferMachine, State, put, newest, found, step, start}
use Rattle.candidate_executions.specs.declared.access.Access.{Access}
use Rattle.candidate_executions.specs.declared.event.Event.{Event, TheVariants.Initial, TheVariants.Access as At}
use Rattle.candidate_executions.specs.Candidates.{Candidate, access, Writes}

-- how many accesses each thread has made, its stores that wait, with their locations, the oldest first, and the write whose value each location has
pub record Origins : Type 0 where
  pub made : ℕ → ℕ
  pub waiting : ℕ → List (ℕ × Event)
  pub memory : ℕ → Event

abbrev pub first_origins : Origins
first_origins = record { made = λ t. 0; waiting = λ t. []; memory = λ l. Initial l }

-- the write that a load finds: the newest store to the location in its own buffer, otherwise the one in memory
abbrev pub found_write : ℕ → List (ℕ × Event) → Event → Event
found_write l [] e = e
found_write l (w ∷ ws) e = found_write l ws (if w.0 == l then w.1 else e)

-- what a run shows: a read takes a value, which it finds in a write; a write reaches memory
pub data Mark : Type 0 where
  Takes : (read : Event) → (value : ℕ) → (write : Event) → Mark
  Arrives : (write : Event) → Mark

-- thread t's next access, and the origins after it
abbrev pub next_event : Origins → ℕ → Event
next_event o t = At t (o.made t)

abbrev pub with_made : Origins → ℕ → Origins
with_made o t = record o { made = put o.made t (suc (o.made t)) }

abbrev pub with_waiting : Origins → ℕ → List (ℕ × Event) → Origins
with_waiting o t ws = record o { waiting = put o.waiting t ws }

abbrev pub with_memory : Origins → ℕ → Event → Origins
with_memory o l e = record o { memory = put o.memory l e }

-- thread t does this, over store buffers
abbrev pub buffered_origins : Origins → ℕ → Action → Origins
buffered_origins o t (Read l to next) = with_made o t
buffered_origins o t (Write l v next) = with_made (with_waiting o t (o.waiting t ++ (l, next_event o t) ∷ [])) t
buffered_origins o t (Swap l v to next) = with_made (with_memory o l (next_event o t)) t
buffered_origins o t _ = o

abbrev pub buffered_marks : State → Origins → ℕ → Action → List Mark
buffered_marks s o t (Read l to next) =
    Takes (next_event o t) (found (newest l (s.buffers t)) (s.memory l)) (found_write l (o.waiting t) (o.memory l)) ∷ []
buffered_marks s o t (Swap l v to next) = Takes (next_event o t) (s.memory l) (o.memory l) ∷ Arrives (next_event o t) ∷ []
buffered_marks s o t _ = []

-- the oldest store of thread t's buffer goes to memory
abbrev pub flushed_origins : Origins → ℕ → List (ℕ × Event) → Origins
flushed_origins o t [] = o
flushed_origins o t (w ∷ ws) = with_memory (with_waiting o t ws) w.0 w.1

abbrev pub flushed_marks : List (ℕ × Event) → List Mark
flushed_marks [] = []
flushed_marks (w ∷ ws) = Arrives w.1 ∷ []

-- thread t does this, and a store writes memory at once
abbrev pub direct_origins : Origins → ℕ → Action → Origins
direct_origins o t (Read l to next) = with_made o t
direct_origins o t (Write l v next) = with_made (with_memory o l (next_event o t)) t
direct_origins o t (Swap l v to next) = with_made (with_memory o l (next_event o t)) t
direct_origins o t _ = o

abbrev pub direct_marks : State → Origins → ℕ → Action → List Mark
direct_marks s o t (Read l to next) = Takes (next_event o t) (s.memory l) (o.memory l) ∷ []
direct_marks s o t (Write l v next) = Arrives (next_event o t) ∷ []
direct_marks s o t (Swap l v to next) = Takes (next_event o t) (s.memory l) (o.memory l) ∷ Arrives (next_event o t) ∷ []
direct_marks s o t _ = []

-- one step of the machine
abbrev pub origins_after : Listing → Machine → State → Origins → Label → Origins
origins_after p SequentialMachine s o (Exec t) = direct_origins o t (action p.threads t (s.locals t))
origins_after p SequentialMachine s o (Flush t) = o
origins_after p (StoreBufferMachine gaps) s o (Exec t) = buffered_origins o t (action p.threads t (s.locals t))
origins_after p (StoreBufferMachine gaps) s o (Flush t) = flushed_origins o t (o.waiting t)

abbrev pub marks_at : Listing → Machine → State → Origins → Label → List Mark
marks_at p SequentialMachine s o (Exec t) = direct_marks s o t (action p.threads t (s.locals t))
marks_at p SequentialMachine s o (Flush t) = []
marks_at p (StoreBufferMachine gaps) s o (Exec t) = buffered_marks s o t (action p.threads t (s.locals t))
marks_at p (StoreBufferMachine gaps) s o (Flush t) = flushed_marks (o.waiting t)

-- what a run shows from a state on
abbrev pub marks : Listing → Machine → State → Origins → List Label → List Mark
marks p mode s o [] = []
marks p mode s o (l ∷ ls) = marks_at p mode s o l ++ option_map_or (λ next. marks p mode next (origins_after p mode s o l) ls) (step p mode s l) []

-- what a run shows
abbrev pub marks_of : Listing → Machine → List Label → List Mark
marks_of p mode labels = marks p mode (start p) first_origins labels

-- e reads v
abbrev pub ReadsValue : (Event → Option Access) → Event → ℕ → Type 0
ReadsValue at e v = (x : Access) × (at e ≡ Some x) × (x.read ≡ Some v)

-- e is an access that writes
abbrev pub IsStored : (Event → Option Access) → Event → Type 0
IsStored at (Initial l) = ⊥
IsStored at (At t i) = (x : Access) × (at (At t i) ≡ Some x) × IsSome x.written

-- of two writes that reach memory, both to one location, the first has the lower rank
abbrev pub ArriveInOrder : (Event → Option Access) → Candidate → Mark → Mark → Type 0
ArriveInOrder at c (Takes e v d) m = Unit {0}
ArriveInOrder at c (Arrives d) (Takes e v f) = Unit {0}
ArriveInOrder at c (Arrives d) (Arrives e) = (l v w : ℕ) → Writes at d l v → Writes at e l w → c.rank d < c.rank e

-- the candidate is that of the run
pub record IsCandidateOf (p : Listing) (mode : Machine) (labels : List Label) (c : Candidate) : Type 0 where
  -- the run's reads are the candidate's: each takes its value, and finds it in its source
  pub takes : (e d : Event) (v : ℕ) → Contains (marks_of p mode labels) (Takes e v d) ↔ (ReadsValue (access p mode c) e v × (c.source e ≡ d))
  -- the writes that reach memory are the candidate's
  pub arrives : (e : Event) → Contains (marks_of p mode labels) (Arrives e) ↔ IsStored (access p mode c) e
  -- in the candidate's order
  pub order : AllPairs (ArriveInOrder (access p mode c) c) (marks_of p mode labels)
