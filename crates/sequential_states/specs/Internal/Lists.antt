-- Lists of states: each is reached by a step from an earlier one, and the steps that were followed lead to listed ones. Of a state where
-- some thread's step reads and writes no location, that step alone needs to be followed: it can be made before those of other threads.
use Rattle.std.specs.Prelude.{◌≡◌, ◌<◌, ◌≤◌, ◌⊎◌, ℕ, true, false, Bool, List, [], ◌∷◌, ◌++◌, length, slice_get, Option, Some, None}
use Rattle.tso_program.specs.declared.listing.Listing.{Listing}
use Rattle.tso_machine.specs.declared.label.Label.{Label, TheVariants.Exec}
use Rattle.tso_machine.specs.Machine.{SequentialMachine, State, start, step, run}
use Rattle.tso_program.specs.Listings.{action, code_of}
use Rattle.tso_program.specs.declared.action.Action.{TheVariants.Stop}
use Rattle.sequential_states.specs.declared.listed.Arrival.{Arrival}
use Rattle.sequential_states.specs.declared.listed.Listed.{Listed}
use Rattle.sequential_states.specs.declared.walk.Walk.{Walk}
use Rattle.sequential_states.specs.Internal.Snapshots.{Shot, state_of, first_shot, FitsProgram, HasLocalStep, HasNoStep, StandsAt}

-- a state is listed that is this state of the machine
pub record IsListed (listed : List Listed) (s : State) : Type 0 where
  pub place : ℕ
  pub found : Listed
  pub there : slice_get listed place ≡ Some found
  pub same : state_of found.state ≡ s

-- a step from an earlier state of the list leads to the state, or it is the start
abbrev pub IsArrival : Listing → List Listed → ℕ → Shot → Option Arrival → Type 0
IsArrival p listed place s None = s ≡ first_shot p
IsArrival p listed place s (Some arrival) =
    (from : Listed) × (slice_get listed arrival.from ≡ Some from) × (arrival.from < place) × (step p SequentialMachine (state_of from.state) (Exec arrival.thread) ≡ Some (state_of s))

pub record IsEntry (p : Listing) (listed : List Listed) (place : ℕ) (entry : Listed) : Type 0 where
  pub fits : FitsProgram p entry.state
  pub arrival : IsArrival p listed place entry.state entry.arrival

-- each state of the list is reached
abbrev pub AreReached : Listing → List Listed → Type 0
AreReached p listed = (place : ℕ) (entry : Listed) → slice_get listed place ≡ Some entry → IsEntry p listed place entry

-- instruction k is thread t's next at the state of this place
pub record IsPlaceAt (listed : List Listed) (t k place : ℕ) : Type 0 where
  pub found : Listed
  pub there : slice_get listed place ≡ Some found
  pub stands : StandsAt found.state t k

-- the state to which thread t's step leads from the state at this place is listed
abbrev pub IsFollowed : Listing → List Listed → ℕ → ℕ → Type 0
IsFollowed p listed place t = (entry : Listed) (next : State) → slice_get listed place ≡ Some entry → step p SequentialMachine (state_of entry.state) (Exec t) ≡ Some next → IsListed listed next

-- thread u's step from the state at this place reads and writes no location, and was followed
pub record IsLocallyFollowed (p : Listing) (listed : List Listed) (place u : ℕ) : Type 0 where
  pub entry : Listed
  pub there : slice_get listed place ≡ Some entry
  pub local : HasLocalStep p entry.state u
  pub followed : IsFollowed p listed place u

-- each thread's step was followed, or one that reads and writes no location
abbrev pub IsExplored : Listing → List Listed → ℕ → Type 0
IsExplored p listed place = ((t : ℕ) → IsFollowed p listed place t) ⊎ ((u : ℕ) × IsLocallyFollowed p listed place u)

-- the one list is the beginning of the other
abbrev pub IsBeginning : List Listed → List Listed → Type 0
IsBeginning listed longer = (more : List Listed) × (longer ≡ listed ++ more)

-- after a state was noted: it was listed, or it is now, at the end
abbrev pub IsNoted : List Listed → Shot → Arrival → List Listed → Type 0
IsNoted listed s arrival after = ((after ≡ listed) × IsListed listed (state_of s)) ⊎ (after ≡ listed ++ record { state = s; arrival = Some arrival } ∷ [])

-- the first n instructions of thread t are each its next one at some state
abbrev pub HasFirst : List Listed → ℕ → ℕ → Type 0
HasFirst listed t n = (k : ℕ) → k < n → (place : ℕ) × IsPlaceAt listed t k place

-- so is each instruction of the program
abbrev pub HasEach : Listing → List Listed → Type 0
HasEach p listed = (t : ℕ) → HasFirst listed t (length (code_of p.threads t))

-- so many states were explored, which are all states or enough to have each instruction
abbrev pub IsEnough : Listing → List Listed → ℕ → Type 0
IsEnough p listed explored = (length listed ≤ explored) ⊎ HasEach p listed

-- the list begins with the program's start, and each of its states is reached; each is explored, or they have each instruction
pub record TellsAll (p : Listing) (listed : List Listed) : Type 0 where
  pub first : IsListed listed (start p)
  pub reached : AreReached p listed
  pub enough : ((place : ℕ) → place < length listed → IsExplored p listed place) ⊎ HasEach p listed

-- the labels lead to the state, which has the program's threads and locations
pub record IsWalk (p : Listing) (walk : Walk) : Type 0 where
  pub reached : run p SequentialMachine (start p) walk.labels ≡ Some (state_of walk.state)
  pub fits : FitsProgram p walk.state

-- each step leads from an earlier place
abbrev pub ArrivalsLeadBack : List Listed → Type 0
ArrivalsLeadBack listed = (place : ℕ) (entry : Listed) (arrival : Arrival) → slice_get listed place ≡ Some entry → entry.arrival ≡ Some arrival → arrival.from < place

-- where each state is reached, the labels lead to the one at this place
abbrev pub LeadTo : List Listed → ℕ → List Label → Type 0
LeadTo listed place labels = (p : Listing) (entry : Listed) → AreReached p listed → slice_get listed place ≡ Some entry → run p SequentialMachine (start p) labels ≡ Some (state_of entry.state)

-- so does the walk
abbrev pub IsWalkTo : List Listed → ℕ → Walk → Type 0
IsWalkTo listed place walk = (p : Listing) (entry : Listed) → AreReached p listed → slice_get listed place ≡ Some entry → IsWalk p walk × (walk.state ≡ entry.state)

-- one more step of thread t, or none where it has none
pub record IsLonger (p : Listing) (walk : Walk) (t : ℕ) (after : Walk) : Type 0 where
  pub labels : after.labels ≡ walk.labels ++ Exec t ∷ []
  pub leads : step p SequentialMachine (state_of walk.state) (Exec t) ≡ Some (state_of after.state)
  pub fits : FitsProgram p after.state

-- the walk goes on by a step of thread t, or the thread has none
abbrev pub WalksOn : Listing → Walk → ℕ → Walk → Bool → Type 0
WalksOn p walk t after true = IsLonger p walk t after
WalksOn p walk t after false = (after ≡ walk) × HasNoStep p walk.state t

-- thread t is at its end, where nothing follows
abbrev pub IsThreadAtEnd : Listing → Shot → ℕ → Type 0
IsThreadAtEnd p s t = action p.threads t ((state_of s).locals t) ≡ Stop

-- the walk with more labels; the threads that were at their ends still are
pub record IsWalkOn (p : Listing) (walk after : Walk) : Type 0 where
  pub more : List Label
  pub labels : after.labels ≡ walk.labels ++ more
  pub walked : IsWalk p after
  pub ended : (t : ℕ) → IsThreadAtEnd p walk.state t → IsThreadAtEnd p after.state t
