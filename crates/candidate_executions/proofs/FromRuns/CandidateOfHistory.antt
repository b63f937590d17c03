-- The candidate that a history tells of.
use Rattle.candidate_executions.proofs.Vocabulary.{◌≡◌, ℕ, suc, List, Option, Some, None, slice_get, option_map, refl, Access, Event, Initial, At, Candidate}
use Rattle.candidate_executions.proofs.{FromRuns.Histories.Entry, FromRuns.Histories.History, Orders.ForwardIsAcyclic.Pair}

-- what a history says of an event
abbrev pub moment_of_entry : Option Entry → ℕ
moment_of_entry None = 0
moment_of_entry (Some e) = e.moment

abbrev pub moment_of : History → Event → ℕ
moment_of h (Initial l) = 0
moment_of h (At t i) = moment_of_entry (slice_get (h t) i)

abbrev pub source_of_entry : Option Entry → Event
source_of_entry None = Initial 0
source_of_entry (Some e) = e.source

abbrev pub source_of : History → Event → Event
source_of h (Initial l) = Initial l
source_of h (At t i) = source_of_entry (slice_get (h t) i)

abbrev pub candidate_with : History → (ℕ → List ℕ) → Candidate
candidate_with h given = record { given = given; source = source_of h; rank = moment_of h }

-- a write stands at its moment, a load directly after its source's, in the order of execution
abbrev pub key_of_entry : Option Entry → Pair
key_of_entry None = (0, 0)
key_of_entry (Some e) = elim e.access.written [ Some v ↦ (e.moment, 0) | None ↦ (e.seen, suc e.exec) ]

abbrev pub key_of : History → Event → Pair
key_of h (Initial l) = (0, 0)
key_of h (At t i) = key_of_entry (slice_get (h t) i)

-- the accesses are those of the history, and of the initial writes
pub record Shows (at : Event → Option Access) (h : History) : Type 0 where
  pub of_initial : (l : ℕ) (x : Access) → at (Initial l) ≡ Some x → (x.read ≡ None) × (x.location ≡ l)
  pub of_thread : (t i : ℕ) → at (At t i) ≡ option_map (λ e. e.access) (slice_get (h t) i)

pub mapped : (o : Option Entry) (x : Access) → option_map (λ e. e.access) o ≡ Some x → (e : Entry) × (o ≡ Some e) × (x ≡ e.access)
mapped None x h = absurd cc
mapped (Some e) x h = (e, refl, cc)
