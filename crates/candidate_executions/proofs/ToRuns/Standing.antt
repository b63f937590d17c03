-- Where the threads stand in a run that follows the order of a candidate's events.
use Rattle.candidate_executions.proofs.Vocabulary.{◌≡◌, ℕ, ◌<◌, ◌≤◌, List, [], ◌∷◌, Option, Some, None, IsSome, slice_get, map, drop, refl, sym, ap, ◌∙◌, inl, inr, same_Some, Listing, Local, action, Gaps, Machine, StoreBufferMachine, Pending, Access, Event}
use Rattle.candidate_executions.proofs.Vocabulary.{Initial, At, Candidate, trace_of, access, Writes, IsCandidate, trace, Steps, steps, steps_by, Edge, IsAcyclic}
use Rattle.candidate_executions.specs.declared.event.Kind.TheVariants as union
use Rattle.candidate_executions.proofs.{Orders.AcyclicIsOrdered.In, Orders.AcyclicIsOrdered.Distinct, Orders.AcyclicIsOrdered.Ordered, Candidates.WrittenValues.store_of}

module _ (p : Listing) (gaps : Gaps) (c : Candidate) (is : IsCandidate p (StoreBufferMachine gaps) c) (loc : IsAcyclic (Edge p (StoreBufferMachine gaps) c union.Location)) where
  abbrev pub mode : Machine
  mode = StoreBufferMachine gaps

  abbrev pub at : Event → Option Access
  at = access p mode c

  abbrev pub acc : ℕ → List Access
  acc t = (trace_of p mode c t).accesses

  abbrev pub G : Event → Event → Type 0
  G = Edge p mode c union.Global

  abbrev pub Lo : Event → Event → Type 0
  Lo = Edge p mode c union.Location

  abbrev pub W : Event → ℕ → ℕ → Type 0
  W = Writes at

  -- edges
  pub place_edge : (t j i : ℕ) (x y : Access) → at (At t j) ≡ Some x → at (At t i) ≡ Some y → j < i → x.location ≡ y.location → Lo (At t j) (At t i)
  place_edge t j i x y a b n k = (x, y, a, b, inl ((refl, n), k))

  pub write_g : (d e : Event) (l v w : ℕ) → W d l v → W e l w → c.rank d < c.rank e → G d e
  write_g d e l v w a b o = (a.0, b.0, a.1, b.1, inr (inr (inl (a.2 ∙ sym b.2, rw a.3 refl, rw b.3 refl, o))))

  pub same_value : (d : Event) (l a b : ℕ) → W d l a → W d l b → b ≡ a
  same_value d l a b f g = let x : f.0 ≡ g.0 = same_Some f.0 g.0 (sym f.1 ∙ g.1) in
      sym (same_Some _ _ (sym f.3 ∙ (ap (λ (z : Access). z.written) x ∙ g.3)))

  pub two_lo : (d e : Event) → Lo d e → Lo e d → ⊥
  two_lo d e a b = loc (d ∷ e ∷ []) (a, b)

  abbrev pub store : ℕ → ℕ → Pending
  store t j = store_of (slice_get (acc t) j)

  -- the location and the event of a store that waits
  abbrev pub own : ℕ → ℕ → ℕ × Event
  own t j = ((store t j).location, At t j)

  -- the steps of thread t from its access d on
  abbrev pub steps_from : ℕ → ℕ → Steps
  steps_from t d = record { accesses = drop d (steps_by p c.given t).accesses; all = (steps_by p c.given t).all }

  -- Where thread t stands: it has executed so many instructions, and has made so many accesses by them; those of its stores that
  -- are still in the rest wait in its buffer.
  pub record Stands (t : ℕ) (local : Local) (buffer : List Pending) (waits : List (ℕ × Event)) (count : ℕ) (rest : List Event) (fuel executed : ℕ) : Type 0 where
    pub done : ℕ
    pub section : ℕ
    pub queue : List ℕ
    pub given : List ℕ
    pub plays : trace (action p.threads t) (gaps t) fuel section local given ≡ record { accesses = drop done (acc t); last = (trace_of p mode c t).last; unused = [] }
    pub counts : steps (action p.threads t) fuel executed local given ≡ steps_from t done
    pub past : (j m : ℕ) → j < done → slice_get (steps_by p c.given t).accesses j ≡ Some m → m ≤ executed
    pub behind : (i : ℕ) (y : Access) → at (At t i) ≡ Some y → done ≤ i → In (At t i) rest
    pub plain : (i : ℕ) (y : Access) → at (At t i) ≡ Some y → i < done → In (At t i) rest → (y.read ≡ None) × IsSome y.written
    pub buffer_is : buffer ≡ map (store t) queue
    pub waits_are : waits ≡ map (own t) queue
    pub count_is : count ≡ done
    pub queued : (q j : ℕ) → slice_get queue q ≡ Some j → (j < done) × In (At t j) rest
    pub in_queue : (j : ℕ) → j < done → In (At t j) rest → (q : ℕ) × (slice_get queue q ≡ Some j)
    pub rising : (q r i j : ℕ) → q < r → slice_get queue q ≡ Some i → slice_get queue r ≡ Some j → i < j
    pub early : (j : ℕ) (y : Access) → at (At t j) ≡ Some y → j < done → In (At t j) rest → y.section ≤ section

  -- what memory has, by a write: the last of those that are not in the rest
  pub record Has (rest : List Event) (l v : ℕ) (origin : Event) : Type 0 where
    pub event : Event
    pub origin_is : origin ≡ event
    pub writes : W event l v
    pub past : In event rest → ⊥
    pub last : (d : Event) (w : ℕ) → W d l w → (In d rest → ⊥) → c.rank d ≤ c.rank event

  pub record Shared (memory : ℕ → ℕ) (origins : ℕ → Event) (rest : List Event) : Type 0 where
    pub has : (l : ℕ) → Has rest l (memory l) (origins l)
    pub known : (t i : ℕ) → In (At t i) rest → (y : Access) × (at (At t i) ≡ Some y)
    pub initial : (l : ℕ) → In (Initial l) rest → ⊥
    pub ordered : Ordered G rest
    pub distinct : Distinct rest
    pub closed : (d e : Event) → (In d rest → ⊥) → In e rest → G e d → ⊥
