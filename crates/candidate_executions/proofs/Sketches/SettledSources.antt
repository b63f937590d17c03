-- A settled read's source in each consistent completion is one of the writes that are there: a later one would be of its own thread, which makes a cycle, or of a thread that may still write it.
use Rattle.candidate_executions.proofs.Vocabulary.{◌≡◌, ◌≢◌, ℕ, ◌<◌, ◌≤◌, [], ◌∷◌, ◌++◌, Option, Some, None, IsSome, slice_get, length, refl, sym, ap, ◌∙◌, subst, inl, inr, arith, cases_lt, slice_get_within, same_Some, Listing, action, start_of, code_of}
use Rattle.candidate_executions.proofs.Vocabulary.{JumpForward, Machine, SequentialMachine, StoreBufferMachine, Access, Event, Initial, At, Trace, trace, trace_by, fenced_gaps, Candidate, access, access_by, Writes, IsConsistent, Sketch, given_to, Completes, IsConsistentCompletion, IsSketch}
use Rattle.candidate_executions.proofs.Vocabulary.{IsSourceOf, IsSettled, MayStillWrite, IsOfOther, with_source, next_read, EachCompletionHasASettledSource, WholeSketchesAreSettled}
use Rattle.tso_machine.proofs.Advance.{advance}
use Rattle.candidate_executions.proofs.Orders.Lists.{get_some, not_some}
use Rattle.candidate_executions.proofs.Sketches.Choices.{keeps, more_sources, given_whole}
use Rattle.candidate_executions.proofs.Sketches.WritesAhead.{StoresAhead, stores_past, stored_by}

-- no later write of its own thread is the source of a read: the read comes before the write in program order, and after it by reads-from
not_its_own : (p : Listing) (mode : Machine) (c : Candidate) → IsConsistent p mode c → (t i j : ℕ) (x y : Access) → i < j →
    access p mode c (At t i) ≡ Some x → access p mode c (At t j) ≡ Some y → IsSome x.read → c.source (At t i) ≡ At t j → y.location ≡ x.location → ⊥
not_its_own p SequentialMachine c consistent t i j x y before a b reads source at =
    consistent (At t i ∷ At t j ∷ []) ((x, y, a, b, inl (refl, before)), (y, x, b, a, inr (inl (reads, source))))
not_its_own p (StoreBufferMachine gaps) c consistent t i j x y before a b reads source at =
    consistent.0 (At t i ∷ At t j ∷ []) ((x, y, a, b, inl ((refl, before), sym at)), (y, x, b, a, inr (inl (reads, source))))

module _ (p : Listing) (mode : Machine) (k : Sketch) (c : Candidate) (forward : JumpForward p.threads) (fits : IsSketch p mode k) (is : IsConsistentCompletion p mode k c) where
  abbrev made : ℕ → ℕ
  made u = length (trace_by p mode (given_to k) u).accesses

  abbrev plays : ℕ → Trace
  plays u = trace_by p mode (given_to k) u

  -- an access of the completion that the sketch does not have lies in a thread with a next read
  goes_on : (u j : ℕ) (y : Access) → access p mode c (At u j) ≡ Some y → made u ≤ j → IsSome (next_read p mode k u)
  goes_on u j y there past = go (next_read p mode k u) refl
    where
      go : (o : Option ℕ) → next_read p mode k u ≡ o → IsSome o
      go (Some l) q = refl
      go None q = absurd (
          let same : c.given u ≡ given_to k u = given_whole p mode k c fits is.is_candidate is.completes forward u q in
          let here : slice_get (trace_by p mode (given_to k) u).accesses j ≡ Some y =
          subst (λ g. slice_get (trace (action p.threads u) (fenced_gaps mode u) (length (code_of p.threads u)) 0 (start_of p.threads u) g).accesses j ≡ Some y) same there in
          let within = slice_get_within _ j y here in omega arith)

  -- and where it writes, the thread may still write that
  still_writes : (u j l v : ℕ) → Writes (access p mode c) (At u j) l v → made u ≤ j → MayStillWrite p mode k u l v
  still_writes u j l v (y, there, at, written) past =
      let (rest, q) = is.completes.given u in
      let longer : slice_get (trace (action p.threads u) (fenced_gaps mode u) (length (code_of p.threads u)) 0 (start_of p.threads u) (given_to k u ++ rest)).accesses j ≡ Some y =
      subst (λ g. slice_get (trace (action p.threads u) (fenced_gaps mode u) (length (code_of p.threads u)) 0 (start_of p.threads u) g).accesses j ≡ Some y) (sym q) there in
      let ahead : StoresAhead (action p.threads u) (plays u).last.place y.location v =
      stores_past (action p.threads u) (fenced_gaps mode u) (length (code_of p.threads u)) (λ s. advance p forward u s) y v written (length (code_of p.threads u)) 0
      (start_of p.threads u) (given_to k u) rest j longer past in
      let (x, is_there, may) = stored_by p u ahead.state y.location v ahead.stores in
      subst (λ m. MayStillWrite p mode k u m v) at (record {
        goes_on = goes_on u j y there past;
        place = ahead.state.place;
        is_ahead = ahead.is_ahead;
        instruction = x;
        is_there = is_there;
        may_store = may;
      })

  -- a source that the sketch does not have is of another thread than its read
  of_other : (e : Event) (x : Access) (v u j : ℕ) → access_by p mode (given_to k) e ≡ Some x → x.read ≡ Some v → c.source e ≡ At u j → made u ≤ j → IsOfOther u e
  of_other (Initial l) x v u j a r source past = tt
  of_other (At t i) x v u j a r source past = λ same.
      let b : access p mode c (At t i) ≡ Some x = keeps p mode (given_to k) c.given is.completes.given (At t i) x a in
      let (differs, (y, there, at, written)) = is.is_candidate.sources (At t i) x v b r in
      let its_own : c.source (At t i) ≡ At t j = source ∙ ap (λ w. At w j) same in
      let write : access p mode c (At t j) ≡ Some y = subst (λ s. access p mode c s ≡ Some y) its_own there in
      let within = slice_get_within (trace_by p mode (given_to k) t).accesses i x a in
      let beyond : made t ≤ j = subst (λ w. made w ≤ j) same past in
      not_its_own p mode c is.consistent t i j x y (omega arith) b write (rw r refl) its_own at

  -- a write among those that the sketch has is one of the sketch
  present : (u j l v : ℕ) → Writes (access p mode c) (At u j) l v → j < made u → Writes (access_by p mode (given_to k)) (At u j) l v
  present u j l v (y, there, at, written) before =
      let (z, here) = get_some (trace_by p mode (given_to k) u).accesses j before in
      let same : z ≡ y = same_Some z y (sym (keeps p mode (given_to k) c.given is.completes.given (At u j) z here) ∙ there) in
      (y, here ∙ ap Some same, at, written)

  module _ (e : Event) (settled : IsSettled p mode k e) (x : Access) (v : ℕ) (a : access_by p mode (given_to k) e ≡ Some x) (r : x.read ≡ Some v) where
    source : (c.source e ≢ e) × Writes (access p mode c) (c.source e) x.location v
    source = is.is_candidate.sources e x v (keeps p mode (given_to k) c.given is.completes.given e x a) r

    -- the source is there
    is_there : (s : Event) → c.source e ≡ s → Writes (access p mode c) s x.location v → Writes (access_by p mode (given_to k)) s x.location v
    is_there (Initial m) q w = w
    is_there (At u j) q w = elim (cases_lt j (made u)) [
      | inl before ↦ present u j x.location v w before
      | inr past ↦ absurd (settled x v u a r (of_other e x v u j a r q past) (still_writes u j x.location v w past))
    ]

    pub settled_source : IsSourceOf p mode k (c.source e) e × Completes (with_source k e (c.source e)) c
    settled_source = ((x, v, a, r, source.0, is_there (c.source e) refl source.1), more_sources p mode k c fits is.is_candidate is.completes e (c.source e) refl)

pub each_has_a_settled_source : EachCompletionHasASettledSource
each_has_a_settled_source p mode k c e x v forward fits is settled a r = settled_source p mode k c forward fits is e settled x v a r

pub whole_is_settled : WholeSketchesAreSettled
whole_is_settled p mode k e whole x v u a r other may = not_some (next_read p mode k u) (whole u) may.goes_on
