-- The sources of a read, listed thread by thread.
use Rattle.rowless_sketches.proofs.Vocabulary.{◌≡◌, ◌↔◌, ◌⊎◌, ◌+◌, ℕ, Bool, IsTrue, ◌≤◌, List, [], Some, slice_get, length, Contains, refl, sym, ap, ◌∙◌, subst, inl, inr, arith, AllPairs, cases_lt, cases_eq, same_Some, slice_get_within, Listing, Mode, Access, Event}
use Rattle.rowless_sketches.proofs.Vocabulary.{Initial, At, ComesBefore, IsSourceOf, ThreadTrace, ProgramSketch, mode_in, trace_in, view_of, KeepsTraces, ReadsThisValue, IsRead, trace_accesses, none_in, AreListedTo, AreSources}

module _ (s : ProgramSketch) (read : Event) where
  abbrev Gives : Event → Type 0
  Gives e = IsSourceOf s.program (mode_in s) s.chosen e read

  -- what was listed, and one event if it is a source
  abbrev IsPushed : List Event → Event → List Event → Type 0
  IsPushed old x new = (e : Event) → Contains new e ↔ (Contains old e ⊎ ((x ≡ e) × Gives e))

  abbrev IsInOrder : List Event → Event → List Event → Type 0
  IsInOrder old x new = AllPairs ComesBefore old → ((e : Event) → Contains old e → ComesBefore e x) → AllPairs ComesBefore new

  -- before an access come those before the one before it, and that one
  before_next : (t i : ℕ) (e : Event) → ComesBefore e (At t (i + 1)) → ComesBefore e (At t i) ⊎ (At t i ≡ e)
  before_next t i (Initial l) h = inl tt
  before_next t i (At u j) (inl less) = inl (inl less)
  before_next t i (At u j) (inr (same, less)) = elim (cases_eq j i) [
    | inl e ↦ inr ((λ k. At (sym same k) i) ∙ ap (At u) (sym e))
    | inr differ ↦ inl (inr (same, omega arith))
  ]

  next_before : (t i : ℕ) (e : Event) → ComesBefore e (At t i) → ComesBefore e (At t (i + 1))
  next_before t i (Initial l) h = tt
  next_before t i (At u j) (inl less) = inl less
  next_before t i (At u j) (inr (same, less)) = inr (same, omega arith)

  own_next : (t i : ℕ) → ComesBefore (At t i) (At t (i + 1))
  own_next t i = inr (refl, omega arith)

  pub one_more : (t i : ℕ) (old new : List Event) → AreListedTo s read t i old → IsPushed old (At t i) new → IsInOrder old (At t i) new → AreListedTo s read t (i + 1) new
  one_more t i old new is pushed ordered = record {
    exact = λ e. (
      λ h. elim ((pushed e).0 h) [
        | inl a ↦ (next_before t i e ((is.exact e).0 a).0, ((is.exact e).0 a).1)
        | inr b ↦ (subst (λ x. ComesBefore x (At t (i + 1))) b.0 (own_next t i), b.1)
      ],
      λ h. (pushed e).1 (elim (before_next t i e h.0) [ inl a ↦ inl ((is.exact e).1 (a, h.1)) | inr b ↦ inr (b, h.1) ]),
    );
    ordered = ordered is.ordered (λ e h. ((is.exact e).0 h).0);
  }

  -- an access that is no source is passed over
  pub passed_over : (t i : ℕ) (listed : List Event) → AreListedTo s read t i listed → (Gives (At t i) → ⊥) → AreListedTo s read t (i + 1) listed
  passed_over t i listed is none =
      one_more t i listed listed is (λ e. (inl, λ h. elim h [ inl a ↦ a | inr b ↦ absurd (none (subst Gives (sym b.0) b.1)) ])) (λ all before. all)

  -- no access of the thread that comes later is a source
  pub next_thread : (t i : ℕ) (listed : List Event) → AreListedTo s read t i listed → ((j : ℕ) → i ≤ j → Gives (At t j) → ⊥) → AreListedTo s read (t + 1) 0 listed
  next_thread t i listed is none = record {
    exact = λ e. (
      λ h. (all_before e ((is.exact e).0 h).0, ((is.exact e).0 h).1),
      λ h. (is.exact e).1 (before e h.0 h.1, h.1),
    );
    ordered = is.ordered;
  }
    where
      all_before : (e : Event) → ComesBefore e (At t i) → ComesBefore e (At (t + 1) 0)
      all_before (Initial l) h = tt
      all_before (At u j) (inl less) = inl (omega arith)
      all_before (At u j) (inr (same, less)) = inl (omega arith)

      before : (e : Event) → ComesBefore e (At (t + 1) 0) → Gives e → ComesBefore e (At t i)
      before (Initial l) h gives = tt
      before (At u j) (inr (same, less)) gives = absurd (omega arith)
      before (At u j) (inl less) gives = elim (cases_eq u t) [
        | inl e ↦ elim (cases_lt j i) [
          | inl l ↦ inr (e, l)
          | inr l ↦ absurd (none j l (subst (λ v. Gives (At v j)) e gives))
        ]
        | inr differ ↦ inl (omega arith)
      ]

  -- an access that is not there is no source
  pub past_gives : (t j : ℕ) → length (trace_in s t).accesses ≤ j → Gives (At t j) → ⊥
  past_gives t j past (x, v, at, reads, differ, (y, there, place, written)) =
      (let within = slice_get_within (trace_in s t).accesses j y there in omega arith)

  -- the first one that is listed is the initial write
  pub first_listed : (l v : ℕ) (none first : List Event) → ReadsThisValue s read l v → none ≡ [] → IsPushed none (Initial l) first → IsInOrder none (Initial l) first → AreListedTo s read 0 0 first
  first_listed l v none first (own, at_read, reads, place) empty pushed ordered = record {
    exact = λ e. (
      λ h. elim ((pushed e).0 h) [
        | inl a ↦ absurd (none_of e a)
        | inr b ↦ (subst (λ x. ComesBefore x (At 0 0)) b.0 tt, b.1)
      ],
      λ h. (pushed e).1 (inr (is_initial e h.0 h.1, h.1)),
    );
    ordered = ordered (subst (AllPairs ComesBefore) (sym empty) (λ i j d h less. absurd (omega arith))) (λ e h. absurd (none_of e h));
  }
    where
      none_of : (e : Event) → Contains none e → ⊥
      none_of e h = none_in e (subst (λ (es : List Event). Contains es e) empty h)

      is_initial : (e : Event) → ComesBefore e (At 0 0) → Gives e → Initial l ≡ e
      is_initial (At u j) (inl less) gives = absurd (omega arith)
      is_initial (At u j) (inr (same, less)) gives = absurd (omega arith)
      is_initial (Initial m) h (x, u, ax, rx, ne, (y, ay, loc, wr)) =
          let is : x ≡ own = same_Some x own (sym ax ∙ at_read) in
          let own_place : m ≡ y.location = ap (λ (w : Access). w.location) (same_Some _ y ay) in
          ap (λ n. Initial n) (sym (own_place ∙ loc ∙ ap (λ (w : Access). w.location) is ∙ place))

  -- after all threads each source is listed
  pub all_listed : (threads : ℕ) (listed : List Event) → IsRead s read → ((t : ℕ) → threads ≤ t → (trace_in s t).accesses ≡ []) → AreListedTo s read threads 0 listed → AreSources s read listed
  all_listed threads listed is_read past is = record {
    is_read = is_read;
    exact = λ e. (λ h. ((is.exact e).0 h).1, λ gives. (is.exact e).1 (before e gives, gives));
    ordered = is.ordered;
  }
    where
      before : (e : Event) → Gives e → ComesBefore e (At threads 0)
      before (Initial l) gives = tt
      before (At t j) gives = elim (cases_lt t threads) [
        | inl less ↦ inl less
        | inr beyond ↦ absurd (past_gives t j (let none = ap length (past t beyond) in omega arith) gives)
      ]

  -- an access that writes the value to the location is a source, unless it is the read itself
  pub other_gives : (l v t i : ℕ) (y : Access) (b : Bool) → slice_get (trace_in s t).accesses i ≡ Some y → ReadsThisValue s read l v → (y.location ≡ l) × (y.written ≡ Some v) →
      (IsTrue b ↔ (At t i ≡ read → ⊥)) → IsTrue b ↔ Gives (At t i)
  other_gives l v t i y b here (own, at_read, reads, place) (same_place, written) other = (
    λ is. (own, v, at_read, reads, other.0 is, (y, here, same_place ∙ sym place, written)),
    λ (x, u, ax, rx, ne, writes). other.1 ne,
  )

  -- an access that does not write the value to the location is no source
  pub unwritten_here : (l v t i : ℕ) (y : Access) → slice_get (trace_in s t).accesses i ≡ Some y → ReadsThisValue s read l v → ((y.location ≡ l) × (y.written ≡ Some v) → ⊥) → Gives (At t i) → ⊥
  unwritten_here l v t i y here (own, at_read, reads, place) none (x, u, ax, rx, ne, (z, az, loc, wr)) =
      let is : x ≡ own = same_Some x own (sym ax ∙ at_read) in
      let value : u ≡ v = same_Some u v (sym rx ∙ ap (λ (w : Access). w.read) is ∙ reads) in
      let one : y ≡ z = same_Some y z (sym here ∙ az) in
      none (ap (λ (w : Access). w.location) one ∙ loc ∙ ap (λ (w : Access). w.location) is ∙ place, ap (λ (w : Access). w.written) one ∙ wr ∙ ap Some value)

-- no access of a thread that does not write the value is a source
pub unwritten : (p : Listing) (mode : Mode) (thread_traces : List ThreadTrace) (sources pairs : List (Event × Event)) (kept : KeepsTraces p mode thread_traces sources pairs) (read : Event) (l v t : ℕ) (c : ThreadTrace) →
    slice_get thread_traces t ≡ Some c → ReadsThisValue (view_of p mode thread_traces sources pairs) read l v →
    ((i : ℕ) (x : Access) → slice_get c.accesses i ≡ Some x → x.location ≡ l → x.written ≡ Some v → ⊥) →
    (j : ℕ) → IsSourceOf p (mode_in (view_of p mode thread_traces sources pairs)) (view_of p mode thread_traces sources pairs).chosen (At t j) read → ⊥
unwritten p mode thread_traces sources pairs kept read l v t c here reads none j gives =
    let (x, u, ax, rx, ne, (y, ay, loc, wr)) = gives in
    unwritten_here (view_of p mode thread_traces sources pairs) read l v t j y ay reads
    (λ h. none j y (ap (λ xs. slice_get xs j) (sym (trace_accesses p mode thread_traces sources pairs kept t c here)) ∙ ay) h.0 h.1) gives
