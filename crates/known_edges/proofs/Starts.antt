-- The numbers of accesses: the start of a thread, and an index in it.
use Rattle.known_edges.proofs.Vocabulary.{◌≡◌, ◌↔◌, ◌⊎◌, ℕ, ◌+◌, ◌<◌, ◌≤◌, List, [], ◌∷◌, ◌++◌, Some, Contains, slice_get, set, length, refl, sym, ap, ◌∙◌, inl, inr, arith, AllPairs, cases_lt, cases_eq, slice_get_within, same_Some, IsIn, none_in_zero, Event}
use Rattle.known_edges.proofs.Vocabulary.{Initial, At, get_cases, get_set_same, get_set_other, ComesBefore, ThreadTrace, IsRowOf, AreAccesses, AreBeyond, AreCounts, AreNumbered, AreStarts, FitRow, IsEarly, IsOfThreads}
use Rattle.program_sketches.proofs.BranchesCounted.{not_before_itself}
use Rattle.known_edges.proofs.{Accesses.IsBelow, InThreadOrder.before_in, Numbered.number_of, Numbered.contained}

-- traces of which each read has a value get all numbers
pub numbered_all : (thread_traces : List ThreadTrace) (events : List Event) → FitRow thread_traces → AreAccesses thread_traces events → AreNumbered thread_traces events
numbered_all thread_traces events fit accesses = record {
  all = λ ends. accesses;
  not_some = λ e h. accesses;
  of_threads = λ e h. (accesses.exact e).0 h;
  ordered = accesses.ordered;
  few = fit events accesses.ordered (λ e h. (accesses.exact e).0 h);
}

-- one access more of thread t
pub beyond_more : (old new : List Event) (t i : ℕ) → length new ≡ length old + i → AreBeyond old t new → AreBeyond old t (new ++ At t i ∷ [])
beyond_more old new t i long beyond d u j at = elim (get_cases new (At t i) d (At u j) at) [
  | inl a ↦ beyond d u j a
  | inr (place, same) ↦ (let thread : u ≡ t = cc in let index : j ≡ i = cc in inr (thread, omega arith))
]

-- one thread more
pub starts_more : (thread_traces : List ThreadTrace) (old next : List Event) (t start : ℕ) (starts : List ℕ) → ((e : Event) → Contains old e → IsBelow thread_traces t e) → t < length starts →
    start ≡ length old → AreStarts old starts → AreBeyond old t next → AreStarts next (set starts t start)
starts_more thread_traces old next t start starts below inside here are beyond d u i at = elim (beyond d u i at) [
  | inl a ↦ (let (first, there, sum) = are d u i a in
      let earlier = (below (At u i) (contained old (At u i) (d, a))).0 in
      (first, get_set_other starts t start u (λ same. absurd (omega arith)) ∙ there, sum))
  | inr (same, sum) ↦ (start, ap (slice_get (set starts t start)) same ∙ get_set_same starts t start inside, omega arith)
]

-- one thread more
pub counts_more : (thread_traces : List ThreadTrace) (old next : List Event) (t count : ℕ) (counts : List ℕ) → ((e : Event) → Contains old e → IsBelow thread_traces t e) → t < length counts →
    AreCounts old counts → ((e : Event) → Contains next e ↔ (Contains old e ⊎ IsEarly t count e)) → AreCounts next (set counts t count)
counts_more thread_traces old next t count counts below inside are exact u i = elim (cases_eq u t) [
  | inl same ↦ (
    λ h. elim ((exact (At u i)).0 h) [
      | inl a ↦ absurd (let earlier = (below (At u i) a).0 in omega arith)
      | inr (is, less) ↦ (count, ap (slice_get (set counts t count)) same ∙ get_set_same counts t count inside, less)
    ],
    λ (n, at, less). (let here : n ≡ count = same_Some n count (sym at ∙ ap (slice_get (set counts t count)) same ∙ get_set_same counts t count inside) in
        (exact (At u i)).1 (inr (same, omega arith))),
  )
  | inr other ↦ (
    λ h. elim ((exact (At u i)).0 h) [
      | inl a ↦ (let (n, at, less) = (are u i).0 a in (n, get_set_other counts t count u other ∙ at, less))
      | inr (is, less) ↦ absurd (other is)
    ],
    λ (n, at, less). (exact (At u i)).1 (inl ((are u i).1 (n, sym (get_set_other counts t count u other) ∙ at, less))),
  )
]

module _ (events : List Event) (starts counts : List ℕ) (t i : ℕ) (starts_are : AreStarts events starts) (counts_are : AreCounts events counts) where
  -- the number of an access is the start of its thread and its index
  pub number_at : (start count : ℕ) → slice_get starts t ≡ Some start → slice_get counts t ≡ Some count → i < count → (start + i < length events) × (slice_get events (start + i) ≡ Some (At t i))
  number_at start count here there less =
      let (d, at) = number_of events (At t i) ((counts_are t i).1 (count, there, less)) in
      let (first, at_start, sum) = starts_are d t i at in
      let same : first ≡ start = same_Some first start (sym at_start ∙ here) in
      let number : d ≡ start + i = omega arith in
      let is = ap (slice_get events) (sym number) ∙ at in
      (slice_get_within events (start + i) (At t i) is, is)

  -- what is past a thread's count has no number
  pub past_count : (count : ℕ) → slice_get counts t ≡ Some count → count ≤ i → Contains events (At t i) → ⊥
  past_count count there past has =
      let (n, at, less) = (counts_are t i).0 has in
      let same : n ≡ count = same_Some n count (sym at ∙ there) in
      omega arith

-- the row of one number
pub row_of_number : (events : List Event) (e : Event) (number row : ℕ) → slice_get events number ≡ Some e → ((d : ℕ) → slice_get events d ≡ Some e → d ≡ number) →
    ((k : ℕ) → IsIn row k ↔ (IsIn 0 k ⊎ (k ≡ number))) → IsRowOf events (λ x. x ≡ e) row
row_of_number events e number row at only one d = (
  λ h. elim ((one d).0 h) [
    | inl z ↦ absurd (none_in_zero d z)
    | inr same ↦ (e, ap (slice_get events) same ∙ at, refl)
  ],
  λ (x, there, same). (one d).1 (inr (only d (there ∙ ap (λ z. Some z) same))),
)

-- no initial write has a number
pub no_initial : (thread_traces : List ThreadTrace) (events : List Event) (l : ℕ) → ((e : Event) → Contains events e → IsOfThreads thread_traces e) → Contains events (Initial l) → ⊥
no_initial thread_traces events l of_threads has = of_threads (Initial l) has

-- an event has one number
pub same_number : (events : List Event) (ordered : AllPairs ComesBefore events) (d k : ℕ) (e : Event) → slice_get events d ≡ Some e → slice_get events k ≡ Some e → d ≡ k
same_number events ordered d k e at to_at = elim (cases_lt d k) [
  | inl l ↦ absurd (not_before_itself e (before_in events ordered d k e e l at to_at))
  | inr g ↦ elim (cases_lt k d) [ inl l ↦ absurd (not_before_itself e (before_in events ordered k d e e l to_at at)) | inr h ↦ omega arith ]
]
