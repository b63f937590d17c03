-- The rows of one thread's accesses, and these moved up to the numbers of all accesses.
use Rattle.known_edges.proofs.Vocabulary.{◌≡◌, ◌↔◌, ℕ, ◌+◌, ◌<◌, ◌≤◌, List, Some, slice_get, Bool, length, refl, sym, ap, ◌∙◌, subst, inl, inr, arith, cases_lt, slice_get_within, same_Some, IsIn, ROW_BITS, Access, Event, Initial, At, Kind, ThreadTrace, IsLaterIn}
use Rattle.known_edges.proofs.Vocabulary.{accesses_at, traced_access, AreAccesses, AreStarts, InOrder, IsRowOf, KeepsTraceNumbers, NumberedTraces}
use Rattle.program_sketches.proofs.KnownParts.{order_part}
use Rattle.known_edges.proofs.{Accesses.no_trace, Numbered.number_of, Numbered.contained}

-- the row has the accesses with indices below n that come after access i
abbrev pub IsLaterBelow : Kind → List Access → ℕ → ℕ → ℕ → Type 0
IsLaterBelow kind accesses i n row = (j : ℕ) → IsIn row j ↔ ((j < n) × IsLaterIn kind accesses i j)

module _ (thread_traces : List ThreadTrace) (events : List Event) (starts : List ℕ) (accesses : AreAccesses thread_traces events) (are : AreStarts events starts) (few : length events ≤ ROW_BITS) where
  -- the number of an access by that of another of its thread
  number_by : (d k t i j start : ℕ) → slice_get events d ≡ Some (At t i) → slice_get events k ≡ Some (At t j) → start + i ≡ d → start + j ≡ k
  number_by d k t i j start here there sum =
      let (first, at, one) = are d t i here in
      let (other, at_other, two) = are k t j there in
      let same : first ≡ other = same_Some first other (sym at ∙ at_other) in
      omega arith

  -- the row of an access, moved up by the start of its thread
  pub moved_up : (kind : Kind) (d t i start own row : ℕ) → slice_get events d ≡ Some (At t i) → start + i ≡ d → ((j : ℕ) → IsIn own j ↔ IsLaterIn kind (accesses_at thread_traces t) i j) →
      ((k : ℕ) → IsIn row k ↔ ((k < ROW_BITS) × ((j : ℕ) × IsIn own j × (start + j ≡ k)))) → IsRowOf events (InOrder thread_traces kind (At t i)) row
  moved_up kind d t i start own row here sum own_is row_is k = (
    λ h.
        let (low, (j, there, same)) = (row_is k).0 h in
        let (less, (x, y, of_x, of_y, kept)) = (own_is j).0 there in
        let (e, at) = number_of events (At t j) ((accesses.exact (At t j)).1 (slice_get_within _ j y of_y)) in
        let number : e ≡ k = (let also = number_by d e t i j start here at sum in omega arith) in
        (At t j, ap (slice_get events) (sym number) ∙ at, (x, y, of_x, of_y, (order_part kind (At t i) x (At t j) y).1 ((refl, less), kept))),
    λ (z, at, follows). back z at follows,
  )
    where
      back : (z : Event) → slice_get events k ≡ Some z → InOrder thread_traces kind (At t i) z → IsIn row k
      back (Initial l) at (x, y, of_x, of_y, o) = absurd ((order_part kind (At t i) x (Initial l) y).0 o).0
      back (At u j) at (x, y, of_x, of_y, o) =
          let ((same, less), kept) = (order_part kind (At t i) x (At u j) y).0 o in
          let also = number_by d k t i j start here (subst (λ v. slice_get events k ≡ Some (At v j)) (sym same) at) sum in
          (row_is k).1 (
            (let within = slice_get_within events k (At u j) at in omega arith),
            (j, (own_is j).1 (less, (x, y, of_x, subst (λ v. traced_access thread_traces (At v j) ≡ Some y) (sym same) of_y, kept)), also),
          )

-- where an access with a number stands: in a thread that is there, from whose start the numbers go on
pub record IsPlaced (thread_traces : List ThreadTrace) (events : List Event) (d t i : ℕ) : Type 0 where
  pub here : slice_get events d ≡ Some (At t i)
  pub accesses : AreAccesses thread_traces events
  pub there : t < length thread_traces
  pub within : i < length (accesses_at thread_traces t)
  pub short : length (accesses_at thread_traces t) ≤ ROW_BITS
  pub start : ℕ
  pub sum : start + i ≡ d
  pub low : d < ROW_BITS

pub placed : (thread_traces : List ThreadTrace) (events : List Event) (whole : Bool) (starts counts written : List ℕ) (x : NumberedTraces) (d t i : ℕ) (e : Event) →
    KeepsTraceNumbers thread_traces events whole starts counts written → record { thread_traces = thread_traces; events = events } ≡ x → slice_get x.events d ≡ Some e → e ≡ At t i → IsPlaced thread_traces events d t i
placed thread_traces events whole starts counts written x d t i e keeps is at same =
    let here : slice_get events d ≡ Some (At t i) = ap (λ (y : NumberedTraces). slice_get y.events d) is ∙ at ∙ ap Some same in
    let has = contained events (At t i) (d, here) in
    let (start, at_start, sum) = keeps.starts_are d t i here in
    let few = keeps.numbered.few in
    let within = slice_get_within events d (At t i) here in
    let accesses = keeps.numbered.not_some (At t i) has in
    record {
      here = here;
      accesses = accesses;
      within = keeps.numbered.of_threads (At t i) has;
      short = elim (cases_lt ROW_BITS (length (accesses_at thread_traces t))) [
        | inl more ↦ absurd
            (let (k, at_k) = number_of events (At t ROW_BITS) ((accesses.exact (At t ROW_BITS)).1 more) in
            let (first, there, sum_k) = keeps.starts_are k t ROW_BITS at_k in
            let inside = slice_get_within events k (At t ROW_BITS) at_k in
            omega arith)
        | inr few ↦ omega arith
      ];
      there = elim (cases_lt t (length thread_traces)) [ inl l ↦ l | inr g ↦ absurd (no_trace thread_traces t i g (keeps.numbered.of_threads (At t i) has)) ];
      start = start;
      sum = sum;
      low = omega arith;
    }
