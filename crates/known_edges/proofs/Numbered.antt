-- Accesses by number: what the rows of a sketch say of its events.
use Rattle.known_edges.proofs.Vocabulary.{◌≡◌, ◌↔◌, ℕ, Bool, IsTrue, List, [], Option, Some, None, Contains, slice_get, get_or, length, refl, sym, ap, ◌∙◌, subst, inl, inr, ◌≤◌, arith, option_map_or, slice_get_within, slice_get-get_or, get_or_from_slice_get}
use Rattle.known_edges.proofs.Vocabulary.{same_Some, IsIn, RowHas, MAX_THREADS, MAX_INSTRUCTIONS, Listing, Access, Event, Initial, At, Kind, ComesBefore, IsOfMode, Mode, Sequential, Fenced, ThreadTrace, machine_of_mode, ProgramSketch, mode_in}
use Rattle.known_edges.proofs.Vocabulary.{access_in, view_of, HasValuesFirst, KeepsTraces, IsInitialWrite, accesses_at, IsOfThreads, AreAccesses, FitRow, AreRowsOf, HasWrites, main_kind, union_rows, of_some}
use Rattle.known_edges.proofs.Vocabulary.{slice_index, Writes, IsAccess, IsWhole, given_to, IsOrdered}
use Rattle.candidate_executions.specs.declared.event.Kind.TheVariants as union
use Rattle.program_sketches.proofs.Traced.{is_access, access_same}
use Rattle.program_sketches.specs.Writes.{HasLater, IsLastWith}
use Rattle.program_sketches.proofs.{ChoicesCounted.few_accesses}
use Rattle.known_edges.proofs.Connected.{HasNumber}
use Rattle.program_sketches.proofs.BranchesCounted.{not_before_itself}

-- what stands in the rows at two numbers
pub at_numbers : (events : List Event) (R : Event → Event → Type 0) (rows : List ℕ) (d e : ℕ) (x y : Event) → AreRowsOf events R rows →
    slice_get events d ≡ Some x → slice_get events e ≡ Some y → RowHas rows d e ↔ R x y
at_numbers events R rows d e x y are at to_at = (
  λ h. (let (a, b, at_a, at_b, r) = (are d e).0 h in
      subst (λ z. R z y) (same_Some a x (sym at_a ∙ at)) (subst (λ z. R a z) (same_Some b y (sym at_b ∙ to_at)) r)),
  λ r. (are d e).1 (x, y, at, to_at, r),
)

-- what is contained has a number
pub number_of : (events : List Event) (x : Event) → Contains events x → HasNumber events x
number_of events x (k, l, q) = (k, slice_get-get_or events k x l ∙ ap Some q)

pub contained : (events : List Event) (x : Event) → HasNumber events x → Contains events x
contained events x (k, at) = (k, slice_get_within events k x at, get_or_from_slice_get events k x x at)

-- the rows of a union of the mode
pub rows_of_kind : (p : Listing) (mode : Mode) (kind : Kind) (events : List Event) (R : Kind → Event → Event → Type 0) (main global : List ℕ) → IsOfMode (machine_of_mode p mode) kind →
    AreRowsOf events (R (main_kind mode)) main → AreRowsOf events (R union.Global) global → AreRowsOf events (R kind) (union_rows kind main global)
rows_of_kind p Sequential union.Location events R main global of_mode a b = absurd of_mode
rows_of_kind p (Fenced gaps) union.Sequential events R main global of_mode a b = absurd of_mode
rows_of_kind p mode union.Global events R main global of_mode a b = b
rows_of_kind p mode kind events R main global of_mode a b = a

module _ (p : Listing) (mode : Mode) (thread_traces : List ThreadTrace) (sources pairs : List (Event × Event)) (kept : KeepsTraces p mode thread_traces sources pairs) where
  abbrev s : ProgramSketch
  s = view_of p mode thread_traces sources pairs

  -- a write that is not the initial one is an access
  writes_access : (e : Event) (l v : ℕ) → Writes (access_in s) e l v → (e ≡ Initial l → ⊥) → IsAccess s.program (mode_in s) (given_to s.chosen) e
  writes_access (Initial m) l v w other = absurd (other (ap (λ n. Initial n) (ap (λ (x : Access). x.location) (same_Some _ w.0 w.1) ∙ w.2)))
  writes_access (At t i) l v w other = slice_get_within _ i w.0 w.1

  -- the threads are few
  pub courses_few : length thread_traces ≤ MAX_THREADS
  courses_few = let same = kept.one_each in let few = kept.lawful.within.shared.few_threads in omega arith

  -- no thread has many accesses
  pub courses_short : (t : ℕ) → length (accesses_at thread_traces t) ≤ MAX_INSTRUCTIONS
  courses_short t = go (slice_get thread_traces t) refl
    where
      go : (o : Option ThreadTrace) → slice_get thread_traces t ≡ o → length (accesses_at thread_traces t) ≤ MAX_INSTRUCTIONS
      go (Some c) e = let short = (kept.traces_are t c e).few in let same = ap (λ q. length (option_map_or (λ (x : ThreadTrace). x.accesses) q [])) e in omega arith
      go None e = let same = ap (λ q. length (option_map_or (λ (x : ThreadTrace). x.accesses) q [])) e in omega arith

  -- accesses that come by thread and index are few
  pub fit_row : FitRow thread_traces
  fit_row events ordered each =
      let few = (few_accesses s kept.lawful events (λ i j d h l same. not_before_itself _ (subst (λ e. ComesBefore e (get_or events j d)) same (ordered i j d h l)))
      (λ e has. (is_access p mode thread_traces sources pairs kept e).1 (each e has))).few in
      omega arith

  module _ (events : List Event) (accesses : AreAccesses thread_traces events) where
    pub access_number : (e : Event) → IsAccess s.program (mode_in s) (given_to s.chosen) e → HasNumber events e
    access_number e h = number_of events e ((accesses.exact e).1 ((is_access p mode thread_traces sources pairs kept e).0 h))

  -- both writes of a chosen pair have numbers
  pub chosen_numbers : (events : List Event) → HasValuesFirst s → (IsWhole s.program (mode_in s) s.chosen → AreAccesses thread_traces events) → (d e : Event) → Contains pairs (d, e) → HasNumber events d × HasNumber events e
  chosen_numbers events first all d e h =
      let (l, v, u, w, w2, a, b) = (kept.lawful.is_sketch.pairs d e h).1 in
      let accesses = all (first.whole d e (inr h)) in
      (access_number events accesses d (writes_access d l v w a), access_number events accesses e (writes_access e l u w2 b))

  -- so have two writes that are in order
  pub ordered_numbers : (events : List Event) → HasValuesFirst s → (IsWhole s.program (mode_in s) s.chosen → AreAccesses thread_traces events) → (d e : Event) → IsOrdered s d e → HasNumber events d × HasNumber events e
  ordered_numbers events first all d e (inl h) = chosen_numbers events first all d e h
  ordered_numbers events first all d e (inr h) = let numbers = chosen_numbers events first all e d h in (numbers.1, numbers.0)

  -- the row of an event has a number where a pair puts a write after the event
  pub later_test : (events : List Event) (later : List ℕ) (d : ℕ) (x : Event) (b : Bool) → HasValuesFirst s → (IsWhole s.program (mode_in s) s.chosen → AreAccesses thread_traces events) → AreRowsOf events (λ d e. Contains pairs (d, e)) later →
      slice_get events d ≡ Some x → (IsTrue b ↔ ((k : ℕ) × IsIn (slice_index later d) k)) → IsTrue b ↔ HasLater s x
  later_test events later d x b first all rows at test = (
    λ t.
        let (k, there) = test.0 t in
        let (y, z, at_y, at_z, chosen) = (rows d k).0 there in
        (z, subst (λ e. Contains pairs (e, z)) (same_Some y x (sym at_y ∙ at)) chosen),
    λ (z, chosen).
        let (k, at_k) = (chosen_numbers events first all x z chosen).1 in
        test.1 (k, (at_numbers events (λ d e. Contains pairs (d, e)) later d k x z rows at at_k).1 chosen),
  )

  -- an access outside the row of the writes is the last write of no location
  pub never_last : (events : List Event) (row d : ℕ) (x : Event) → HasWrites thread_traces events row → IsOfThreads thread_traces x → slice_get events d ≡ Some x → (IsIn row d → ⊥) → (l v : ℕ) → IsLastWith s l v x → ⊥
  never_last events row d x holds own at none l v last =
      let w = last.0 in
      none (holds l d x at (w.0, access_same p mode thread_traces sources pairs kept x own ∙ w.1, w.2, of_some w.0.written v w.3))

  -- the numbered events are the accesses, once each read has its value
  pub number_exact : (events : List Event) → AreAccesses thread_traces events → (e : Event) → Contains events e ↔ IsAccess s.program (mode_in s) (given_to s.chosen) e
  number_exact events accesses e = (λ h. (is_access p mode thread_traces sources pairs kept e).1 ((accesses.exact e).0 h), λ h. (accesses.exact e).1 ((is_access p mode thread_traces sources pairs kept e).0 h))

-- an event with a number is an access
pub number_access : (thread_traces : List ThreadTrace) (events : List Event) → ((e : Event) → Contains events e → IsOfThreads thread_traces e) → (e : Event) → HasNumber events e → IsOfThreads thread_traces e
number_access thread_traces events of_threads e h = of_threads e (contained events e h)

pub number_own : (thread_traces : List ThreadTrace) (e : Event) → IsOfThreads thread_traces e → IsInitialWrite e → ⊥
number_own thread_traces (Initial l) h i = h
number_own thread_traces (At t j) h i = i
