-- How many choices a sketch has, and how many it has at most.
use Rattle.program_sketches.proofs.Vocabulary.{◌≡◌, ◌≢◌, ℕ, ◌*◌, ◌≤◌, List, [], ◌∷◌, ◌++◌, Some, None, map, length, Contains, sum_by, ap, ◌∙◌, subst, inl, inr, arith, AllPairs, remove, length-map, length-append, take_all, get_or-le-sum_by, same_Some}
use Rattle.program_sketches.proofs.Vocabulary.{slice_get_within, get_or_from_slice_get, cases_lt, Contains-append_left, Contains-append_right, Access, Event, Initial, At, ProgramSketch, mode_in, trace_in, access_in, IsLawful, AreOtherTwo, IsAccess, accesses_of}
use Rattle.program_sketches.proofs.Vocabulary.{get_some, first_or_later, first_is_here, later_is_here, mapped, choice_count, most_choices, stays, first_pairs, later_pairs, few_of, rows, rows_many, code_there, all_events, all_events_few, all_events_has}
use Rattle.program_sketches.proofs.Vocabulary.{MAX_ACCESSES, given_to}
use Rattle.std.proofs.lemmas.List.Edits.{length-remove}
use Rattle.program_sketches.specs.FewAccesses.{HasSmallNumbers, AreFewAccesses}
use Rattle.program_sketches.proofs.Traced.{none_past}
use Rattle.thread_traces.proofs.AccessesCounted.{given_few}

abbrev Two : Type 0
Two = Event × Event

abbrev turned : Two → Two
turned a = (a.1, a.0)

-- pairs that are of different two, each in a list in both orders, are no more than half of the list
two_each : (xs ys : List Two) → AllPairs AreOtherTwo xs → ((a : Two) → Contains xs a → a ≢ turned a) → ((a : Two) → Contains xs a → Contains ys a × Contains ys (turned a)) → 2 * length xs ≤ length ys
two_each [] ys differ real within = omega arith
two_each (x ∷ xs) ys differ real within =
    let here = first_is_here x xs in
    let (i, h, at) = (within x here).0 in
    let fewer = length-remove ys i h in
    let left : Contains (remove ys i) (turned x) = stays ys i x (turned x) h at (within x here).1 (real x here) in
    let (j, l, there) = left in
    let fewest = length-remove (remove ys i) j l in
    let still : (z : Two) → Contains ys z → x ≢ z → turned x ≢ z → Contains (remove (remove ys i) j) z =
    λ z has not_first not_turned. stays (remove ys i) j (turned x) z l there (stays ys i x z h at has not_first) not_turned in
    let rest = two_each xs (remove (remove ys i) j) (later_pairs AreOtherTwo x xs differ) (λ a has. real a (later_is_here x xs a has))
    (λ a has. (let other = first_pairs AreOtherTwo x xs a differ has in let both = within a (later_is_here x xs a has) in (
      still a both.0 other.0 (λ same. other.1 (ap turned same)),
      still (turned a) both.1 other.1 (λ same. other.0 (ap turned same)),
    ))) in
    omega arith

-- each of one list with each of another
abbrev with_each : Event → Event → Two
with_each x y = (x, y)

abbrev products : List Event → List Event → List Two
products [] ys = []
products (x ∷ xs) ys = map (with_each x) ys ++ products xs ys

products_has : (xs ys : List Event) (x y : Event) → Contains xs x → Contains ys y → Contains (products xs ys) (x, y)
products_has [] ys x y (k, h, e) there = absurd (omega arith)
products_has (z ∷ xs) ys x y here there = elim (first_or_later z xs x here) [
  | inl same ↦ Contains-append_left (map (with_each z) ys) (products xs ys) (x, y) (subst (λ (u : Event). Contains {X = Two} (map (with_each z) ys) (u, y)) same (mapped (with_each z) ys y there))
  | inr later ↦ Contains-append_right (map (with_each z) ys) (products xs ys) (x, y) (products_has xs ys x y later there)
]

products_few : (xs ys : List Event) → length ys ≤ MAX_ACCESSES → length (products xs ys) ≤ length xs * MAX_ACCESSES
products_few [] ys h = omega arith
products_few (x ∷ xs) ys h =
    let rest = products_few xs ys h in
    let long = length-append (map (with_each x) ys) (products xs ys) in
    let same = length-map ys (with_each x) in
    omega arith

module _ (s : ProgramSketch) (lawful : IsLawful s) where
  abbrev pub counts : ℕ → ℕ
  counts t = length (trace_in s t).accesses

  -- the accesses of the sketch
  abbrev pub events : List Event
  events = all_events s.program (mode_in s) (given_to s.chosen) lawful.within

  pub events_few : length events ≤ MAX_ACCESSES
  events_few = all_events_few s.program (mode_in s) (given_to s.chosen) lawful.within

  -- an access of a thread is one of them
  pub events_has : (t i : ℕ) (x : Access) → access_in s (At t i) ≡ Some x → Contains events (At t i)
  events_has t i x at = all_events_has s.program (mode_in s) (given_to s.chosen) lawful.within t i (slice_get_within (trace_in s t).accesses i x at)

  event_has : (e : Event) → IsAccess s.program (mode_in s) (given_to s.chosen) e → Contains events e
  event_has (Initial l) h = absurd h
  event_has (At t i) h = (let (x, at) = get_some (trace_in s t).accesses i h in events_has t i x at)

  -- and has small numbers
  pub event_small : (e : Event) → IsAccess s.program (mode_in s) (given_to s.chosen) e → HasSmallNumbers e
  event_small (Initial l) h = h
  event_small (At t i) h = elim (cases_lt t (length s.program.threads)) [
    | inr past ↦ absurd (none_past s t i past h)
    | inl there ↦
        (let (x, at) = get_some s.program.threads t there in
        let few = code_there s.program (mode_in s) (given_to s.chosen) lawful.within t x at in
        let one = get_or-le-sum_by accesses_of s.program.threads t x there in
        let same = ap accesses_of (get_or_from_slice_get s.program.threads t x x at) in
        let limit = lawful.within.shared.few_accesses in
        let threads = lawful.within.shared.few_threads in
        (omega arith, omega arith))
  ]

  -- so different accesses are few
  pub few_accesses : (es : List Event) → AllPairs (λ d e. d ≢ e) es → ((e : Event) → Contains es e → IsAccess s.program (mode_in s) (given_to s.chosen) e) → AreFewAccesses s es
  few_accesses es differ are = record {
    few = (let few = few_of (λ e. e) es events differ (λ e has. event_has e (are e has)) in let limit = events_few in omega arith);
    accesses = are;
    small = λ e has. event_small e (are e has);
  }

  read_has : (e : Event) (x : Access) (v : ℕ) → access_in s e ≡ Some x → x.read ≡ Some v → Contains events e
  read_has (Initial l) x v at reads = (let is = same_Some _ x at in let no : None ≡ Some v = ap (λ (y : Access). y.read) is ∙ reads in absurd cc)
  read_has (At t i) x v at reads = events_has t i x at

  write_has : (e : Event) (x : Access) (l : ℕ) → access_in s e ≡ Some x → x.location ≡ l → e ≢ Initial l → Contains events e
  write_has (Initial m) x l at there not_initial = (let is = same_Some _ x at in absurd (not_initial (ap Initial (ap (λ (y : Access). y.location) is ∙ there))))
  write_has (At t i) x l at there not_initial = events_has t i x at

  given_fewer : sum_by length s.chosen.given ≤ MAX_ACCESSES
  given_fewer =
      let many = rows_many counts s.chosen.given (λ t. given_few s.program (mode_in s) (given_to s.chosen) t (lawful.is_sketch.used t)) (length s.chosen.given) (omega arith) in
      let all = ap (λ xs. sum_by length xs) (take_all (length s.chosen.given) s.chosen.given (omega arith)) in
      let same = ap (λ n. length (rows counts n)) lawful.is_sketch.each_thread in
      let few = events_few in
      omega arith

  sources_few : length s.chosen.sources ≤ MAX_ACCESSES
  sources_few =
      let few = few_of (λ (a : Two). a.0) s.chosen.sources events lawful.one_source
      (λ a has. (let (x, v, at, reads, differ, writes) = lawful.is_sketch.sources a.0 a.1 has in read_has a.0 x v at reads)) in
      let limit = events_few in
      omega arith

  pairs_few : 2 * length s.chosen.pairs ≤ MAX_ACCESSES * MAX_ACCESSES
  pairs_few =
      let few = two_each s.chosen.pairs (products events events) lawful.one_order
      (λ a has same. (lawful.is_sketch.pairs a.0 a.1 has).0 (ap (λ (b : Two). b.0) same))
      (λ a has. (let (differ, (l, v, w, first, second, not_first, not_second)) = lawful.is_sketch.pairs a.0 a.1 has in
      let one = write_has a.0 first.0 l first.1 first.2 not_first in
      let other = write_has a.1 second.0 l second.1 second.2 not_second in (
        products_has events events a.0 a.1 one other,
        products_has events events a.1 a.0 other one,
      ))) in
      let limit = events_few in
      let most = products_few events events limit in
      omega arith

  -- so there are no more choices
  pub choices_few : choice_count s ≤ most_choices
  choices_few =
      let a = given_fewer in
      let b = sources_few in
      let c = pairs_few in
      omega arith
