-- A location has few values, and a read few sources.
use Rattle.program_sketches.proofs.Vocabulary.{◌≡◌, ℕ, zero, suc, ◌+◌, ◌-◌, ◌*◌, ◌<◌, ◌≤◌, List, [], ◌∷◌, ◌++◌, Some, map, length, slice_get, get_or, Contains, sym, ap, ◌∙◌, subst, inl, inr, arith, sum_by-cons, unwrap_or, AllPairs, length-map, length-append}
use Rattle.program_sketches.proofs.Vocabulary.{Contains-append_left, Contains-append_right, slice_get_within, get_or_from_slice_get, same_Some, Instr, Thread, Listing, IsWithinLimits, Access, Event, Initial, At, ComesBefore, first_is_here, later_is_here, mapped}
use Rattle.program_sketches.proofs.Vocabulary.{few_of, all_events, all_events_few, all_events_has, gaps_of_thread, gap_count, instr_at, start_of, access_by, Sketch, given_to, IsSourceOf, IsKnown, IsValueOf, HaveAllRegisters, most_values, most_sources}
use Rattle.std.specs.List.Sorted.{IsStrictlyIncreasing}
use Rattle.std.proofs.lemmas.List.Kept.{AllPairs-from_increasing}
use Rattle.tso_machine.specs.Machine.{Machine}
use Rattle.thread_traces.specs.Immediates.{any_number}
use Rattle.thread_traces.proofs.KnownValues.{known_all}
use Rattle.tso_program.specs.declared.instruction.TheConstants.{REGISTERS}
use Rattle.candidate_executions.proofs.FromRuns.KnownValues.{known_value}

-- an instruction's number, 0 where it has none
abbrev number_or_zero : Instr → ℕ
number_or_zero x = unwrap_or (any_number x) 0

-- the numbers of the threads' instructions, and the initial values of their registers
abbrev constants : List Thread → List ℕ
constants [] = []
constants (thread ∷ threads) = (map number_or_zero thread.code ++ thread.registers) ++ constants threads

-- a thread has one instruction more than gaps
one_more : (n : ℕ) → n ≤ (n - 1) + 1
one_more zero = omega arith
one_more (suc n) = omega arith

constants_few : (threads : List Thread) → HaveAllRegisters threads → length (constants threads) ≤ gap_count threads + (REGISTERS + 1) * length threads
constants_few [] six = omega arith
constants_few (thread ∷ threads) six =
    let rest = constants_few threads (λ t h. six (suc t) (omega arith)) in
    let here : length thread.registers ≡ REGISTERS = six 0 (omega arith) in
    let numbers = length-map thread.code number_or_zero in
    let own = length-append (map number_or_zero thread.code) thread.registers in
    let all = length-append (map number_or_zero thread.code ++ thread.registers) (constants threads) in
    let gaps = sum_by-cons gaps_of_thread thread threads in
    let code = one_more (length thread.code) in
    omega arith

-- what stands in a list is in it
stands : {A : Type 0} (xs : List A) (k : ℕ) (x : A) → slice_get xs k ≡ Some x → Contains xs x
stands xs k x at = (k, slice_get_within xs k x at, get_or_from_slice_get xs k x x at)

constants_number : (threads : List Thread) (t k v : ℕ) (x : Instr) → instr_at threads t k ≡ Some x → any_number x ≡ Some v → Contains (constants threads) v
constants_number [] t k v x at is = absurd cc
constants_number (thread ∷ threads) zero k v x at is =
    let here = mapped number_or_zero thread.code x (stands thread.code k x at) in
    let same : number_or_zero x ≡ v = ap (λ o. unwrap_or o 0) is in
    Contains-append_left (map number_or_zero thread.code ++ thread.registers) (constants threads) v
    (Contains-append_left (map number_or_zero thread.code) thread.registers v (subst (Contains (map number_or_zero thread.code)) same here))
constants_number (thread ∷ threads) (suc t) k v x at is =
    Contains-append_right (map number_or_zero thread.code ++ thread.registers) (constants threads) v (constants_number threads t k v x at is)

constants_register : (threads : List Thread) (t v : ℕ) → t < length threads → Contains (start_of threads t).registers v → Contains (constants threads) v
constants_register [] t v h has = absurd (omega arith)
constants_register (thread ∷ threads) zero v h has =
    Contains-append_left (map number_or_zero thread.code ++ thread.registers) (constants threads) v (Contains-append_right (map number_or_zero thread.code) thread.registers v has)
constants_register (thread ∷ threads) (suc t) v h has =
    Contains-append_right (map number_or_zero thread.code ++ thread.registers) (constants threads) v (constants_register threads t v (omega arith) has)

module _ (p : Listing) where
  -- 0, the initial values of the locations, and what the threads have
  abbrev all_constants : List ℕ
  all_constants = 0 ∷ (p.memory ++ constants p.threads)

  constant_here : (v : ℕ) → Contains (constants p.threads) v → Contains all_constants v
  constant_here v has = later_is_here 0 (p.memory ++ constants p.threads) v (Contains-append_right p.memory (constants p.threads) v has)

  known_here : (v : ℕ) → IsKnown p v → Contains all_constants v
  known_here v known = elim ((known_all p (length p.threads) v (omega arith)).1 known) [
    | inl (inl z) ↦ subst (Contains all_constants) (sym z) (first_is_here 0 (p.memory ++ constants p.threads))
    | inl (inr (inl (t, h, (k, x, at, is)))) ↦ constant_here v (constants_number p.threads t k v x at is)
    | inl (inr (inr (t, h, has))) ↦ constant_here v (constants_register p.threads t v h has)
    | inr has ↦ later_is_here 0 (p.memory ++ constants p.threads) v (Contains-append_left p.memory (constants p.threads) v has)
  ]

  -- so different values of a location are few
  pub few_values : (l : ℕ) (values : List ℕ) → IsWithinLimits p.threads p.memory → HaveAllRegisters p.threads → IsStrictlyIncreasing values → ((v : ℕ) → Contains values v → IsValueOf p l v) →
      length values ≤ most_values
  few_values l values within six ascending are =
      let rises = AllPairs-from_increasing values ascending in
      let few = few_of (λ v. v) values all_constants (λ i j d h k same. (let less = rises i j d h k in omega arith)) (λ v has. known_here v (known_value p l v (are v has))) in
      let long = length-append p.memory (constants p.threads) in
      let threads = constants_few p.threads six in
      let gaps = within.few_gaps in
      let most = within.shared.few_threads in
      let locations = within.shared.few_locations in
      omega arith

-- no event comes before itself
pub not_before_itself : (e : Event) → ComesBefore e e → ⊥
not_before_itself (At t i) (inr h) = let less = h.1 in omega arith
not_before_itself e g = omega arith

module _ (p : Listing) (mode : Machine) (k : Sketch) (read : Event) (within : IsWithinLimits p.threads p.memory) where
  -- a source is the initial write of the read's location, or an access
  source_here : (x : Access) → access_by p mode (given_to k) read ≡ Some x → (source : Event) → IsSourceOf p mode k source read → Contains (Initial x.location ∷ all_events p mode (given_to k) within) source
  source_here x at (Initial l) (y, v, there, reads, differ, w) =
      let location : l ≡ x.location = ap (λ (z : Access). z.location) (same_Some _ w.0 w.1) ∙ w.2 ∙ ap (λ (z : Access). z.location) (same_Some y x (sym there ∙ at)) in
      subst (λ m. Contains (Initial x.location ∷ all_events p mode (given_to k) within) (Initial m)) (sym location) (first_is_here (Initial x.location) (all_events p mode (given_to k) within))
  source_here x at (At t i) (y, v, there, reads, differ, w) =
      later_is_here (Initial x.location) (all_events p mode (given_to k) within) (At t i) (all_events_has p mode (given_to k) within t i (slice_get_within _ i w.0 w.1))

  -- so different sources of a read are few
  pub few_sources : (sources : List Event) → AllPairs ComesBefore sources → ((source : Event) → Contains sources source → IsSourceOf p mode k source read) → length sources ≤ most_sources
  few_sources [] ordered are = omega arith
  few_sources (first ∷ sources) ordered are =
      let (x, v, at, reads, differ, w) = are first (first_is_here first sources) in
      let few = few_of (λ e. e) (first ∷ sources) (Initial x.location ∷ all_events p mode (given_to k) within)
      (λ i j d h l same. not_before_itself _ (subst (λ e. ComesBefore e (get_or (first ∷ sources) j d)) same (ordered i j d h l)))
      (λ source has. source_here x at source (are source has)) in
      let all = all_events_few p mode (given_to k) within in
      omega arith
