-- The location of each access is one of the program's.
use Rattle.known_edges.proofs.Vocabulary.{◌≡◌, ℕ, zero, suc, ◌<◌, Bool, List, [], ◌∷◌, Option, Some, None, slice_get, length, refl, sym, ap, ◌∙◌, subst, arith, slice_get_within, same_Some, Action, Go, Wait, Read, Write, Swap, Local, Instr, Listing}
use Rattle.known_edges.proofs.Vocabulary.{IsWithinLimits, action, instr_at, code_of, start_of, Access, Event, Initial, At, given_to, Trace, trace, traced, entered, fenced_gaps, load_of, store_of, exchange_of, Mode, ThreadTrace, ProgramSketch, mode_in, view_of}
use Rattle.known_edges.proofs.Vocabulary.{KeepsTraces, HaveLocations, act, loaded, IsLocated}
use Rattle.tso_program.proofs.Located.{act_located}
use Rattle.program_sketches.proofs.Traced.{accesses_same}

-- each of the accesses is of one of so many locations
abbrev pub StayWithin : ℕ → List Access → Type 0
StayWithin n accesses = (i : ℕ) (x : Access) → slice_get accesses i ≡ Some x → x.location < n

none_within : (n : ℕ) → StayWithin n []
none_within n i x at = absurd (let l = slice_get_within [] i x at in omega arith)

more_within : (n : ℕ) (a : Access) (accesses : List Access) → a.location < n → StayWithin n accesses → StayWithin n (a ∷ accesses)
more_within n a accesses h each zero x at = subst (λ (y : Access). y.location < n) (same_Some a x at) h
more_within n a accesses h each (suc i) x at = each i x at

-- one instruction, and the rest
traced_within : (n : ℕ) (rest : ℕ → Local → List ℕ → Trace) → ((section : ℕ) (s : Local) (given : List ℕ) → StayWithin n (rest section s given).accesses) →
    (section : ℕ) (s : Local) (a : Action) → IsLocated n a → (given : List ℕ) → StayWithin n (traced rest section s a given).accesses
traced_within n rest each section s (Go next) h given = each section next given
traced_within n rest each section s (Wait next) h given = each (suc section) next given
traced_within n rest each section s (Write l v next) h given = more_within n (store_of section l v) (rest section next given).accesses h (each section next given)
traced_within n rest each section s (Read l to next) h (v ∷ given) = more_within n (load_of section l v) (rest section (loaded to v next) given).accesses h (each section (loaded to v next) given)
traced_within n rest each section s (Swap l w to next) h (v ∷ given) = more_within n (exchange_of section l v w) (rest (suc section) (loaded to v next) given).accesses h (each (suc section) (loaded to v next) given)
traced_within n rest each section s a h given = none_within n

trace_within : (n : ℕ) (does : Local → Action) (gap : ℕ → Bool) → ((s : Local) → IsLocated n (does s)) → (k section : ℕ) (s : Local) (given : List ℕ) → StayWithin n (trace does gap k section s given).accesses
trace_within n does gap each zero section s given = none_within n
trace_within n does gap each (suc k) section s given = traced_within n (trace does gap k) (trace_within n does gap each k) (entered (gap s.place) section) s (does s) (each s) given

action_within : (p : Listing) → IsWithinLimits p.threads p.memory → (t : ℕ) (s : Local) → IsLocated (length p.memory) (action p.threads t s)
action_within p within t s = go (instr_at p.threads t s.place) refl
  where
    go : (o : Option Instr) → instr_at p.threads t s.place ≡ o → IsLocated (length p.memory) (action p.threads t s)
    go (Some x) e = subst (λ q. IsLocated (length p.memory) (act q s)) (sym e) (act_located p.threads p.memory t s.place x s within e)
    go None e = subst (λ q. IsLocated (length p.memory) (act q s)) (sym e) tt

module _ (p : Listing) (mode : Mode) (thread_traces : List ThreadTrace) (sources pairs : List (Event × Event)) (kept : KeepsTraces p mode thread_traces sources pairs) where
  abbrev s : ProgramSketch
  s = view_of p mode thread_traces sources pairs

  pub are_located : HaveLocations thread_traces
  are_located (Initial l) x at = absurd cc
  are_located (At t i) x at =
      let few = kept.lawful.within.shared.few_locations in
      let here = trace_within (length p.memory) (action p.threads t) (fenced_gaps (mode_in s) t) (action_within p kept.lawful.within t) (length (code_of p.threads t)) 0 (start_of p.threads t) (given_to s.chosen t) i x
      (ap (λ xs. slice_get xs i) (sym (accesses_same p mode thread_traces sources pairs kept t)) ∙ at) in
      omega arith
