-- Program order of each union is transitive.
use Rattle.known_edges.proofs.Vocabulary.{◌≡◌, ℕ, zero, suc, ◌<◌, ◌≤◌, Bool, true, false, List, ◌∷◌, Some, IsSome, slice_get, sym, ap, ◌∙◌, subst, inl, inr, arith, same_Some, loaded, Action, Go, Wait, Read, Write, Swap, Local, Listing, action, start_of, Mode}
use Rattle.known_edges.proofs.Vocabulary.{machine_of_mode, Access, Event, At, Kind, Trace, trace, traced, with_access, entered, store_of, load_of, exchange_of, fenced_gaps, ThreadTrace, OrderPart, KeepsTraces, Precedes, KeepsOrder, traced_access, InOrder}
use Rattle.known_edges.proofs.Vocabulary.{AreOfSketch}
use Rattle.candidate_executions.specs.declared.event.Kind.TheVariants as union
use Rattle.candidate_executions.proofs.Sections.SectionsRise.{least, from_section}
use Rattle.program_sketches.proofs.Traced.{accesses_same}
use Rattle.known_edges.proofs.Unchosen.{precedes_then}

-- the second's section is not below the first's, and above it after an exchange
abbrev pub Rises : Access → Access → Type 0
Rises x y = (x.section ≤ y.section) × (IsSome x.read → IsSome x.written → x.section < y.section)

-- one access before a trace
one_before : (a : Access) (T : Trace) (i j : ℕ) (x y : Access) → ((j : ℕ) (y : Access) → slice_get T.accesses j ≡ Some y → Rises a y) →
    ((i j : ℕ) → i < j → slice_get T.accesses i ≡ Some x → slice_get T.accesses j ≡ Some y → Rises x y) →
    i < j → slice_get (with_access a T).accesses i ≡ Some x → slice_get (with_access a T).accesses j ≡ Some y → Rises x y
one_before a T zero (suc j) x y first rest o p q = subst (λ (z : Access). Rises z y) (same_Some a x p) (first j y q)
one_before a T (suc i) (suc j) x y first rest o p q = rest i j (omega arith) p q
one_before a T i zero x y first rest o p q = absurd (omega arith)

module _ (does : Local → Action) (gap : ℕ → Bool) where
  -- sections rise along a trace
  pub sections_rise : (k n : ℕ) (s : Local) (given : List ℕ) (i j : ℕ) (x y : Access) → i < j →
      slice_get (trace does gap k n s given).accesses i ≡ Some x → slice_get (trace does gap k n s given).accesses j ≡ Some y → Rises x y
  sections_rise zero n s given i j x y o a b = absurd cc
  sections_rise (suc k) n s given i j x y o a b = go (does s) given i j o a b (λ n s given i j. sections_rise k n s given i j x y)
    where
      m : ℕ
      m = entered (gap s.place) n

      go : (c : Action) (given : List ℕ) (i j : ℕ) → i < j → slice_get (traced (trace does gap k) m s c given).accesses i ≡ Some x →
          slice_get (traced (trace does gap k) m s c given).accesses j ≡ Some y →
          ((n : ℕ) (s : Local) (given : List ℕ) (i j : ℕ) → i < j → slice_get (trace does gap k n s given).accesses i ≡ Some x →
          slice_get (trace does gap k n s given).accesses j ≡ Some y → Rises x y) → Rises x y
      go (Go next) given i j o a b ih = ih m next given i j o a b
      go (Wait next) given i j o a b ih = ih (suc m) next given i j o a b
      go (Write l v next) given i j o a b ih = one_before (store_of m l v) (trace does gap k m next given) i j x y
          (λ j z e. (least (gap next.place) m z.section (from_section does gap k m next given j z e), λ r w. absurd (let f : false ≡ true = r in cc))) (ih m next given) o a b
      go (Read l to next) (v ∷ given) i j o a b ih = one_before (load_of m l v) (trace does gap k m (loaded to v next) given) i j x y
          (λ j z e. (least _ m z.section (from_section does gap k m (loaded to v next) given j z e), λ r w. absurd (let f : false ≡ true = w in cc))) (ih m (loaded to v next) given) o a b
      go (Swap l w to next) (v ∷ given) i j o a b ih = one_before (exchange_of m l v w) (trace does gap k (suc m) (loaded to v next) given) i j x y
          (λ j z e. let above = least _ (suc m) z.section (from_section does gap k (suc m) (loaded to v next) given j z e) in (omega arith, λ r w. omega arith)) (ih (suc m) (loaded to v next) given) o a b
      go c given i j o a b ih = absurd cc

-- order that is kept twice is kept
kept_then : (x y z : Access) → Rises x y → Rises y z → KeepsOrder x y → KeepsOrder y z → KeepsOrder x z
kept_then x y z first second (inl r) k = inl r
kept_then x y z first second (inr (inl w)) (inl r) = inr (inr (λ e. let low = first.0 in let above = second.1 r w in omega arith))
kept_then x y z first second (inr (inl w)) (inr (inl v)) = inr (inl v)
kept_then x y z first second (inr (inl w)) (inr (inr n)) = inr (inr (λ e. n (let low = first.0 in let high = second.0 in omega arith)))
kept_then x y z first second (inr (inr n)) k = inr (inr (λ e. n (let low = first.0 in let high = second.0 in omega arith)))

module _ (p : Listing) (mode : Mode) (thread_traces : List ThreadTrace) (sources pairs : List (Event × Event)) (kept : KeepsTraces p mode thread_traces sources pairs) where
  -- sections rise from an access to a later one of its thread
  rise_in : (d e : Event) (x y : Access) → Precedes d e → traced_access thread_traces d ≡ Some x → traced_access thread_traces e ≡ Some y → Rises x y
  rise_in (At t i) (At u j) x y h a b =
      let same = accesses_same p mode thread_traces sources pairs kept t in
      sections_rise (action p.threads t) (fenced_gaps (machine_of_mode p mode) t) _ 0 (start_of p.threads t) _ i j x y h.1
      (sym (ap (λ xs. slice_get xs i) same) ∙ a) (sym (ap (λ xs. slice_get xs j) same) ∙ subst (λ v. traced_access thread_traces (At v j) ≡ Some y) (sym h.0) b)
  rise_in d e x y h a b = absurd h

  parts_then : (kind : Kind) (d e f : Event) (x y z : Access) → traced_access thread_traces d ≡ Some x → traced_access thread_traces e ≡ Some y → traced_access thread_traces f ≡ Some z →
      OrderPart kind d x e y → OrderPart kind e y f z → OrderPart kind d x f z
  parts_then union.Sequential d e f x y z a b c h k = precedes_then d e f h k
  parts_then union.Location d e f x y z a b c h k = (precedes_then d e f h.0 k.0, h.1 ∙ k.1)
  parts_then union.Global d e f x y z a b c h k = (precedes_then d e f h.0 k.0, kept_then x y z (rise_in d e x y h.0 a b) (rise_in e f y z k.0 b c) h.1 k.1)

-- what comes after an access that comes after another comes after this one too
pub order_joins : (thread_traces : List ThreadTrace) → AreOfSketch thread_traces → (kind : Kind) (d e f : Event) →
    InOrder thread_traces kind d e → InOrder thread_traces kind e f → InOrder thread_traces kind d f
order_joins thread_traces (p, mode, sources, pairs, kept) kind d e f (x, y, a, b, h) (w, z, c, g, k) =
    let same : w ≡ y = same_Some w y (sym c ∙ b) in
    (x, z, a, g, parts_then p mode thread_traces sources pairs kept kind d e f x y z a b g h (subst (λ (v : Access). OrderPart kind e v f z) same k))
