-- Which gaps are fenced changes the sections of accesses and nothing else of a trace. So where sections don't count, a candidate of one mode is one of another.
use Rattle.candidate_executions.proofs.Vocabulary.{◌≡◌, ℕ, zero, suc, Bool, List, ◌∷◌, Option, Some, None, IsSome, slice_get, option_map, map, refl, sym, ap, ap₂, ◌∙◌, subst, length, fun_ext, range_with_len, same_Some, slice_get-map, Listing, Local, Action}
use Rattle.candidate_executions.proofs.Vocabulary.{Go, Wait, Read, Write, Swap, Outcome, loaded, action, start_of, code_of, Machine, Access, Event, Initial, At, Candidate, access, Writes, IsCandidate, HasOutcome, Relates, Edge, IsAcyclic, Mark, Arrives}
use Rattle.candidate_executions.proofs.Vocabulary.{ReadsValue, IsStored, ArriveInOrder, IsHeldValue, IsValueOf, ReadsHeldValues, Trace, load_of, store_of, exchange_of, with_access, entered, traced, trace, fenced_gaps, trace_by, access_by}
use Rattle.candidate_executions.specs.declared.event.Kind.TheVariants as union
use Rattle.candidate_executions.proofs.Orders.WiderRelations.{acyclic_narrower}

-- the access without its section
abbrev pub bare : Access → Access
bare x = record x { section = 0 }

-- two traces are the same but for sections
pub record Alike (a b : Trace) : Type 0 where
  pub accesses : map bare a.accesses ≡ map bare b.accesses
  pub last : a.last ≡ b.last
  pub unused : a.unused ≡ b.unused

alike_after : (x y : Access) (a b : Trace) → bare x ≡ bare y → Alike a b → Alike (with_access x a) (with_access y b)
alike_after x y a b e h = record { accesses = ap₂ (λ (z : Access) (zs : List Access). z ∷ zs) e h.accesses; last = h.last; unused = h.unused }

module _ (does : Local → Action) (gap other : ℕ → Bool) where
  alike : (k n m : ℕ) (s : Local) (given : List ℕ) → Alike (trace does gap k n s given) (trace does other k m s given)
  alike zero n m s given = record { accesses = refl; last = refl; unused = refl }
  alike (suc k) n m s given = by_action (entered (gap s.place) n) (entered (other s.place) m) (does s) given (alike k)
    where
      by_action : (n m : ℕ) (a : Action) (given : List ℕ) → ((n m : ℕ) (s : Local) (given : List ℕ) → Alike (trace does gap k n s given) (trace does other k m s given)) →
          Alike (traced (trace does gap k) n s a given) (traced (trace does other k) m s a given)
      by_action n m (Go next) given rest = rest n m next given
      by_action n m (Wait next) given rest = rest (suc n) (suc m) next given
      by_action n m (Write l v next) given rest = alike_after (store_of n l v) (store_of m l v) _ _ refl (rest n m next given)
      by_action n m (Read l to next) (v ∷ given) rest = alike_after (load_of n l v) (load_of m l v) _ _ refl (rest n m (loaded to v next) given)
      by_action n m (Swap l w to next) (v ∷ given) rest = alike_after (exchange_of n l v w) (exchange_of m l v w) _ _ refl (rest (suc n) (suc m) (loaded to v next) given)
      by_action n m a given rest = record { accesses = refl; last = refl; unused = refl }

module _ (p : Listing) (given : ℕ → List ℕ) where
  pub threads_alike : (mode other : Machine) (t : ℕ) → Alike (trace_by p mode given t) (trace_by p other given t)
  threads_alike mode other t = alike (action p.threads t) (fenced_gaps mode t) (fenced_gaps other t) (length (code_of p.threads t)) 0 0 (start_of p.threads t) (given t)

  accesses_alike : (mode other : Machine) (e : Event) → option_map bare (access_by p mode given e) ≡ option_map bare (access_by p other given e)
  accesses_alike mode other (Initial l) = refl
  accesses_alike mode other (At t i) =
      sym (slice_get-map bare (trace_by p mode given t).accesses i)
      ∙ (ap (λ (xs : List Access). slice_get xs i) (threads_alike mode other t).accesses ∙ slice_get-map bare (trace_by p other given t).accesses i)

  -- an access of the one mode is one of the other
  pub also : (mode other : Machine) (e : Event) (x : Access) → access_by p mode given e ≡ Some x → (y : Access) × (access_by p other given e ≡ Some y) × (bare x ≡ bare y)
  also mode other e x a = found (access_by p other given e) (sym (accesses_alike mode other e) ∙ ap (option_map bare) a)
    where
      found : (o : Option Access) → option_map bare o ≡ Some (bare x) → (y : Access) × (o ≡ Some y) × (bare x ≡ bare y)
      found None h = absurd cc
      found (Some y) h = (y, refl, sym (same_Some (bare y) (bare x) h))

  pub writes : (mode other : Machine) (e : Event) (l v : ℕ) → Writes (access_by p mode given) e l v → Writes (access_by p other given) e l v
  writes mode other e l v (x, a, q, w) =
      let (y, b, s) = also mode other e x a in
      (y, b, sym (ap (λ (z : Access). z.location) s) ∙ q, sym (ap (λ (z : Access). z.written) s) ∙ w)

module _ (p : Listing) (c : Candidate) where
  pub reads_too : (mode other : Machine) (e : Event) (v : ℕ) → ReadsValue (access p mode c) e v → ReadsValue (access p other c) e v
  reads_too mode other e v (x, a, r) =
      let (y, b, s) = also p c.given mode other e x a in
      (y, b, sym (ap (λ (z : Access). z.read) s) ∙ r)

  pub stored_too : (mode other : Machine) (e : Event) → IsStored (access p mode c) e → IsStored (access p other c) e
  stored_too mode other (Initial l) w = w
  stored_too mode other (At t i) (x, a, w) =
      let (y, b, s) = also p c.given mode other (At t i) x a in
      (y, b, subst (λ (z : Access). IsSome z.written) s w)

  pub in_order_too : (mode other : Machine) (m y : Mark) → ArriveInOrder (access p mode c) c m y → ArriveInOrder (access p other c) c m y
  in_order_too mode other (Arrives d) (Arrives e) h = λ l v w a b. h l v w (writes p c.given other mode d l v a) (writes p c.given other mode e l w b)
  in_order_too mode other m y h = tt

  pub candidate_too : (mode other : Machine) → IsCandidate p mode c → IsCandidate p other c
  candidate_too mode other is = record {
    whole = λ t. let a = threads_alike p c.given mode other t in (ap (action p.threads t) (sym a.last) ∙ (is.whole t).0, sym a.unused ∙ (is.whole t).1);
    values = λ e x v a r. let (y, b, s) = also p c.given other mode e x a in
        subst (λ (z : Access). IsValueOf p z.location v) (sym s) (is.values e y v b (sym (ap (λ (z : Access). z.read) s) ∙ r));
    sources = λ e x v a r. let (y, b, s) = also p c.given other mode e x a in
        let h = is.sources e y v b (sym (ap (λ (z : Access). z.read) s) ∙ r) in
        (h.0, writes p c.given mode other (c.source e) x.location v (subst (λ (z : Access). Writes (access p mode c) (c.source e) z.location v) (sym s) h.1));
    ranks = λ d e l v w a b. is.ranks d e l v w (writes p c.given other mode d l v a) (writes p c.given other mode e l w b);
    initial = λ e l v a. is.initial e l v (writes p c.given other mode e l v a);
  }

  pub held_too : (mode other : Machine) → ReadsHeldValues p mode c → ReadsHeldValues p other c
  held_too mode other held e x v a r =
      let (y, b, s) = also p c.given other mode e x a in
      subst (λ (z : Access). IsHeldValue p z.location v) (sym s) (held e y v b (sym (ap (λ (z : Access). z.read) s) ∙ r))

  pub outcome_too : (mode other : Machine) (o : Outcome) → HasOutcome p mode c o → HasOutcome p other c o
  outcome_too mode other o out = record {
    registers = out.registers ∙ ap (λ f. map f (range_with_len 0 (length p.threads))) (fun_ext (λ t. ap (λ (z : Local). z.registers) (threads_alike p c.given mode other t).last));
    long = out.long;
    memory = λ l b. let (e, w, newest) = out.memory l b in (e, writes p c.given mode other e l _ w, λ d v a. newest d v (writes p c.given other mode d l v a));
  }

  edges_too : (mode other : Machine) (d e : Event) → Edge p mode c union.Sequential d e → Edge p other c union.Sequential d e
  edges_too mode other d e (x, y, a, b, r) =
      let (x', a', s) = also p c.given mode other d x a in
      let (y', b', q) = also p c.given mode other e y b in
      (x', y', a', b', subst (λ (z : Access). Relates c union.Sequential d (bare x') e z) q (subst (λ (z : Access). Relates c union.Sequential d z e (bare y)) s r))

  pub acyclic_too : (mode other : Machine) → IsAcyclic (Edge p mode c union.Sequential) → IsAcyclic (Edge p other c union.Sequential)
  acyclic_too mode other = acyclic_narrower (Edge p other c union.Sequential) (Edge p mode c union.Sequential) (edges_too other mode)
