-- What more given values do to a trace: it keeps its accesses, a read at which it stopped takes the next value, and at its end it takes none.
use Rattle.candidate_executions.proofs.Vocabulary.{◌≡◌, ℕ, zero, suc, ◌+◌, ◌≤◌, Bool, List, [], ◌∷◌, ◌++◌, Some, None, slice_get, length, refl, sym, ap, ◌∙◌, arith, Local, Action, Stop, Go, Wait, Read, Write, Swap, loaded, Access, Trace, trace, traced}
use Rattle.candidate_executions.proofs.Vocabulary.{entered, with_access, read_by}
use Rattle.tso_machine.proofs.Advance.{Advances}

-- the trace with more values left over
abbrev pub spare : Trace → List ℕ → Trace
spare trace more = record trace { unused = trace.unused ++ more }

-- the access at this number reads this value from the location, and where no more values come none is left over
pub record Takes (trace : Trace) (i l v : ℕ) (more : List ℕ) : Type 0 where
  pub access : Access
  pub there : slice_get trace.accesses i ≡ Some access
  pub location : access.location ≡ l
  pub value : access.read ≡ Some v
  pub used : more ≡ [] → trace.unused ≡ []

takes_after : (a : Access) (trace : Trace) (i l v : ℕ) (more : List ℕ) → Takes trace i l v more → Takes (with_access a trace) (suc i) l v more
takes_after a trace i l v more t = record { access = t.access; there = t.there; location = t.location; value = t.value; used = t.used }

module _ (does : Local → Action) (gap : ℕ → Bool) where
  -- the accesses stay
  pub trace_more : (k n : ℕ) (s : Local) (given more : List ℕ) (i : ℕ) (x : Access) →
      slice_get (trace does gap k n s given).accesses i ≡ Some x → slice_get (trace does gap k n s (given ++ more)).accesses i ≡ Some x
  trace_more zero n s given more i x h = absurd cc
  trace_more (suc k) n s given more i x h = go (does s) given i h (trace_more k)
    where
      go : (a : Action) (given : List ℕ) (i : ℕ) → slice_get (traced (trace does gap k) (entered (gap s.place) n) s a given).accesses i ≡ Some x →
          ((n : ℕ) (s : Local) (given more : List ℕ) (i : ℕ) (x : Access) → slice_get (trace does gap k n s given).accesses i ≡ Some x →
          slice_get (trace does gap k n s (given ++ more)).accesses i ≡ Some x) →
          slice_get (traced (trace does gap k) (entered (gap s.place) n) s a (given ++ more)).accesses i ≡ Some x
      go (Go next) given i h ih = ih _ next given more i x h
      go (Wait next) given i h ih = ih _ next given more i x h
      go (Write l v next) given zero h ih = h
      go (Write l v next) given (suc i) h ih = ih _ next given more i x h
      go (Read l to next) (v ∷ given) zero h ih = h
      go (Read l to next) (v ∷ given) (suc i) h ih = ih _ (loaded to v next) given more i x h
      go (Swap l w to next) (v ∷ given) zero h ih = h
      go (Swap l w to next) (v ∷ given) (suc i) h ih = ih _ (loaded to v next) given more i x h
      go a given i h ih = absurd cc

  -- with no values none is left over
  pub no_values : (k n : ℕ) (s : Local) → (trace does gap k n s []).unused ≡ []
  no_values zero n s = refl
  no_values (suc k) n s = go (does s) (no_values k)
    where
      go : (a : Action) → ((n : ℕ) (s : Local) → (trace does gap k n s []).unused ≡ []) → (traced (trace does gap k) (entered (gap s.place) n) s a []).unused ≡ []
      go (Go next) ih = ih (entered (gap s.place) n) next
      go (Wait next) ih = ih (suc (entered (gap s.place) n)) next
      go (Write l v next) ih = ih (entered (gap s.place) n) next
      go a ih = refl

  -- at its end a thread takes no more values
  pub at_end : (k n : ℕ) (s : Local) (given more : List ℕ) → does (trace does gap k n s given).last ≡ Stop →
      trace does gap k n s (given ++ more) ≡ spare (trace does gap k n s given) more
  at_end zero n s given more h = refl
  at_end (suc k) n s given more h = go (does s) refl given h (at_end k)
    where
      go : (a : Action) → does s ≡ a → (given : List ℕ) → does (traced (trace does gap k) (entered (gap s.place) n) s a given).last ≡ Stop →
          ((n : ℕ) (s : Local) (given more : List ℕ) → does (trace does gap k n s given).last ≡ Stop →
          trace does gap k n s (given ++ more) ≡ spare (trace does gap k n s given) more) →
          traced (trace does gap k) (entered (gap s.place) n) s a (given ++ more) ≡ spare (traced (trace does gap k) (entered (gap s.place) n) s a given) more
      go Stop e given h ih = refl
      go (Go next) e given h ih = ih (entered (gap s.place) n) next given more h
      go (Wait next) e given h ih = ih (suc (entered (gap s.place) n)) next given more h
      go (Write l v next) e given h ih = ap (with_access _) (ih (entered (gap s.place) n) next given more h)
      go (Read l to next) e [] h ih = absurd (let z : Read l to next ≡ Stop = sym e ∙ h in cc)
      go (Read l to next) e (v ∷ given) h ih = ap (with_access _) (ih (entered (gap s.place) n) (loaded to v next) given more h)
      go (Swap l w to next) e [] h ih = absurd (let z : Swap l w to next ≡ Stop = sym e ∙ h in cc)
      go (Swap l w to next) e (v ∷ given) h ih = ap (with_access _) (ih (suc (entered (gap s.place) n)) (loaded to v next) given more h)

  -- where jumps lead forward, and there are steps enough
  module _ (len : ℕ) (advances : (s : Local) → Advances len s.place (does s)) where
    past_end : (s : Local) → len ≤ s.place → does s ≡ Stop
    past_end s h = go (does s) refl (advances s)
      where
        go : (a : Action) → does s ≡ a → Advances len s.place a → does s ≡ Stop
        go Stop e f = e
        go _ e f = absurd (omega arith)

    not_past_end : (s : Local) (l : ℕ) → len ≤ s.place → read_by (does s) ≡ Some l → ⊥
    not_past_end s l h r = let z : None ≡ Some l = sym (ap read_by (past_end s h)) ∙ r in cc

    -- a trace stops at the thread's end or at a read
    pub end_or_read : (k n : ℕ) (s : Local) (given : List ℕ) → len ≤ s.place + k → read_by (does (trace does gap k n s given).last) ≡ None →
        does (trace does gap k n s given).last ≡ Stop
    end_or_read zero n s given b h = past_end s (omega arith)
    end_or_read (suc k) n s given b h = go (does s) refl (advances s) given h (end_or_read k)
      where
        go : (a : Action) → does s ≡ a → Advances len s.place a → (given : List ℕ) →
            read_by (does (traced (trace does gap k) (entered (gap s.place) n) s a given).last) ≡ None →
            ((n : ℕ) (s : Local) (given : List ℕ) → len ≤ s.place + k → read_by (does (trace does gap k n s given).last) ≡ None →
            does (trace does gap k n s given).last ≡ Stop) → does (traced (trace does gap k) (entered (gap s.place) n) s a given).last ≡ Stop
        go Stop e f given h ih = e
        go (Go next) e f given h ih = ih (entered (gap s.place) n) next given (omega arith) h
        go (Wait next) e f given h ih = ih (suc (entered (gap s.place) n)) next given (omega arith) h
        go (Write l v next) e f given h ih = ih (entered (gap s.place) n) next given (omega arith) h
        go (Read l to next) e f [] h ih = absurd (let z : Some l ≡ None = sym (ap read_by e) ∙ h in cc)
        go (Read l to next) e f (v ∷ given) h ih = ih (entered (gap s.place) n) (loaded to v next) given (omega arith) h
        go (Swap l w to next) e f [] h ih = absurd (let z : Some l ≡ None = sym (ap read_by e) ∙ h in cc)
        go (Swap l w to next) e f (v ∷ given) h ih = ih (suc (entered (gap s.place) n)) (loaded to v next) given (omega arith) h

    -- the read at which it stopped takes the next value
    pub at_read : (k n : ℕ) (s : Local) (given more : List ℕ) (v l : ℕ) → len ≤ s.place + k → read_by (does (trace does gap k n s given).last) ≡ Some l →
        (trace does gap k n s given).unused ≡ [] → Takes (trace does gap k n s (given ++ v ∷ more)) (length (trace does gap k n s given).accesses) l v more
    at_read zero n s given more v l b h u = absurd (not_past_end s l (omega arith) h)
    at_read (suc k) n s given more v l b h u = go (does s) refl (advances s) given h u (λ n s given. at_read k n s given more v l)
      where
        go : (a : Action) → does s ≡ a → Advances len s.place a → (given : List ℕ) →
            read_by (does (traced (trace does gap k) (entered (gap s.place) n) s a given).last) ≡ Some l →
            (traced (trace does gap k) (entered (gap s.place) n) s a given).unused ≡ [] →
            ((n : ℕ) (s : Local) (given : List ℕ) → len ≤ s.place + k → read_by (does (trace does gap k n s given).last) ≡ Some l →
            (trace does gap k n s given).unused ≡ [] → Takes (trace does gap k n s (given ++ v ∷ more)) (length (trace does gap k n s given).accesses) l v more) →
            Takes (traced (trace does gap k) (entered (gap s.place) n) s a (given ++ v ∷ more)) (length (traced (trace does gap k) (entered (gap s.place) n) s a given).accesses) l v more
        go Stop e f given h u ih = absurd (let z : None ≡ Some l = sym (ap read_by e) ∙ h in cc)
        go (Go next) e f given h u ih = ih (entered (gap s.place) n) next given (omega arith) h u
        go (Wait next) e f given h u ih = ih (suc (entered (gap s.place) n)) next given (omega arith) h u
        go (Write m w next) e f given h u ih = takes_after _ _ _ l v more (ih (entered (gap s.place) n) next given (omega arith) h u)
        go (Read m to next) e f [] h u ih = record { access = _; there = refl; location = let z : Some m ≡ Some l = sym (ap read_by e) ∙ h in cc; value = refl; used = λ q. rw q (no_values k (entered (gap s.place) n) (loaded to v next)) }
        go (Read m to next) e f (w ∷ given) h u ih = takes_after _ _ _ l v more (ih (entered (gap s.place) n) (loaded to w next) given (omega arith) h u)
        go (Swap m x to next) e f [] h u ih = record { access = _; there = refl; location = let z : Some m ≡ Some l = sym (ap read_by e) ∙ h in cc; value = refl; used = λ q. rw q (no_values k (suc (entered (gap s.place) n)) (loaded to v next)) }
        go (Swap m x to next) e f (w ∷ given) h u ih = takes_after _ _ _ l v more (ih (suc (entered (gap s.place) n)) (loaded to w next) given (omega arith) h u)
