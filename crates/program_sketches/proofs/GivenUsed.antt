-- One more value for a thread that waits for one: its reads take it, and it is the only read that is new.
use Rattle.program_sketches.proofs.Vocabulary.{◌≡◌, ℕ, zero, suc, ◌+◌, ◌≤◌, Bool, List, [], ◌∷◌, ◌++◌, Some, None, IsSome, slice_get, refl, ap, ◌∙◌, subst, arith, Local, Action, Stop, Go, Wait, Read, Write, Swap, loaded, Access, Trace, trace, traced, with_access}
use Rattle.program_sketches.proofs.Vocabulary.{entered, load_of, store_of, exchange_of, read_by, Advances}

-- what the reads of a trace read has this property
abbrev pub Reads : (ℕ → ℕ → Type 0) → Trace → Type 0
Reads P r = (i : ℕ) (x : Access) (v : ℕ) → slice_get r.accesses i ≡ Some x → x.read ≡ Some v → P x.location v

-- the values are used up, and what is read has this property
pub record Good (P : ℕ → ℕ → Type 0) (r : Trace) : Type 0 where
  pub used : r.unused ≡ []
  pub reads : Reads P r

not_some : IsSome {T = ℕ} None → ⊥
not_some h = cc

good_none : (P : ℕ → ℕ → Type 0) (r : Trace) → r.unused ≡ [] → r.accesses ≡ [] → Good P r
good_none P r e q = record { used = e; reads = λ i x v a b. absurd (let h : slice_get [] i ≡ Some x = subst (λ xs. slice_get xs i ≡ Some x) q a in cc) }

good_after : (P : ℕ → ℕ → Type 0) (a : Access) (r : Trace) → ((v : ℕ) → a.read ≡ Some v → P a.location v) → Good P r → Good P (with_access a r)
good_after P a r f g = record { used = g.used; reads = go }
  where
    go : (i : ℕ) (x : Access) (v : ℕ) → slice_get (a ∷ r.accesses) i ≡ Some x → x.read ≡ Some v → P x.location v
    go zero x v h q = let same : a ≡ x = cc in subst (λ (z : Access). P z.location v) same (f v (ap (λ (z : Access). z.read) same ∙ q))
    go (suc i) x v h q = g.reads i x v h q

good_rest : (P : ℕ → ℕ → Type 0) (a : Access) (r : Trace) → Good P (with_access a r) → Good P r
good_rest P a r g = record { used = g.used; reads = λ i x v h q. g.reads (suc i) x v h q }

module _ (P : ℕ → ℕ → Type 0) (does : Local → Action) (gap : ℕ → Bool) (len : ℕ) (advances : (s : Local) → Advances len s.place (does s)) where
  begin_one : (k : ℕ) → ((n : ℕ) (s : Local) → Good P (trace does gap k n s [])) → (n : ℕ) (s : Local) (a : Action) → Good P (traced (trace does gap k) n s a [])
  begin_one k ih n s (Go next) = ih n next
  begin_one k ih n s (Wait next) = ih (suc n) next
  begin_one k ih n s (Write l w next) = good_after P (store_of n l w) _ (λ v q. absurd cc) (ih n next)
  begin_one k ih n s a = good_none P _ refl refl

  -- with no value nothing is read
  pub good_begin : (k n : ℕ) (s : Local) → Good P (trace does gap k n s [])
  good_begin zero n s = good_none P _ refl refl
  good_begin (suc k) n s = begin_one k (good_begin k) (entered (gap s.place) n) s (does s)

  -- from here on the next read takes a value that has the property
  More : ℕ → Type 0
  More k = (n : ℕ) (s : Local) (given : List ℕ) (v : ℕ) → len ≤ s.place + k → Good P (trace does gap k n s given) →
      IsSome (read_by (does (trace does gap k n s given).last)) → ((l : ℕ) → read_by (does (trace does gap k n s given).last) ≡ Some l → P l v) →
      Good P (trace does gap k n s (given ++ v ∷ []))

  more_none : (n : ℕ) (s : Local) (given : List ℕ) (v : ℕ) (a : Action) → Advances len s.place a → len ≤ s.place → IsSome (read_by a) → Good P (trace does gap zero n s (given ++ v ∷ []))
  more_none n s given v (Read l to next) d h some = absurd (omega arith)
  more_none n s given v (Swap l w to next) d h some = absurd (omega arith)
  more_none n s given v a d h some = absurd (not_some some)

  more_one : (k n : ℕ) (s : Local) (given : List ℕ) (v : ℕ) (a : Action) → More k → does s ≡ a → Advances len s.place a → len ≤ s.place + suc k → Good P (traced (trace does gap k) n s a given) →
      IsSome (read_by (does (traced (trace does gap k) n s a given).last)) → ((l : ℕ) → read_by (does (traced (trace does gap k) n s a given).last) ≡ Some l → P l v) →
      Good P (traced (trace does gap k) n s a (given ++ v ∷ []))
  unfolding More
  more_one k n s given v Stop ih e d h g some f = absurd (not_some (subst (λ a. IsSome (read_by a)) e some))
  more_one k n s given v (Go next) ih e d h g some f = ih n next given v (omega arith) g some f
  more_one k n s given v (Wait next) ih e d h g some f = ih (suc n) next given v (omega arith) g some f
  more_one k n s given v (Write l w next) ih e d h g some f =
      good_after P (store_of n l w) _ (λ u q. absurd cc) (ih n next given v (omega arith) (good_rest P (store_of n l w) _ g) some f)
  more_one k n s [] v (Read l to next) ih e d h g some f =
      good_after P (load_of n l v) _ (λ u q. let same : v ≡ u = cc in subst (P l) same (f l (ap read_by e))) (good_begin k n (loaded to v next))
  more_one k n s (u ∷ given) v (Read l to next) ih e d h g some f =
      good_after P (load_of n l u) _ (λ v q. g.reads 0 (load_of n l u) v refl q) (ih n (loaded to u next) given v (omega arith) (good_rest P (load_of n l u) _ g) some f)
  more_one k n s [] v (Swap l w to next) ih e d h g some f =
      good_after P (exchange_of n l v w) _ (λ u q. let same : v ≡ u = cc in subst (P l) same (f l (ap read_by e))) (good_begin k (suc n) (loaded to v next))
  more_one k n s (u ∷ given) v (Swap l w to next) ih e d h g some f =
      good_after P (exchange_of n l u w) _ (λ v q. g.reads 0 (exchange_of n l u w) v refl q) (ih (suc n) (loaded to u next) given v (omega arith) (good_rest P (exchange_of n l u w) _ g) some f)

  -- the next read takes a value that has the property
  pub good_more : (k n : ℕ) (s : Local) (given : List ℕ) (v : ℕ) → len ≤ s.place + k → Good P (trace does gap k n s given) →
      IsSome (read_by (does (trace does gap k n s given).last)) → ((l : ℕ) → read_by (does (trace does gap k n s given).last) ≡ Some l → P l v) →
      Good P (trace does gap k n s (given ++ v ∷ []))
  unfolding More
  good_more zero n s given v h g some f = more_none n s given v (does s) (advances s) (omega arith) some
  good_more (suc k) n s given v h g some f = more_one k (entered (gap s.place) n) s given v (does s) (good_more k) refl (advances s) h g some f
