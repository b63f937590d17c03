-- Two candidates of one run have the same accesses.
use Rattle.candidate_executions.proofs.Vocabulary.{◌≡◌, ℕ, zero, suc, Bool, List, [], ◌∷◌, Some, slice_get, refl, sym, ap, ◌∙◌, subst, length, same_Some, Listing, Local, Action, Stop, Go, Wait, Read, Write, Swap, loaded}
use Rattle.candidate_executions.proofs.Vocabulary.{action, start_of, code_of, Machine, Label, Access, At, Candidate, trace_of, IsCandidate, load_of, store_of, exchange_of, entered, traced, trace, fenced_gaps, IsCandidateOf}

-- access i reads v
abbrev ReadsAt : List Access → ℕ → ℕ → Type 0
ReadsAt xs i v = (x : Access) × (slice_get xs i ≡ Some x) × (x.read ≡ Some v)

-- each read of the first is one of the second, with its value
abbrev AreRead : List Access → List Access → Type 0
AreRead xs ys = (i v : ℕ) → ReadsAt xs i v → ReadsAt ys i v

rest_read : (x y : Access) (xs ys : List Access) → AreRead (x ∷ xs) (y ∷ ys) → AreRead xs ys
rest_read x y xs ys r i v h = r (suc i) v h

first_read : (x y : Access) (xs ys : List Access) (v w : ℕ) → x.read ≡ Some v → y.read ≡ Some w → AreRead (x ∷ xs) (y ∷ ys) → v ≡ w
first_read x y xs ys v w reads other r =
    let (z, at, is) = r 0 v (x, refl, reads) in
    sym (same_Some w v (sym other ∙ (ap (λ (z : Access). z.read) (same_Some y z at) ∙ is)))

module _ (does : Local → Action) (gap : ℕ → Bool) where
  abbrev Same : ℕ → Type 0
  Same k = (n : ℕ) (s : Local) (g h : List ℕ) → does (trace does gap k n s g).last ≡ Stop → does (trace does gap k n s h).last ≡ Stop →
      AreRead (trace does gap k n s g).accesses (trace does gap k n s h).accesses → (trace does gap k n s g).accesses ≡ (trace does gap k n s h).accesses

  -- after a read both go on with one value
  one_value : (k n : ℕ) (to : ℕ → Local) (x : ℕ → Access) (g h : List ℕ) (v w : ℕ) → Same k → v ≡ w → does (trace does gap k n (to v) g).last ≡ Stop → does (trace does gap k n (to w) h).last ≡ Stop →
      AreRead (x v ∷ (trace does gap k n (to v) g).accesses) (x w ∷ (trace does gap k n (to w) h).accesses) →
      (x v ∷ (trace does gap k n (to v) g).accesses) ≡ (x w ∷ (trace does gap k n (to w) h).accesses)
  one_value k n to x g h v w rest e p =
      subst (λ u. does (trace does gap k n (to u) h).last ≡ Stop → AreRead (x v ∷ (trace does gap k n (to v) g).accesses) (x u ∷ (trace does gap k n (to u) h).accesses) →
      (x v ∷ (trace does gap k n (to v) g).accesses) ≡ (x u ∷ (trace does gap k n (to u) h).accesses)) e
      (λ q r. ap (λ xs. x v ∷ xs) (rest n (to v) g h p q (rest_read (x v) (x v) (trace does gap k n (to v) g).accesses (trace does gap k n (to v) h).accesses r)))

  by_action : (k n : ℕ) (s : Local) (a : Action) (g h : List ℕ) → Same k → does s ≡ a → does (traced (trace does gap k) n s a g).last ≡ Stop → does (traced (trace does gap k) n s a h).last ≡ Stop →
      AreRead (traced (trace does gap k) n s a g).accesses (traced (trace does gap k) n s a h).accesses → (traced (trace does gap k) n s a g).accesses ≡ (traced (trace does gap k) n s a h).accesses
  by_action k n s Stop g h rest e p q r = refl
  by_action k n s (Go next) g h rest e p q r = rest n next g h p q r
  by_action k n s (Wait next) g h rest e p q r = rest (suc n) next g h p q r
  by_action k n s (Write l v next) g h rest e p q r =
      ap (λ xs. store_of n l v ∷ xs) (rest n next g h p q (rest_read (store_of n l v) (store_of n l v) (trace does gap k n next g).accesses (trace does gap k n next h).accesses r))
  by_action k n s (Read l to next) [] h rest e p q r = absurd (let z : Read l to next ≡ Stop = sym e ∙ p in cc)
  by_action k n s (Read l to next) (v ∷ g) [] rest e p q r = absurd (let z : Read l to next ≡ Stop = sym e ∙ q in cc)
  by_action k n s (Read l to next) (v ∷ g) (w ∷ h) rest e p q r =
      let same : v ≡ w = first_read (load_of n l v) (load_of n l w) (trace does gap k n (loaded to v next) g).accesses (trace does gap k n (loaded to w next) h).accesses v w refl refl r in
      one_value k n (λ u. loaded to u next) (load_of n l) g h v w rest same p q r
  by_action k n s (Swap l y to next) [] h rest e p q r = absurd (let z : Swap l y to next ≡ Stop = sym e ∙ p in cc)
  by_action k n s (Swap l y to next) (v ∷ g) [] rest e p q r = absurd (let z : Swap l y to next ≡ Stop = sym e ∙ q in cc)
  by_action k n s (Swap l y to next) (v ∷ g) (w ∷ h) rest e p q r =
      let same : v ≡ w = first_read (exchange_of n l v y) (exchange_of n l w y) (trace does gap k (suc n) (loaded to v next) g).accesses (trace does gap k (suc n) (loaded to w next) h).accesses v w refl refl r in
      one_value k (suc n) (λ u. loaded to u next) (λ u. exchange_of n l u y) g h v w rest same p q r

  same : (k : ℕ) → Same k
  same zero n s g h p q r = refl
  same (suc k) n s g h p q r = by_action k (entered (gap s.place) n) s (does s) g h (same k) refl p q r

module _ (p : Listing) (mode : Machine) (labels : List Label) (c d : Candidate) (is : IsCandidate p mode c) (too : IsCandidate p mode d) (of : IsCandidateOf p mode labels c) (also_of : IsCandidateOf p mode labels d) where
  reads : (t : ℕ) → AreRead (trace_of p mode c t).accesses (trace_of p mode d t).accesses
  reads t i v h = ((also_of.takes (At t i) (c.source (At t i)) v).0 ((of.takes (At t i) (c.source (At t i)) v).1 (h, refl))).0

  pub same_accesses : (t : ℕ) → (trace_of p mode c t).accesses ≡ (trace_of p mode d t).accesses
  same_accesses t = same (action p.threads t) (fenced_gaps mode t) (length (code_of p.threads t)) 0 (start_of p.threads t) (c.given t) (d.given t) (is.whole t).0 (too.whole t).0 (reads t)
