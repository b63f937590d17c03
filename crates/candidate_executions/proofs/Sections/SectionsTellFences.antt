-- The sections of a store and of a later access of its thread differ exactly where a fence, a fenced gap or an exchange lies between them.
use Rattle.candidate_executions.proofs.Vocabulary.{◌≡◌, ◌≢◌, ◌↔◌, ℕ, zero, suc, ◌+◌, ◌<◌, Bool, true, false, cond, List, [], ◌∷◌, Some, None, slice_get, take, refl, sym, ap, ◌∙◌, subst, inl, inr, arith, count_by, same_Some, Local, Action, Go, Wait, Read}
use Rattle.candidate_executions.proofs.Vocabulary.{Write, Swap, loaded, Access, trace, traced, entered, executed, path, is_access, IsFenceOrExchange, IsStepOf, LiesBetween}
use Rattle.std.proofs.lemmas.List.Sums.{sum_by-cons}
use Rattle.candidate_executions.proofs.Sections.SectionsOfSteps.{left, section_at, parted_or_same, parted_more}

with_one : (b : Bool) (n : ℕ) → cond b 1 0 + n ≡ cond b (suc n) n
with_one true n = omega arith
with_one false n = omega arith

module _ (does : Local → Action) (gap : ℕ → Bool) where
  -- one step more before the others
  abbrev counted : List Local → ℕ
  counted states = count_by (λ s. is_access (does s)) states

  counted_more : (s : Local) (states : List Local) → counted (s ∷ states) ≡ cond (is_access (does s)) 1 0 + counted states
  counted_more s states = sum_by-cons (λ s. cond (is_access (does s)) 1 0) s states

  at_first : (s : Local) (states : List Local) (i : ℕ) → IsStepOf does gap (s ∷ states) i 0 → (is_access (does s) ≡ true) × (i ≡ 0)
  at_first s states i st = let (z, a, b, c) = st in (subst (λ z. is_access (does z) ≡ true) (sym (same_Some s z a)) b, sym c)

  -- one step back, and one access less where the first step makes one
  back : (s : Local) (states : List Local) (i m : ℕ) (b : Bool) → is_access (does s) ≡ b → IsStepOf does gap (s ∷ states) i (suc m) → (j : ℕ) × (cond b 1 0 + j ≡ i) × IsStepOf does gap states j m
  back s states i m b q st = let (z, a, c, d) = st in (counted (take m states), subst (λ b. cond b 1 0 + counted (take m states) ≡ i) q (sym (counted_more s (take m states)) ∙ d), (z, a, c, refl))

  -- a later access has a later step
  later : (states : List Local) (i j m n : ℕ) → IsStepOf does gap states i m → IsStepOf does gap states j n → i < j → m < n
  later [] i j m n a b h = let (z, q, r, c) = a in absurd cc
  later (s ∷ states) i j zero zero a b h = absurd (let x = (at_first s states j b).1 in omega arith)
  later (s ∷ states) i j zero (suc n) a b h = omega arith
  later (s ∷ states) i j (suc m) zero a b h = absurd (let x = (at_first s states j b).1 in omega arith)
  later (s ∷ states) i j (suc m) (suc n) a b h =
      let (k, e, c) = back s states i m (is_access (does s)) refl a in
      let (l, f, d) = back s states j n (is_access (does s)) refl b in
      let r = later states k l m n c d (omega arith) in omega arith

  -- each access has its step
  step_of : (k n : ℕ) (s : Local) (given : List ℕ) (i : ℕ) (x : Access) → slice_get (trace does gap k n s given).accesses i ≡ Some x →
      (m : ℕ) × IsStepOf does gap (path does k s given) i m
  step_of zero n s given i x a = absurd cc
  step_of (suc k) n s given i x a = go (does s) refl given i a (step_of k)
    where
      on : (b : Action) (states : List Local) (i : ℕ) → does s ≡ b → (m : ℕ) × IsStepOf does gap states i m → (m : ℕ) × IsStepOf does gap (s ∷ states) (cond (is_access b) (suc i) i) m
      on b states i e st = (suc st.0, (let (z, a, y, c) = st.1 in (z, a, y, counted_more s (take st.0 states) ∙ rw (ap is_access e, c) (with_one (is_access b) i))))

      go : (b : Action) → does s ≡ b → (given : List ℕ) (i : ℕ) → slice_get (traced (trace does gap k) (entered (gap s.place) n) s b given).accesses i ≡ Some x →
          ((n : ℕ) (s : Local) (given : List ℕ) (i : ℕ) (x : Access) → slice_get (trace does gap k n s given).accesses i ≡ Some x → (m : ℕ) × IsStepOf does gap (path does k s given) i m) →
          (m : ℕ) × IsStepOf does gap (executed (path does k) s b given) i m
      go (Go next) e given i a ih = on (Go next) _ i e (ih _ next given i x a)
      go (Wait next) e given i a ih = on (Wait next) _ i e (ih _ next given i x a)
      go (Write l v next) e given zero a ih = (0, (s, refl, ap is_access e, refl))
      go (Write l v next) e given (suc i) a ih = on (Write l v next) _ i e (ih _ next given i x a)
      go (Read l to next) e (v ∷ given) zero a ih = (0, (s, refl, ap is_access e, refl))
      go (Read l to next) e (v ∷ given) (suc i) a ih = on (Read l to next) _ i e (ih _ (loaded to v next) given i x a)
      go (Swap l w to next) e (v ∷ given) zero a ih = (0, (s, refl, ap is_access e, refl))
      go (Swap l w to next) e (v ∷ given) (suc i) a ih = on (Swap l w to next) _ i e (ih _ (loaded to v next) given i x a)
      go b e given i a ih = absurd cc

  -- the step of an access that doesn't read is no fence and no exchange
  abbrev IsPlain : List Local → ℕ → Access → Type 0
  IsPlain states m x = (z : Local) → slice_get states m ≡ Some z → x.read ≡ None → IsFenceOrExchange (does z) → ⊥

  abbrev IsSectionOf : List Local → ℕ → ℕ → Access → Type 0
  IsSectionOf states n m x = (x.section ≡ section_at does gap states n m) × IsPlain states m x

  -- an access is in the section of its step
  section_of : (k n : ℕ) (s : Local) (given : List ℕ) (i m : ℕ) (x : Access) → IsStepOf does gap (path does k s given) i m →
      slice_get (trace does gap k n s given).accesses i ≡ Some x → IsSectionOf (path does k s given) n m x
  section_of zero n s given i m x st a = absurd cc
  section_of (suc k) n s given i m x st a = go (does s) refl given i m st a (section_of k)
    where
      no_first : (b : Action) (states : List Local) (i : ℕ) → does s ≡ b → is_access b ≡ false → IsStepOf does gap (s ∷ states) i 0 → ⊥
      no_first b states i e q st = let z : true ≡ false = sym (at_first s states i st).0 ∙ (ap is_access e ∙ q) in cc

      no_more : (b : Action) (states : List Local) (i : ℕ) → IsStepOf does gap (s ∷ states) (suc i) 0 → ⊥
      no_more b states i st = let z = (at_first s states (suc i) st).1 in omega arith

      less : (b : Action) (states : List Local) (i m : ℕ) → does s ≡ b → IsStepOf does gap (s ∷ states) (cond (is_access b) (suc i) i) (suc m) → IsStepOf does gap states i m
      less b states i m e st = let (j, f, r) = back s states _ m (is_access b) (ap is_access e) st in let k = with_one (is_access b) i in let q : j ≡ i = omega arith in subst (λ j. IsStepOf does gap states j m) q r

      never : (b : Action) (states : List Local) (m : ℕ) → does s ≡ b → is_access b ≡ true → IsStepOf does gap (s ∷ states) 0 (suc m) → ⊥
      never b states m e q st = let (j, f, r) = back s states 0 m true (ap is_access e ∙ q) st in omega arith

      onward : (b : Action) (states : List Local) (m : ℕ) → does s ≡ b → section_at does gap states (left b (entered (gap s.place) n)) m ≡ section_at does gap (s ∷ states) n (suc m)
      onward b states m e = ap (λ z. section_at does gap states (left z (entered (gap s.place) n)) m) (sym e)

      reads : (y : Access) (v : ℕ) (states : List Local) → y ≡ x → y.read ≡ Some v → IsPlain states 0 x
      reads y v states q r z a none f = let w : Some v ≡ None = sym r ∙ (ap (λ (z : Access). z.read) q ∙ none) in cc

      go : (b : Action) → does s ≡ b → (given : List ℕ) (i m : ℕ) → IsStepOf does gap (executed (path does k) s b given) i m →
          slice_get (traced (trace does gap k) (entered (gap s.place) n) s b given).accesses i ≡ Some x →
          ((n : ℕ) (s : Local) (given : List ℕ) (i m : ℕ) (x : Access) → IsStepOf does gap (path does k s given) i m →
          slice_get (trace does gap k n s given).accesses i ≡ Some x → IsSectionOf (path does k s given) n m x) → IsSectionOf (executed (path does k) s b given) n m x
      go (Go next) e given i zero st a ih = absurd (no_first (Go next) (path does k next given) i e refl st)
      go (Go next) e given i (suc m) st a ih = let r = ih (entered (gap s.place) n) next given i m x (less (Go next) (path does k next given) i m e st) a in (r.0 ∙ onward (Go next) (path does k next given) m e, r.1)
      go (Wait next) e given i zero st a ih = absurd (no_first (Wait next) (path does k next given) i e refl st)
      go (Wait next) e given i (suc m) st a ih = let r = ih (suc (entered (gap s.place) n)) next given i m x (less (Wait next) (path does k next given) i m e st) a in (r.0 ∙ onward (Wait next) (path does k next given) m e, r.1)
      go (Write l v next) e given zero zero st a ih =
          (sym (ap (λ (z : Access). z.section) (same_Some _ x a)), (λ z b none f. let y : IsFenceOrExchange (Write l v next) = subst IsFenceOrExchange e (subst (λ (z : Local). IsFenceOrExchange (does z)) (sym (same_Some s z b)) f) in y))
      go (Write l v next) e given (suc i) zero st a ih = absurd (no_more (Write l v next) (path does k next given) i st)
      go (Write l v next) e given zero (suc m) st a ih = absurd (never (Write l v next) (path does k next given) m e refl st)
      go (Write l v next) e given (suc i) (suc m) st a ih = let r = ih (entered (gap s.place) n) next given i m x (less (Write l v next) (path does k next given) i m e st) a in (r.0 ∙ onward (Write l v next) (path does k next given) m e, r.1)
      go (Read l to next) e (v ∷ given) zero zero st a ih = (sym (ap (λ (z : Access). z.section) (same_Some _ x a)), reads _ v (s ∷ path does k (loaded to v next) given) (same_Some _ x a) refl)
      go (Read l to next) e (v ∷ given) (suc i) zero st a ih = absurd (no_more (Read l to next) (path does k (loaded to v next) given) i st)
      go (Read l to next) e (v ∷ given) zero (suc m) st a ih = absurd (never (Read l to next) (path does k (loaded to v next) given) m e refl st)
      go (Read l to next) e (v ∷ given) (suc i) (suc m) st a ih = let r = ih (entered (gap s.place) n) (loaded to v next) given i m x (less (Read l to next) (path does k (loaded to v next) given) i m e st) a in (r.0 ∙ onward (Read l to next) (path does k (loaded to v next) given) m e, r.1)
      go (Swap l w to next) e (v ∷ given) zero zero st a ih = (sym (ap (λ (z : Access). z.section) (same_Some _ x a)), reads _ v (s ∷ path does k (loaded to v next) given) (same_Some _ x a) refl)
      go (Swap l w to next) e (v ∷ given) (suc i) zero st a ih = absurd (no_more (Swap l w to next) (path does k (loaded to v next) given) i st)
      go (Swap l w to next) e (v ∷ given) zero (suc m) st a ih = absurd (never (Swap l w to next) (path does k (loaded to v next) given) m e refl st)
      go (Swap l w to next) e (v ∷ given) (suc i) (suc m) st a ih = let r = ih (suc (entered (gap s.place) n)) (loaded to v next) given i m x (less (Swap l w to next) (path does k (loaded to v next) given) i m e st) a in (r.0 ∙ onward (Swap l w to next) (path does k (loaded to v next) given) m e, r.1)
      go b e given i m st a ih = absurd cc

  -- of a plain store and a later access
  pub sections_differ : (k n : ℕ) (s : Local) (given : List ℕ) (i j : ℕ) (x y : Access) → slice_get (trace does gap k n s given).accesses i ≡ Some x →
      slice_get (trace does gap k n s given).accesses j ≡ Some y → i < j → x.read ≡ None →
      (x.section ≢ y.section) ↔ LiesBetween does gap (path does k s given) i j
  sections_differ k n s given i j x y a b h r = (forth, back)
    where
      states : List Local
      states = path does k s given

      forth : (x.section ≢ y.section) → LiesBetween does gap (path does k s given) i j
      forth ne =
          let (m, st) = step_of k n s given i x a in
          let (o, su) = step_of k n s given j y b in
          let f = section_of k n s given i m x st a in
          let g = section_of k n s given j o y su b in
          elim (parted_or_same does gap (path does k s given) n m o st.0 (later (path does k s given) i j m o st su h) st.1 (f.1 st.0 st.1 r)) [
            | inl w ↦ record { first = m; first_is = st; second = o; second_is = su; parted = w }
            | inr q ↦ absurd (ne (f.0 ∙ (sym q ∙ sym g.0)))
          ]

      back : LiesBetween does gap (path does k s given) i j → x.section ≢ y.section
      back l q =
          let f = (section_of k n s given i l.first x l.first_is a).0 in
          let g = (section_of k n s given j l.second y l.second_is b).0 in
          let m = parted_more does gap (path does k s given) n l.first l.second (later (path does k s given) i j l.first l.second l.first_is l.second_is h) l.parted in
          omega arith
