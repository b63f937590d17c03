-- Jumps lead forward, so a run has at most two labels for each instruction: one that executes it, and a flush.
use Rattle.tso_machine.proofs.Vocabulary.{◌≡◌, ℕ, suc, zero, ◌+◌, ◌-◌, ◌<◌, ◌≤◌, List, [], ◌∷◌, ◌++◌, Option, Some, None, option_and_then, refl, sym, ap, ◌∙◌, subst, inl, inr, arith, length, cases_eq, cases_lt, same_Some}
use Rattle.tso_machine.proofs.Vocabulary.{Listing, Local, Action, Stop, Go, Wait, Read, Write, Swap, loaded, action, code_of, Machine, SequentialMachine, StoreBufferMachine, State, put, direct, step, run, start, Label, Exec, Flush, Pending}
use Rattle.std.proofs.Common.{◌*◌, length-append}
use Rattle.tso_program.specs.Limits.{JumpForward}
use Rattle.tso_program.proofs.{Advance.Further, Advance.Advances, Advance.advance, Found.no_code}
use Rattle.tso_machine.specs.Laws.{EveryRunIsShort}
use Rattle.tso_machine.proofs.{Link.put_same, Link.put_other, StepCases.exec_by, StepCases.flush_by}

-- the sum of what each of the first n threads has
total : (ℕ → ℕ) → ℕ → ℕ
total f zero = 0
total f (suc n) = f n + total f n

total_same : (f g : ℕ → ℕ) (n : ℕ) → ((u : ℕ) → u < n → g u ≡ f u) → total g n ≡ total f n
unfolding total
total_same f g zero h = refl
total_same f g (suc n) h = let here = h n (omega arith) in let rest = total_same f g n (λ u l. h u (omega arith)) in omega arith

total_less : (f g : ℕ → ℕ) (n t : ℕ) → t < n → ((u : ℕ) → (u ≡ t → ⊥) → g u ≡ f u) → g t < f t → total g n < total f n
unfolding total
total_less f g zero t h other less = absurd (omega arith)
total_less f g (suc n) t h other less = elim (cases_eq n t) [
  | inl q ↦ (let here : g n < f n = subst (λ z. g z < f z) (sym q) less in let rest = total_same f g n (λ u l. other u (λ r. omega arith)) in omega arith)
  | inr ne ↦ (let here = other n ne in let rest = total_less f g n t (omega arith) other less in omega arith)
]

total_bound : (f : ℕ → ℕ) (k n : ℕ) → ((t : ℕ) → f t ≤ k) → total f n ≤ n * k
unfolding total
total_bound f k zero h = omega arith
total_bound f k (suc n) h = let here = h n in let rest = total_bound f k n h in omega arith

module _ (p : Listing) (forward : JumpForward p.threads) where
  abbrev len : ℕ → ℕ
  len t = length (code_of p.threads t)

  -- how many labels of thread t may still come
  abbrev room : State → ℕ → ℕ
  room s t = (len t - (s.locals t).place) + (len t - (s.locals t).place) + length (s.buffers t)

  -- no store of a thread that is not there waits
  abbrev Past : State → Type 0
  Past s = (t : ℕ) → length p.threads ≤ t → s.buffers t ≡ []

  abbrev Less : State → State → Type 0
  Less s s' = (total (room s') (length p.threads) < total (room s) (length p.threads)) × Past s'

  there : (t i : ℕ) → i < len t → t < length p.threads
  there t i h = elim (cases_lt t (length p.threads)) [ inl l ↦ l | inr g ↦ absurd (let none = ap length (no_code p.threads t g) in omega arith) ]

  moved : (s : State) (t : ℕ) (next : Local) (buffers : ℕ → List Pending) (memory : ℕ → ℕ) → Past s → Further (len t) (s.locals t).place next →
      ((u : ℕ) → (u ≡ t → ⊥) → buffers u ≡ s.buffers u) → length (buffers t) ≤ suc (length (s.buffers t)) →
      Less s (record { locals = put s.locals t next; buffers = buffers; memory = memory })
  moved s t next buffers memory past further other short =
      let here = there t (s.locals t).place further.0 in
      let now : State = record { locals = put s.locals t next; buffers = buffers; memory = memory } in
      let first = further.0 in let second = further.1 in
      let place : (put s.locals t next t).place ≡ next.place = ap (λ (z : Local). z.place) (put_same s.locals t next) in (
        total_less (room s) (room now) (length p.threads) t here
            (λ u n. let a : (put s.locals t next u).place ≡ (s.locals u).place = ap (λ (z : Local). z.place) (put_other s.locals t next u n) in let b = ap length (other u n) in omega arith)
            (omega arith),
        λ u h. other u (λ q. omega arith) ∙ past u h,
      )

  direct_less : (s s' : State) (t : ℕ) (a : Action) → Past s → Advances (len t) (s.locals t).place a → direct s t a ≡ Some s' → Less s s'
  direct_less s s' t Stop past d h = absurd cc
  direct_less s s' t (Go next) past d h = subst (Less s) (same_Some _ s' h) (moved s t next s.buffers s.memory past d (λ u n. refl) (omega arith))
  direct_less s s' t (Wait next) past d h = subst (Less s) (same_Some _ s' h) (moved s t next s.buffers s.memory past d (λ u n. refl) (omega arith))
  direct_less s s' t (Read l to next) past d h = subst (Less s) (same_Some _ s' h) (moved s t (loaded to (s.memory l) next) s.buffers s.memory past d (λ u n. refl) (omega arith))
  direct_less s s' t (Write l v next) past d h = subst (Less s) (same_Some _ s' h) (moved s t next s.buffers (put s.memory l v) past d (λ u n. refl) (omega arith))
  direct_less s s' t (Swap l v to next) past d h = subst (Less s) (same_Some _ s' h) (moved s t (loaded to (s.memory l) next) s.buffers (put s.memory l v) past d (λ u n. refl) (omega arith))

  step_less : (mode : Machine) (s s' : State) (l : Label) → Past s → step p mode s l ≡ Some s' → Less s s'
  step_less SequentialMachine s s' (Exec t) past h = direct_less s s' t (action p.threads t (s.locals t)) past (advance p forward t (s.locals t)) h
  step_less SequentialMachine s s' (Flush t) past h = absurd cc
  step_less (StoreBufferMachine gaps) s s' (Exec t) past h = exec_by s' Some p gaps s t (Less s s') (ap (option_and_then Some) h)
      (λ next e g r. subst (Less s) (same_Some _ s' r) (moved s t next s.buffers s.memory past (on (Go next) e) (λ u n. refl) (omega arith)))
      (λ next e g r. subst (Less s) (same_Some _ s' r) (moved s t next s.buffers s.memory past (on (Wait next) e) (λ u n. refl) (omega arith)))
      (λ l to next e g r. subst (Less s) (same_Some _ s' r) (moved s t _ s.buffers s.memory past (on (Read l to next) e) (λ u n. refl) (omega arith)))
      (λ l v next e g r.
      let w : Pending = record { location = l; value = v } in
      let longer = ap length (put_same s.buffers t (s.buffers t ++ w ∷ [])) in
      subst (Less s) (same_Some _ s' r) (moved s t next (put s.buffers t (s.buffers t ++ w ∷ [])) s.memory past (on (Write l v next) e)
      (put_other s.buffers t (s.buffers t ++ w ∷ [])) (omega (arith, length-append (s.buffers t) (w ∷ [])))))
      (λ l v to next e g r. subst (Less s) (same_Some _ s' r) (moved s t (loaded to (s.memory l) next) s.buffers (put s.memory l v) past (on (Swap l v to next) e) (λ u n. refl) (omega arith)))
    where
      on : (a : Action) → action p.threads t (s.locals t) ≡ a → Advances (len t) (s.locals t).place a
      on a e = subst (Advances (len t) (s.locals t).place) e (advance p forward t (s.locals t))
  step_less (StoreBufferMachine gaps) s s' (Flush t) past h = flush_by s' Some p gaps s t (Less s s') (ap (option_and_then Some) h)
      (λ w ws e r.
      let now : State = record s { buffers = put s.buffers t ws; memory = put s.memory w.location w.value } in
      let here : t < length p.threads = elim (cases_lt t (length p.threads)) [ inl l ↦ l | inr g ↦ absurd (let q : [] ≡ w ∷ ws = sym (past t g) ∙ e in cc) ] in
      subst (Less s) (same_Some _ s' r) (
        total_less (room s) (room now) (length p.threads) t here
            (λ u n. let b = ap length (put_other s.buffers t ws u n) in omega arith)
            (let a = ap length (put_same s.buffers t ws) in let b = ap length e in omega arith),
        λ u g. put_other s.buffers t ws u (λ q. omega arith) ∙ past u g,
      ))

  run_short : (mode : Machine) (labels : List Label) (s last : State) → Past s → run p mode s labels ≡ Some last → length labels ≤ total (room s) (length p.threads)
  run_short mode [] s last past h = omega arith
  run_short mode (l ∷ labels) s last past h = go (step p mode s l) refl h (run_short mode labels)
    where
      go : (o : Option State) → step p mode s l ≡ o → option_and_then (λ next. run p mode next labels) o ≡ Some last →
          ((s last : State) → Past s → run p mode s labels ≡ Some last → length labels ≤ total (room s) (length p.threads)) → suc (length labels) ≤ total (room s) (length p.threads)
      go None e h ih = absurd cc
      go (Some s') e h ih = let (less, past') = step_less mode s s' l past e in let rest = ih s' last past' h in omega arith

  -- with at most k instructions a thread
  pub run_bound : (mode : Machine) (labels : List Label) (last : State) (k : ℕ) → ((t : ℕ) → length (code_of p.threads t) ≤ k) → run p mode (start p) labels ≡ Some last → length labels ≤ length p.threads * (k + k)
  run_bound mode labels last k few h =
      let short = run_short mode labels (start p) last (λ t g. refl) h in
      let most = total_bound (room (start p)) (k + k) (length p.threads) (λ t. let z = few t in omega arith) in
      omega arith

pub every_run_is_short : EveryRunIsShort
every_run_is_short p mode labels o n forward few (last, h, ended, e) = run_bound p forward mode labels last n few h
