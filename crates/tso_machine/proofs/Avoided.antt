-- A run with no gap fenced is a run with others fenced exactly where it passes none of them.
use Rattle.tso_machine.proofs.Vocabulary.{◌≡◌, ℕ, Bool, true, false, ◌&&◌, ◌==◌, not, List, [], ◌∷◌, Option, Some, None, option_and_then, refl, sym, ap, ◌∙◌, subst, eq-eqb, or_parts, or_from, eqb-true, Label, Exec, Flush, Pending, Listing, action, no_gaps}
use Rattle.tso_machine.proofs.Vocabulary.{StoreBufferMachine, State, past_gap, buffered, step, run, is_empty, from_some, passes_at, passes, Gaps}

module _ (p : Listing) (gaps : Gaps) where
  -- no gap of the set is passed
  abbrev Avoids : State → List Label → Type 0
  Avoids s ls = (t k : ℕ) → gaps t k ≡ true → passes p (StoreBufferMachine no_gaps) s ls t k ≡ false

  now : (s : State) (t : ℕ) → passes_at s (Exec t) t (s.locals t).place ≡ not (is_empty (s.buffers t))
  now s t = rw (eq-eqb t t refl, eq-eqb (s.locals t).place (s.locals t).place refl) refl

  gap_same : (b : Bool) (ws : List Pending) (s : State) (f : State → Option State) → (b ≡ true → not (is_empty ws) ≡ false) →
      option_and_then f (past_gap b ws s) ≡ f s
  gap_same true (w ∷ ws) s f h = absurd (let z : true ≡ false = h refl in cc)
  gap_same b ws s f h = refl

  same_step : (s : State) (l : Label) → ((t k : ℕ) → gaps t k ≡ true → passes_at s l t k ≡ false) → step p (StoreBufferMachine gaps) s l ≡ step p (StoreBufferMachine no_gaps) s l
  same_step s (Flush t) h = refl
  same_step s (Exec t) h = gap_same (gaps t (s.locals t).place) (s.buffers t) s (λ z. buffered z t (action p.threads t (s.locals t)))
      (λ g. sym (now s t) ∙ h t (s.locals t).place g)

  -- what a fence let through passes no fenced gap
  let_through : (b : Bool) (ws : List Pending) (s next : State) (f : State → Option State) → option_and_then f (past_gap b ws s) ≡ Some next → b ≡ true → not (is_empty ws) ≡ false
  let_through true [] s next f r e = refl
  let_through b ws s next f r e = absurd cc

  at_other : (a b c d : Bool) → (a ≡ true → b ≡ true → c ≡ false) → (a && (b && c)) ≡ false
  at_other true true c d h = h refl refl
  at_other a b c d h = refl

  step_avoids : (s next : State) (l : Label) → step p (StoreBufferMachine gaps) s l ≡ Some next → (t k : ℕ) → gaps t k ≡ true → passes_at s l t k ≡ false
  step_avoids s next (Flush u) r t k g = refl
  step_avoids s next (Exec u) r t k g = at_other (u == t) ((s.locals t).place == k) (not (is_empty (s.buffers t))) true (λ a b.
      let ut : u ≡ t = eqb-true u t a in
      let pk : (s.locals t).place ≡ k = eqb-true _ k b in
      let fenced : gaps u (s.locals u).place ≡ true = ap (λ x. gaps x (s.locals x).place) ut ∙ ap (gaps t) pk ∙ g in
      subst (λ x. not (is_empty (s.buffers x)) ≡ false) ut
      (let_through (gaps u (s.locals u).place) (s.buffers u) s next (λ z. buffered z u (action p.threads u (s.locals u))) r fenced))

  pub run_fenced : (ls : List Label) (s last : State) → run p (StoreBufferMachine no_gaps) s ls ≡ Some last → Avoids s ls → run p (StoreBufferMachine gaps) s ls ≡ Some last
  run_fenced [] s last r a = r
  run_fenced (l ∷ ls) s last r a =
      let e : step p (StoreBufferMachine gaps) s l ≡ step p (StoreBufferMachine no_gaps) s l = same_step s l (λ t k g. (or_parts _ _ (a t k g)).0) in
      ap (option_and_then (λ z. run p (StoreBufferMachine gaps) z ls)) e ∙
      go (step p (StoreBufferMachine no_gaps) s l) r (λ t k g. (or_parts _ _ (a t k g)).1) (λ z q b. run_fenced ls z last q b)
    where
      go : (o : Option State) → option_and_then (λ z. run p (StoreBufferMachine no_gaps) z ls) o ≡ Some last →
          ((t k : ℕ) → gaps t k ≡ true → from_some (λ next. passes p (StoreBufferMachine no_gaps) next ls t k) o ≡ false) →
          ((z : State) → run p (StoreBufferMachine no_gaps) z ls ≡ Some last → Avoids z ls → run p (StoreBufferMachine gaps) z ls ≡ Some last) →
          option_and_then (λ z. run p (StoreBufferMachine gaps) z ls) o ≡ Some last
      go None r a ih = absurd cc
      go (Some z) r a ih = ih z r a

  pub run_avoids : (ls : List Label) (s last : State) → run p (StoreBufferMachine gaps) s ls ≡ Some last → Avoids s ls
  run_avoids [] s last r t k g = refl
  run_avoids (l ∷ ls) s last r t k g = go (step p (StoreBufferMachine gaps) s l) refl r (λ z q. run_avoids ls z last q t k g)
    where
      go : (o : Option State) → step p (StoreBufferMachine gaps) s l ≡ o → option_and_then (λ z. run p (StoreBufferMachine gaps) z ls) o ≡ Some last →
          ((z : State) → run p (StoreBufferMachine gaps) z ls ≡ Some last → passes p (StoreBufferMachine no_gaps) z ls t k ≡ false) → passes p (StoreBufferMachine no_gaps) s (l ∷ ls) t k ≡ false
      go None q r rest = absurd cc
      go (Some z) q r rest =
          let here : (t k : ℕ) → gaps t k ≡ true → passes_at s l t k ≡ false = step_avoids s z l q in
          let made : step p (StoreBufferMachine no_gaps) s l ≡ Some z = sym (same_step s l here) ∙ q in
          or_from (passes_at s l t k) _ (here t k g) (ap (from_some (λ next. passes p (StoreBufferMachine no_gaps) next ls t k)) made ∙ rest z r)
