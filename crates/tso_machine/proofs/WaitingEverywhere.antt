-- A run of the store buffer machine that executes each instruction with an empty buffer is as good as a sequential one.
use Rattle.std.proofs.Common.{◌≡◌, ℕ, true, List, [], ◌∷◌, ◌++◌, ◌⊎◌, Some, option_and_then, refl, sym, ap, ◌∙◌, subst, inl, inr, map, length}
use mathlib.Core.Path.{fun_ext}
use Rattle.std.specs.List.{range_with_len}
use Rattle.tso_program.specs.declared.listing.Listing.{Listing}
use Rattle.tso_program.specs.declared.action.Local.{Local}
use Rattle.tso_program.specs.declared.action.Action.{TheVariants.Write}
use Rattle.tso_program.specs.Listings.{action}
use Rattle.tso_program.specs.Actions.{loaded}
use Rattle.tso_program.specs.Fences.{Gaps}
use Rattle.tso_program.specs.declared.outcome.Outcome.{Outcome}
use Rattle.tso_machine.specs.declared.label.Label.{Label, TheVariants.Exec, TheVariants.Flush}
use Rattle.tso_machine.specs.declared.label.Pending.{Pending}
use Rattle.tso_machine.specs.Machine.{put, SequentialMachine, StoreBufferMachine, State, newest, found, direct, run, start, IsRun, outcome_at}
use Rattle.tso_machine.proofs.{ChangedAt.put_both, StepCases.exec_by, StepCases.flush_by}

-- every gap is fenced, and the places before the first instructions too
abbrev pub all : Gaps
all = λ t k. true

module _ (p : Listing) where
  -- thread t stands alike in both machines, or its one store waits, and the sequential machine is still before it
  abbrev Alike : ℕ → Local → List Pending → Local → Type 0
  Alike t local buffer other = ((buffer ≡ []) × (local ≡ other)) ⊎ ((w : Pending) × (buffer ≡ w ∷ []) × (action p.threads t other ≡ Write w.location w.value local))

  record Match (s z : State) : Type 0 where
    pub memory : s.memory ≡ z.memory
    pub empty : (t : ℕ) → z.buffers t ≡ []
    pub each : (t : ℕ) → Alike t (s.locals t) (s.buffers t) (z.locals t)

  -- with nothing waiting they stand at one place
  same_local : (s z : State) (t : ℕ) → Match s z → s.buffers t ≡ [] → s.locals t ≡ z.locals t
  same_local s z t m e = elim (m.each t) [ inl a ↦ a.1 | inr a ↦ absurd (let q : [] ≡ a.0 ∷ [] = sym e ∙ a.1 in cc) ]

  -- both go on to the same state of thread t
  both : (s z : State) (t : ℕ) (next : Local) (m n : ℕ → ℕ) → Match s z → s.buffers t ≡ [] → m ≡ n →
      Match (record s { locals = put s.locals t next; memory = m }) (record z { locals = put z.locals t next; memory = n })
  both s z t next m n h e q = record {
    memory = q;
    empty = h.empty;
    each = put_both (λ u local other. Alike u local (s.buffers u) other) s.locals z.locals t next next (inl (e, refl)) (λ u r. h.each u);
  }

  -- some sequential labels lead from the one state to the other's like
  abbrev After : State → State → Type 0
  After z last = (ls : List Label) × (end : State) × (run p SequentialMachine z ls ≡ Some end) × Match last end

  -- a sequential step goes before further ones
  then_exec : (z z' last : State) (t : ℕ) → direct z t (action p.threads t (z.locals t)) ≡ Some z' → After z' last → After z last
  then_exec z z' last t e a = (Exec t ∷ a.0, a.1, ap (option_and_then (λ x. run p SequentialMachine x a.0)) e ∙ a.2, a.3)

  -- the sequential machine stores when the other flushes
  unbuffer : (last : State) (js : List Label) (s z : State) → Match s z → run p (StoreBufferMachine all) s js ≡ Some last → After z last
  unbuffer last [] s z m r = let e : s ≡ last = cc in ([], z, refl, subst (λ x. Match x z) e m)
  unbuffer last (Flush t ∷ js) s z m r = flush_by last (λ x. run p (StoreBufferMachine all) x js) p all s t _ r (λ w ws e r.
      elim (m.each t) [
        | inl a ↦ absurd (let q : [] ≡ w ∷ ws = sym a.0 ∙ e in cc)
        | inr a ↦ (let q : w ∷ ws ≡ a.0 ∷ [] = sym e ∙ a.1 in let qw : a.0 ≡ w = cc in let qs : ws ≡ [] = cc in
            let act : action p.threads t (z.locals t) ≡ Write w.location w.value (s.locals t) = subst (λ (x : Pending). action p.threads t (z.locals t) ≡ Write x.location x.value (s.locals t)) qw a.2 in
            let z' : State = record z { locals = put z.locals t (s.locals t); memory = put z.memory w.location w.value } in
            then_exec z z' last t (rw act refl) (unbuffer last js _ z' (record {
              memory = ap (λ x. put x w.location w.value) m.memory;
              empty = m.empty;
              each = put_both (λ u buffer other. Alike u (s.locals u) buffer other) s.buffers z.locals t ws (s.locals t) (inl (qs, refl)) (λ u r. m.each u);
            }) r))
      ])
  unbuffer last (Exec t ∷ js) s z m r = exec_by last (λ x. run p (StoreBufferMachine all) x js) p all s t _ r
      (λ next e g r. then_exec z (record z { locals = put z.locals t next }) last t (rw (sym (same_local s z t m (g refl)), e) refl)
      (unbuffer last js _ _ (both s z t next s.memory z.memory m (g refl) m.memory) r))
      (λ next e g r. then_exec z (record z { locals = put z.locals t next }) last t (rw (sym (same_local s z t m g), e) refl)
      (unbuffer last js _ _ (both s z t next s.memory z.memory m g m.memory) r))
      (λ l to next e g r.
      let v : found (newest l (s.buffers t)) (s.memory l) ≡ z.memory l = ap (λ b. found (newest l b) (s.memory l)) (g refl) ∙ ap (λ x. x l) m.memory in
      then_exec z (record z { locals = put z.locals t (loaded to (z.memory l) next) }) last t (rw (sym (same_local s z t m (g refl)), e) refl)
      (unbuffer last js _ _ (both s z t (loaded to (z.memory l) next) s.memory z.memory m (g refl) m.memory)
      (subst (λ x. run p (StoreBufferMachine all) (record s { locals = put s.locals t (loaded to x next) }) js ≡ Some last) v r)))
      (λ l v next e g r. unbuffer last js _ z (record {
        memory = m.memory;
        empty = m.empty;
        each = put_both (λ u local buffer. Alike u local buffer (z.locals u)) s.locals s.buffers t next (s.buffers t ++ record { location = l; value = v } ∷ [])
            (inr (
              record { location = l; value = v },
              ap (λ b. b ++ record { location = l; value = v } ∷ []) (g refl),
              ap (action p.threads t) (sym (same_local s z t m (g refl))) ∙ e,
            )) (λ u q. m.each u);
      }) r)
      (λ l v to next e g r.
      let w : s.memory l ≡ z.memory l = ap (λ x. x l) m.memory in
      then_exec z (record z { locals = put z.locals t (loaded to (z.memory l) next); memory = put z.memory l v }) last t (rw (sym (same_local s z t m g), e) refl)
      (unbuffer last js _ _ (both s z t (loaded to (z.memory l) next) (put s.memory l v) (put z.memory l v) m g (ap (λ x. put x l v) m.memory))
      (subst (λ x. run p (StoreBufferMachine all) (record s { locals = put s.locals t (loaded to x next); memory = put s.memory l v }) js ≡ Some last) w r)))

  -- states that are alike have one outcome
  same_end : (s z : State) → ((t : ℕ) → s.locals t ≡ z.locals t) → s.memory ≡ z.memory → outcome_at p s ≡ outcome_at p z
  same_end s z l m = λ i. record {
    registers = (ap (λ f. map f (range_with_len 0 (length p.threads))) (fun_ext (λ t. ap (λ (x : Local). x.registers) (l t)))) i;
    memory = (ap (λ f. map f (range_with_len 0 (length p.memory))) m) i;
  }

  -- a run that waits at each gap has a sequential outcome
  pub to_sequential : (labels : List Label) (o : Outcome) → IsRun p (StoreBufferMachine all) labels o → (ls : List Label) × IsRun p SequentialMachine ls o
  to_sequential labels o (last, r, ended, e) =
      let (ls, end, run_is, m) = unbuffer last labels (start p) (start p) (record { memory = refl; empty = λ t. refl; each = λ t. inl (refl, refl) }) r in
      let same : (t : ℕ) → last.locals t ≡ end.locals t = λ t. same_local last end t m (ended t).1 in
      (ls, (end, run_is, (λ t. (ap (action p.threads t) (sym (same t)) ∙ (ended t).0, m.empty t)), e ∙ same_end last end same m.memory))
