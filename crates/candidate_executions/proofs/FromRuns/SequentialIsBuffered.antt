-- A sequential run is a run of the store buffer machine, each store flushed at once, whatever the gaps.
use Rattle.candidate_executions.proofs.Vocabulary.{◌≡◌, ℕ, suc, List, [], ◌∷◌, ◌++◌, Option, Some, None, option_and_then, refl, sym, ap, ◌∙◌, Listing, Action, Stop, Go, Wait, Read, Write, Swap, action, Gaps, put, SequentialMachine, StoreBufferMachine, State}
use Rattle.candidate_executions.proofs.Vocabulary.{newest, found, buffered, direct, run, Label, Exec, Flush, Pending, Event, At, Origins, Mark, Takes, Arrives, found_write, with_made, with_waiting, with_memory, buffered_origins, buffered_marks}
use Rattle.candidate_executions.proofs.Vocabulary.{flushed_origins, flushed_marks, direct_origins, direct_marks, marks}
use Rattle.tso_machine.proofs.ChangedAt.{put_same, put_back}
use Rattle.tso_machine.proofs.SequentialIsBuffered.{exec_step, stored, stored_flushed, same_buffers}
use Rattle.candidate_executions.proofs.{FromRuns.MachineSteps.exec_ok, FromRuns.MarksAlong.marks_step}

module _ (p : Listing) (gaps : Gaps) where
  -- labels that lead from s to s', and show these marks
  abbrev Leads : State → Origins → State → Origins → List Mark → Type 0
  Leads s o s' o' ms = (js : List Label) × ((ls : List Label) → (run p (StoreBufferMachine gaps) s (js ++ ls) ≡ run p (StoreBufferMachine gaps) s' ls) ×
      (marks p (StoreBufferMachine gaps) s o (js ++ ls) ≡ ms ++ marks p (StoreBufferMachine gaps) s' o' ls))

  by_step : (s s' : State) (o o' : Origins) (t : ℕ) (ms : List Mark) → s.buffers t ≡ [] → buffered s t (action p.threads t (s.locals t)) ≡ Some s' →
      buffered_origins o t (action p.threads t (s.locals t)) ≡ o' → buffered_marks s o t (action p.threads t (s.locals t)) ≡ ms → Leads s o s' o' ms
  by_step s s' o o' t ms empty e f h = (
    Exec t ∷ [],
    λ ls. (exec_step p gaps s s' t empty e ls, marks_step p (StoreBufferMachine gaps) (Exec t) ls s s' o o' ms (exec_ok p gaps s s' t (λ g. empty) e) f h),
  )

  one_step : (s s' : State) (o : Origins) (t : ℕ) → s.buffers t ≡ [] → o.waiting t ≡ [] → (a : Action) → action p.threads t (s.locals t) ≡ a → direct s t a ≡ Some s' →
      Leads s o s' (direct_origins o t a) (direct_marks s o t a)
  one_step s s' o t empty none Stop e h = absurd cc
  one_step s s' o t empty none (Go next) e h = by_step s s' o o t [] empty (rw e h) (ap (buffered_origins o t) e) (ap (buffered_marks s o t) e)
  one_step s s' o t empty none (Wait next) e h = by_step s s' o o t [] empty (rw e (rw empty h)) (ap (buffered_origins o t) e) (ap (buffered_marks s o t) e)
  one_step s s' o t empty none (Read l to next) e h = by_step s s' o (with_made o t) t (Takes (At t (o.made t)) (s.memory l) (o.memory l) ∷ []) empty (rw e (rw empty h)) (ap (buffered_origins o t) e)
      (ap (buffered_marks s o t) e ∙ (λ i. Takes (At t (o.made t)) (found (newest l (empty i)) (s.memory l)) (found_write l (none i) (o.memory l)) ∷ []))
  one_step s s' o t empty none (Write l v next) e h =
      let here : Event = At t (o.made t) in
      let ws : List (ℕ × Event) = o.waiting t ++ (l, here) ∷ [] in
      let o₁ : Origins = with_made (with_waiting o t ws) t in
      let o₂ : Origins = with_made (with_memory o l here) t in
      let waits : o₁.waiting t ≡ (l, here) ∷ [] = put_same o.waiting t ws ∙ ap (λ b. b ++ (l, here) ∷ []) none in
      let back : flushed_origins o₁ t ((l, here) ∷ []) ≡ o₂ = ap (λ w. record { made = put o.made t (suc (o.made t)); waiting = w; memory = put o.memory l here }) (put_back o.waiting t ws [] none) in (
        Exec t ∷ Flush t ∷ [],
        λ ls. (
          exec_step p gaps s (stored p gaps s t l v next) t empty (rw e refl) (Flush t ∷ ls) ∙ ap (option_and_then (λ next. run p (StoreBufferMachine gaps) next ls)) (stored_flushed p gaps s s' t l v next empty h),
          marks_step p (StoreBufferMachine gaps) (Exec t) (Flush t ∷ ls) s (stored p gaps s t l v next) o o₁ [] (exec_ok p gaps s (stored p gaps s t l v next) t (λ g. empty) (rw e refl))
              (ap (buffered_origins o t) e) (ap (buffered_marks s o t) e)
              ∙ marks_step p (StoreBufferMachine gaps) (Flush t) ls (stored p gaps s t l v next) s' o₁ o₂ (Arrives here ∷ []) (stored_flushed p gaps s s' t l v next empty h)
              (ap (flushed_origins o₁ t) waits ∙ back) (ap flushed_marks waits),
        ),
      )
  one_step s s' o t empty none (Swap l v to next) e h = by_step s s' o (with_made (with_memory o l (At t (o.made t))) t) t (Takes (At t (o.made t)) (s.memory l) (o.memory l) ∷ Arrives (At t (o.made t)) ∷ [])
      empty (rw e (rw empty h)) (ap (buffered_origins o t) e) (ap (buffered_marks s o t) e)

  same_waiting : (o : Origins) (t : ℕ) (a : Action) → (direct_origins o t a).waiting ≡ o.waiting
  same_waiting o t Stop = refl
  same_waiting o t a = refl

  -- labels of the same run, which shows the same
  abbrev Embedded : State → Origins → List Label → State → Type 0
  Embedded s o ls last = (js : List Label) × (run p (StoreBufferMachine gaps) s js ≡ Some last) × (marks p SequentialMachine s o ls ≡ marks p (StoreBufferMachine gaps) s o js)

  pub embed : (last : State) (ls : List Label) (s : State) (o : Origins) → ((t : ℕ) → s.buffers t ≡ []) → ((t : ℕ) → o.waiting t ≡ []) → run p SequentialMachine s ls ≡ Some last → Embedded s o ls last
  embed last [] s o empty none r = ([], r, refl)
  embed last (Flush t ∷ ls) s o empty none r = absurd cc
  embed last (Exec t ∷ ls) s o empty none r = go (direct s t (action p.threads t (s.locals t))) refl r (embed last ls)
    where
      go : (r : Option State) → direct s t (action p.threads t (s.locals t)) ≡ r → option_and_then (λ next. run p SequentialMachine next ls) r ≡ Some last →
          ((s : State) (o : Origins) → ((t : ℕ) → s.buffers t ≡ []) → ((t : ℕ) → o.waiting t ≡ []) → run p SequentialMachine s ls ≡ Some last → Embedded s o ls last) →
          Embedded s o (Exec t ∷ ls) last
      go None e r ih = absurd cc
      go (Some s') e r ih =
          let (is, f) = one_step s s' o t (empty t) (none t) (action p.threads t (s.locals t)) refl e in
          let (js, g, same) = ih s' (direct_origins o t (action p.threads t (s.locals t))) (λ u. ap (λ (b : ℕ → List Pending). b u) (same_buffers p gaps s s' t (action p.threads t (s.locals t)) e) ∙ empty u)
          (λ u. ap (λ (w : ℕ → List (ℕ × Event)). w u) (same_waiting o t (action p.threads t (s.locals t))) ∙ none u) r in (
            is ++ js,
            (f js).0 ∙ g,
            marks_step p SequentialMachine (Exec t) ls s s' o (direct_origins o t (action p.threads t (s.locals t))) (direct_marks s o t (action p.threads t (s.locals t))) e refl refl
                ∙ (ap (λ x. direct_marks s o t (action p.threads t (s.locals t)) ++ x) same ∙ sym (f js).1),
          )
