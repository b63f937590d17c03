-- A sequential run is a run of the store buffer machine, each store flushed at once, whatever the gaps.
use Rattle.std.proofs.Common.{◌≡◌, ℕ, Bool, true, false, List, [], ◌∷◌, ◌++◌, Option, Some, None, option_and_then, refl, sym, ap, ◌∙◌}
use Rattle.std.proofs.lemmas.Option.{same_Some}
use Rattle.tso_program.specs.declared.listing.Listing.{Listing}
use Rattle.tso_program.specs.declared.action.Local.{Local}
use Rattle.tso_program.specs.declared.action.Action.{Action, TheVariants.Stop, TheVariants.Go, TheVariants.Write}
use Rattle.tso_program.specs.Listings.{action}
use Rattle.tso_program.specs.Fences.{Gaps}
use Rattle.tso_machine.specs.Machine.{put, SequentialMachine, StoreBufferMachine}
use Rattle.tso_machine.specs.Machine.{State, past_gap, buffered, flushed, direct, run, start}
use Rattle.tso_machine.specs.declared.label.Label.{Label, TheVariants.Exec, TheVariants.Flush}
use Rattle.tso_machine.specs.declared.label.Pending.{Pending}
use Rattle.tso_machine.specs.FenceLaws.{SequentialRunsAreAllowed}
use Rattle.tso_machine.proofs.ChangedAt.{put_same, put_back}

module _ (p : Listing) (gaps : Gaps) where
  -- a gap lets through what has nothing waiting
  passes : (b : Bool) (ws : List Pending) (s : State) (f : State → Option State) → ws ≡ [] → option_and_then f (past_gap b ws s) ≡ f s
  passes true ws s f e = rw e refl
  passes false ws s f e = refl

  -- labels that lead from s to s'
  abbrev Leads : State → State → Type 0
  Leads s s' = (js : List Label) × ((ls : List Label) → run p (StoreBufferMachine gaps) s (js ++ ls) ≡ run p (StoreBufferMachine gaps) s' ls)

  -- an instruction is executed
  pub exec_step : (s s' : State) (t : ℕ) → s.buffers t ≡ [] → buffered s t (action p.threads t (s.locals t)) ≡ Some s' → (ls : List Label) →
      run p (StoreBufferMachine gaps) s (Exec t ∷ ls) ≡ run p (StoreBufferMachine gaps) s' ls
  exec_step s s' t empty e ls = ap (option_and_then (λ next. run p (StoreBufferMachine gaps) next ls))
      (passes (gaps t (s.locals t).place) (s.buffers t) s (λ z. buffered z t (action p.threads t (s.locals t))) empty ∙ e)

  -- the state with one more store waiting
  abbrev pub stored : State → ℕ → ℕ → ℕ → Local → State
  stored s t l v next = record s { locals = put s.locals t next; buffers = put s.buffers t (s.buffers t ++ record { location = l; value = v } ∷ []) }

  -- where it is the only one, its flush leads to the sequential state
  pub stored_flushed : (s s' : State) (t l v : ℕ) (next : Local) → s.buffers t ≡ [] → direct s t (Write l v next) ≡ Some s' →
      flushed (stored s t l v next) t ((stored s t l v next).buffers t) ≡ Some s'
  stored_flushed s s' t l v next empty h =
      let w : Pending = record { location = l; value = v } in
      let e : (stored s t l v next).buffers t ≡ w ∷ [] = put_same s.buffers t (s.buffers t ++ w ∷ []) ∙ ap (λ b. b ++ w ∷ []) empty in
      ap (flushed (stored s t l v next) t) e ∙
      (ap (λ (b : ℕ → List Pending). Some (record { locals = put s.locals t next; buffers = b; memory = put s.memory l v })) (put_back s.buffers t (s.buffers t ++ w ∷ []) [] empty) ∙ h)

  -- a sequential step is one label, or two for a store
  one_step : (s s' : State) (t : ℕ) → s.buffers t ≡ [] → (a : Action) → action p.threads t (s.locals t) ≡ a → direct s t a ≡ Some s' → Leads s s'
  one_step s s' t empty Stop e h = absurd cc
  one_step s s' t empty (Go next) e h = (Exec t ∷ [], exec_step s s' t empty (rw e h))
  one_step s s' t empty (Write l v next) e h = (
    Exec t ∷ Flush t ∷ [],
    λ ls.
        exec_step s (stored s t l v next) t empty (rw e refl) (Flush t ∷ ls) ∙ ap (option_and_then (λ next. run p (StoreBufferMachine gaps) next ls)) (stored_flushed s s' t l v next empty h),
  )
  one_step s s' t empty a e h = (Exec t ∷ [], exec_step s s' t empty (rw e (rw empty h)))

  -- a sequential step leaves the buffers
  pub same_buffers : (s s' : State) (t : ℕ) (a : Action) → direct s t a ≡ Some s' → s'.buffers ≡ s.buffers
  same_buffers s s' t Stop h = absurd cc
  same_buffers s s' t a h = sym (ap (λ (z : State). z.buffers) (same_Some _ s' h))

  -- by each step in turn
  pub embed : (last : State) (ls : List Label) (s : State) → ((t : ℕ) → s.buffers t ≡ []) → run p SequentialMachine s ls ≡ Some last →
      (js : List Label) × (run p (StoreBufferMachine gaps) s js ≡ Some last)
  embed last [] s empty r = ([], r)
  embed last (Flush t ∷ ls) s empty r = absurd cc
  embed last (Exec t ∷ ls) s empty r = go (direct s t (action p.threads t (s.locals t))) refl r (embed last ls)
    where
      go : (o : Option State) → direct s t (action p.threads t (s.locals t)) ≡ o → option_and_then (λ next. run p SequentialMachine next ls) o ≡ Some last →
          ((s : State) → ((t : ℕ) → s.buffers t ≡ []) → run p SequentialMachine s ls ≡ Some last → (js : List Label) × (run p (StoreBufferMachine gaps) s js ≡ Some last)) →
          (js : List Label) × (run p (StoreBufferMachine gaps) s js ≡ Some last)
      go None e r ih = absurd cc
      go (Some s') e r ih =
          let (is, f) = one_step s s' t (empty t) (action p.threads t (s.locals t)) refl e in
          let (js, g) = ih s' (λ u. ap (λ (b : ℕ → List Pending). b u) (same_buffers s s' t (action p.threads t (s.locals t)) e) ∙ empty u) r in
          (is ++ js, f js ∙ g)

-- the buffers of a sequential run stay empty, so its end is one of the other machine's
pub sequential_is_allowed : SequentialRunsAreAllowed
sequential_is_allowed q gaps o (labels, (whole, (last, r, ended, e), shown)) =
    let (js, f) = embed q.program gaps last labels (start q.program) (λ t. refl) r in
    (js, (whole, (last, f, ended, e), shown))
