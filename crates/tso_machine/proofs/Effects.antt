-- What a step does to the machine's state, by what it does to a thread and to the memory.
use Rattle.tso_machine.proofs.Vocabulary.{◌≡◌, ℕ, ◌<◌, Bool, true, false, ◌&&◌, ◌||◌, not, List, [], ◌∷◌, ◌++◌, Option, Some, None, option_and_then, length, length-set, refl, sym, ap, ◌∙◌, subst, slice_index, slice_set, if◌then◌else◌}
use Rattle.tso_machine.proofs.Vocabulary.{nat_cmp, Exec, Pending, Model, Listing, Action, Stop, Go, Wait, Read, Write, Swap, action, machine_of_model, gaps_in, waits, loaded, IsLocated, put, State, newest, found, is_empty, when_empty, past_gap, buffered}
use Rattle.tso_machine.proofs.Vocabulary.{direct, step, Core, Cores, core_at, state_of, AreLocated, FitsProgram, after_buffered, after_direct, after_action, same_Some as some_is}
use Rattle.std.specs.FinSet as set
use Rattle.tso_machine.specs.declared.label.Model.TheVariants as models
use Rattle.tso_machine.proofs.Link.{state_set, state_moved, memory_set, located_front, fits_set}

-- no action of a thread that doesn't have to wait is kept waiting
free : (ws : List Pending) (w here : Bool) (o : Option (Core × List ℕ)) (x : Core × List ℕ) → (if not (is_empty ws) && (w || here) then None else o) ≡ Some x →
    (o ≡ Some x) × (here ≡ true → ws ≡ []) × (w ≡ true → ws ≡ [])
free [] w here o x e = (e, (λ h. refl), (λ h. refl))
free (y ∷ ys) false false o x e = (e, (λ h. absurd cc), (λ h. absurd cc))
free ws w here o x e = absurd cc

-- a gap lets through what has nothing waiting there
pub past_if_empty : (b : Bool) (ws : List Pending) (s : State) (f : State → Option State) → (b ≡ true → ws ≡ []) → option_and_then f (past_gap b ws s) ≡ f s
past_if_empty true (w ∷ ws) s f h = absurd (let z : (w ∷ ws) ≡ [] = h refl in cc)
past_if_empty b ws s f h = refl

emptied : (ws : List Pending) (s : State) → ws ≡ [] → when_empty ws s ≡ Some s
emptied [] s h = refl
emptied (w ∷ ws) s h = absurd cc

module _ (s : Cores) (t : ℕ) (h : t < length s.cores) where
  moved : (x : Core) (memory : List ℕ) (f : ℕ → ℕ) → x.buffer ≡ (core_at s.cores t).buffer → f ≡ slice_index memory →
      record { locals = put (state_of s).locals t x.local; buffers = (state_of s).buffers; memory = f }
      ≡ state_of (record { cores = slice_set s.cores t x; memory = memory })
  moved x memory f e m = (λ i. record { locals = put (state_of s).locals t x.local; buffers = (state_of s).buffers; memory = m i }) ∙ state_moved s t x memory h e

  -- what the thread's core and the memory become
  abbrev becomes : Core × List ℕ → State
  becomes x = state_of (record { cores = slice_set s.cores t x.0; memory = x.1 })

  buffered_is : (a : Action) (x : Core × List ℕ) → IsLocated (length s.memory) a → after_buffered a (core_at s.cores t) s.memory ≡ Some x →
      (waits a ≡ true → (core_at s.cores t).buffer ≡ []) → buffered (state_of s) t a ≡ Some (becomes x)
  buffered_is Stop x w e f = absurd cc
  buffered_is (Go next) x w e f = ap Some (moved (record (core_at s.cores t) { local = next }) s.memory _ refl refl ∙ ap becomes (some_is _ _ e))
  buffered_is (Wait next) x w e f = emptied (core_at s.cores t).buffer _ (f refl) ∙ ap Some (moved (record (core_at s.cores t) { local = next }) s.memory _ refl refl ∙ ap becomes (some_is _ _ e))
  buffered_is (Read l to next) x w e f = ap Some (moved (record (core_at s.cores t) { local = loaded to (found (newest l (core_at s.cores t).buffer) (slice_index s.memory l)) next }) s.memory _ refl refl ∙ ap becomes (some_is _ _ e))
  buffered_is (Write l v next) x w e f = ap Some (sym (state_set s t (record { local = next; buffer = (core_at s.cores t).buffer ++ record { location = l; value = v } ∷ [] }) s.memory h) ∙ ap becomes (some_is _ _ e))
  buffered_is (Swap l v to next) x w e f = emptied (core_at s.cores t).buffer _ (f refl) ∙ ap Some (moved (record (core_at s.cores t) { local = loaded to (slice_index s.memory l) next }) (slice_set s.memory l v) _ refl (memory_set s.memory l v w) ∙ ap becomes (some_is _ _ e))

  direct_is : (a : Action) (x : Core × List ℕ) → IsLocated (length s.memory) a → after_direct a (core_at s.cores t) s.memory ≡ Some x → direct (state_of s) t a ≡ Some (becomes x)
  direct_is Stop x w e = absurd cc
  direct_is (Go next) x w e = ap Some (moved (record (core_at s.cores t) { local = next }) s.memory _ refl refl ∙ ap becomes (some_is _ _ e))
  direct_is (Wait next) x w e = ap Some (moved (record (core_at s.cores t) { local = next }) s.memory _ refl refl ∙ ap becomes (some_is _ _ e))
  direct_is (Read l to next) x w e = ap Some (moved (record (core_at s.cores t) { local = loaded to (slice_index s.memory l) next }) s.memory _ refl refl ∙ ap becomes (some_is _ _ e))
  direct_is (Write l v next) x w e = ap Some (moved (record (core_at s.cores t) { local = next }) (slice_set s.memory l v) _ refl (memory_set s.memory l v w) ∙ ap becomes (some_is _ _ e))
  direct_is (Swap l v to next) x w e = ap Some (moved (record (core_at s.cores t) { local = loaded to (slice_index s.memory l) next }) (slice_set s.memory l v) _ refl (memory_set s.memory l v w) ∙ ap becomes (some_is _ _ e))

  pub exec_is : (p : Listing) (gaps : set.FinSet nat_cmp) (model : Model) (x : Core × List ℕ) →
      IsLocated (length s.memory) (action p.threads t (core_at s.cores t).local) →
      after_action (gaps_in p gaps t (core_at s.cores t).local.place) model (action p.threads t (core_at s.cores t).local) (core_at s.cores t) s.memory ≡ Some x →
      step p (machine_of_model p gaps model) (state_of s) (Exec t) ≡ Some (becomes x)
  exec_is p gaps models.Sequential x w e = direct_is (action p.threads t (core_at s.cores t).local) x w e
  exec_is p gaps models.Buffered x w e =
      let a : Action = action p.threads t (core_at s.cores t).local in
      let here : Bool = gaps_in p gaps t (core_at s.cores t).local.place in
      let ok = free (core_at s.cores t).buffer (waits a) here (after_buffered a (core_at s.cores t) s.memory) x e in
      past_if_empty here (core_at s.cores t).buffer (state_of s) (λ z. buffered z t a) ok.1 ∙ buffered_is a x w ok.0 ok.2

  kept_buffered : (n : ℕ) (a : Action) (x : Core × List ℕ) → length s.memory ≡ n → IsLocated n a → after_buffered a (core_at s.cores t) s.memory ≡ Some x → AreLocated n (core_at s.cores t).buffer →
      (length x.1 ≡ length s.memory) × AreLocated n x.0.buffer
  kept_buffered n Stop x m w e l = absurd cc
  kept_buffered n (Write k v next) x m w e l = subst (λ (z : Core × List ℕ). (length z.1 ≡ length s.memory) × AreLocated n z.0.buffer) (some_is _ _ e) (refl, located_front n (core_at s.cores t).buffer (record { location = k; value = v }) w l)
  kept_buffered n (Swap k v to next) x m w e l = subst (λ (z : Core × List ℕ). (length z.1 ≡ length s.memory) × AreLocated n z.0.buffer) (some_is _ _ e) (length-set s.memory k v, l)
  kept_buffered n a x m w e l = subst (λ (z : Core × List ℕ). (length z.1 ≡ length s.memory) × AreLocated n z.0.buffer) (some_is _ _ e) (refl, l)

  kept_direct : (n : ℕ) (a : Action) (x : Core × List ℕ) → after_direct a (core_at s.cores t) s.memory ≡ Some x → AreLocated n (core_at s.cores t).buffer →
      (length x.1 ≡ length s.memory) × AreLocated n x.0.buffer
  kept_direct n Stop x e l = absurd cc
  kept_direct n (Write k v next) x e l = subst (λ (z : Core × List ℕ). (length z.1 ≡ length s.memory) × AreLocated n z.0.buffer) (some_is _ _ e) (length-set s.memory k v, l)
  kept_direct n (Swap k v to next) x e l = subst (λ (z : Core × List ℕ). (length z.1 ≡ length s.memory) × AreLocated n z.0.buffer) (some_is _ _ e) (length-set s.memory k v, l)
  kept_direct n a x e l = subst (λ (z : Core × List ℕ). (length z.1 ≡ length s.memory) × AreLocated n z.0.buffer) (some_is _ _ e) (refl, l)

  pub exec_fits : (p : Listing) (here : Bool) (model : Model) (a : Action) (x : Core × List ℕ) → FitsProgram p s → IsLocated (length s.memory) a →
      after_action here model a (core_at s.cores t) s.memory ≡ Some x → FitsProgram p (record { cores = slice_set s.cores t x.0; memory = x.1 })
  exec_fits p here models.Sequential a x fits w e = let (long, l) = kept_direct (length p.memory) a x e (fits.stores t) in fits_set p s t x.0 x.1 fits h long l
  exec_fits p here models.Buffered a x fits w e =
      let ok = free (core_at s.cores t).buffer (waits a) here (after_buffered a (core_at s.cores t) s.memory) x e in
      let (long, l) = kept_buffered (length p.memory) a x fits.locations (subst (λ n. IsLocated n a) fits.locations w) ok.0 (fits.stores t) in fits_set p s t x.0 x.1 fits h long l

module _ (p : Listing) (gaps : set.FinSet nat_cmp) (model : Model) (s : Cores) (t : ℕ) (core : Core) (a : Action) (here : Bool) where
  -- the code's own view of a step: the thread, its action and whether a fenced gap stands before it
  pub record IsNext : Type 0 where
    pub thread : t < length s.cores
    pub found : core_at s.cores t ≡ core
    pub next : a ≡ action p.threads t core.local
    pub gap : here ≡ gaps_in p gaps t core.local.place

  action_is : IsNext → action p.threads t (core_at s.cores t).local ≡ a
  action_is n = ap (λ (c : Core). action p.threads t c.local) n.found ∙ sym n.next

  gap_is : IsNext → gaps_in p gaps t (core_at s.cores t).local.place ≡ here
  gap_is n = ap (λ (c : Core). gaps_in p gaps t c.local.place) n.found ∙ sym n.gap

  pub exec_done : (x : Core × List ℕ) → IsNext → FitsProgram p s → IsLocated (length p.memory) a → after_action here model a core s.memory ≡ Some x →
      (step p (machine_of_model p gaps model) (state_of s) (Exec t) ≡ Some (state_of (record { cores = slice_set s.cores t x.0; memory = x.1 })))
      × FitsProgram p (record { cores = slice_set s.cores t x.0; memory = x.1 })
  exec_done x n fits w e =
      let same : after_action (gaps_in p gaps t (core_at s.cores t).local.place) model (action p.threads t (core_at s.cores t).local) (core_at s.cores t) s.memory ≡ Some x =
      (λ j. after_action (gap_is n j) model (action_is n j) (n.found j) s.memory) ∙ e in
      let within : IsLocated (length s.memory) (action p.threads t (core_at s.cores t).local) =
      subst (λ b. IsLocated (length s.memory) b) (sym (action_is n)) (subst (λ m. IsLocated m a) (sym fits.locations) w) in
      (exec_is s t n.thread p gaps model x within same, exec_fits s t n.thread p _ model _ x fits within same)
