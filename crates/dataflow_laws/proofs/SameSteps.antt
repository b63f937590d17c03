-- The steps of a program and of the program without its dead loads, label by label.
use Rattle.std.proofs.Common.{◌≡◌, ℕ, Bool, true, false, ◌||◌, ◌&&◌, ◌==◌, not, List, [], ◌∷◌, ◌++◌, Option, Some, None, option_and_then, refl, sym, subst}
use Rattle.tso_program.specs.declared.action.Local.{Local}
use Rattle.tso_program.specs.declared.action.Action.{Action}
use Rattle.tso_program.specs.declared.listing.Listing.{Listing}
use Rattle.tso_program.specs.declared.shown.Shown.{Shown}
use Rattle.tso_program.specs.Listings.{action, start_of}
use Rattle.tso_machine.specs.declared.label.Label.{Label, TheVariants.Exec, TheVariants.Flush}
use Rattle.tso_machine.specs.declared.label.Pending.{Pending}
use Rattle.tso_machine.specs.Machine.{Machine, SequentialMachine, StoreBufferMachine, State, put, newest, found, when_empty, past_gap, buffered, flushed, step, run, start, is_empty, from_some, passes_at, passes}
use Rattle.tso_machine.proofs.ChangedAt.{put_both}
use Rattle.tso_machine.proofs.EitherMachine.{effect}
use Rattle.dataflow_laws.specs.DeadLoads.{Places, drop_loads, AreDead}
use Rattle.dataflow_laws.proofs.DroppedPlaces.{same_registers}
use Rattle.dataflow_laws.proofs.SameRegisters.{Agree, AlikeActs, Stops, Goes, Waits, Reads, Drops, Writes, Swaps, alike_acts}

module _ (p : Listing) (shown : Shown) where
  -- the threads agree, and the buffers and the memory are the same
  pub record Alike (s z : State) : Type 0 where
    pub each : (t : ℕ) → Agree p shown t (s.locals t) (z.locals t)
    pub buffers : s.buffers ≡ z.buffers
    pub memory : s.memory ≡ z.memory

  -- neither is there, or they are alike
  abbrev pub AlikeIfAny : Option State → Option State → Type 0
  AlikeIfAny None None = Unit {0}
  AlikeIfAny (Some s) (Some z) = Alike s z
  AlikeIfAny None (Some z) = ⊥
  AlikeIfAny (Some s) None = ⊥

  when_alike : (ws : List Pending) (s z : State) → Alike s z → AlikeIfAny (when_empty ws s) (when_empty ws z)
  when_alike [] s z h = h
  when_alike (w ∷ ws) s z h = tt

  -- a state with these threads
  abbrev with : (ℕ → Local) → (ℕ → List Pending) → (ℕ → ℕ) → State
  with locals buffers memory = record { locals = locals; buffers = buffers; memory = memory }

  module _ (f g : ℕ → Local) (h : (u : ℕ) → Agree p shown u (f u) (g u)) (t : ℕ) where
    -- both threads go on
    gone : (a b : Local) (buffers : ℕ → List Pending) (memory : ℕ → ℕ) → Agree p shown t a b → Alike (with (put f t a) buffers memory) (with (put g t b) buffers memory)
    gone a b buffers memory here = record { each = put_both (λ u x y. Agree p shown u x y) f g t a b here (λ u n. h u); buffers = refl; memory = refl }

    -- alike actions lead to alike states
    effects : (waits : Bool) (buffers : ℕ → List Pending) (memory : ℕ → ℕ) (x y : Action) → AlikeActs p shown t x y →
        AlikeIfAny (effect waits (with f buffers memory) t x) (effect waits (with g buffers memory) t y)
    effects true buffers memory x y Stops = tt
    effects true buffers memory x y (Goes a b e) = gone a b buffers memory e
    effects true buffers memory x y (Waits a b e) = when_alike (buffers t) _ _ (gone a b buffers memory e)
    effects true buffers memory x y (Reads l to a b e) = gone _ _ buffers memory (e (found (newest l (buffers t)) (memory l)))
    effects true buffers memory x y (Drops l to a b e) = gone _ _ buffers memory (e (found (newest l (buffers t)) (memory l)))
    effects true buffers memory x y (Writes l v a b e) = gone a b (put buffers t (buffers t ++ record { location = l; value = v } ∷ [])) memory e
    effects true buffers memory x y (Swaps l v to a b e) = when_alike (buffers t) _ _ (gone _ _ buffers (put memory l v) (e (memory l)))
    effects false buffers memory x y Stops = tt
    effects false buffers memory x y (Goes a b e) = gone a b buffers memory e
    effects false buffers memory x y (Waits a b e) = gone a b buffers memory e
    effects false buffers memory x y (Reads l to a b e) = gone _ _ buffers memory (e (memory l))
    effects false buffers memory x y (Drops l to a b e) = gone _ _ buffers memory (e (memory l))
    effects false buffers memory x y (Writes l v a b e) = gone a b buffers (put memory l v) e
    effects false buffers memory x y (Swaps l v to a b e) = gone _ _ buffers (put memory l v) (e (memory l))

  -- a flush, of the same buffer
  flushes : (f g : ℕ → Local) → ((u : ℕ) → Agree p shown u (f u) (g u)) → (t : ℕ) (buffers : ℕ → List Pending) (memory : ℕ → ℕ) (ws : List Pending) →
      AlikeIfAny (flushed (with f buffers memory) t ws) (flushed (with g buffers memory) t ws)
  flushes f g h t buffers memory [] = tt
  flushes f g h t buffers memory (w ∷ ws) = record { each = h; buffers = refl; memory = refl }

  -- what stands at a gap, fenced or not
  gap_alike : (b : Bool) (ws : List Pending) (s z : State) (k m : State → Option State) → AlikeIfAny (k s) (m z) →
      AlikeIfAny (option_and_then k (past_gap b ws s)) (option_and_then m (past_gap b ws z))
  gap_alike true [] s z k m h = h
  gap_alike true (w ∷ ws) s z k m h = tt
  gap_alike false ws s z k m h = h

  -- the rest of a run
  rest_alike : (o r : Option State) (k m : State → Option State) → ((s z : State) → Alike s z → AlikeIfAny (k s) (m z)) → AlikeIfAny o r →
      AlikeIfAny (option_and_then k o) (option_and_then m r)
  rest_alike None None k m each h = tt
  rest_alike (Some s) (Some z) k m each h = each s z h
  rest_alike None (Some z) k m each h = absurd h
  rest_alike (Some s) None k m each h = absurd h

  module _ (here : Places) (dead : AreDead p shown here) where
    abbrev q : Listing
    q = drop_loads here p

    pub acts : (f g : ℕ → Local) → ((u : ℕ) → Agree p shown u (f u) (g u)) → (t : ℕ) → AlikeActs p shown t (action p.threads t (f t)) (action q.threads t (g t))
    acts f g h t = alike_acts p shown t here dead (f t) (g t) (h t)

    -- one step, with the same buffers and memory
    steps : (mode : Machine) (f g : ℕ → Local) (buffers : ℕ → List Pending) (memory : ℕ → ℕ) → ((u : ℕ) → Agree p shown u (f u) (g u)) → (l : Label) →
        AlikeIfAny (step p mode (with f buffers memory) l) (step q mode (with g buffers memory) l)
    steps SequentialMachine f g buffers memory h (Exec t) = effects f g h t false buffers memory _ _ (acts f g h t)
    steps SequentialMachine f g buffers memory h (Flush t) = tt
    steps (StoreBufferMachine gaps) f g buffers memory h (Exec t) =
        subst (λ k. AlikeIfAny (step p (StoreBufferMachine gaps) (with f buffers memory) (Exec t))
        (option_and_then (λ s. buffered s t (action q.threads t (g t))) (past_gap (gaps t k) (buffers t) (with g buffers memory)))) ((h t).place)
        (gap_alike (gaps t (f t).place) (buffers t) (with f buffers memory) (with g buffers memory)
        (λ s. buffered s t (action p.threads t (f t))) (λ s. buffered s t (action q.threads t (g t))) (effects f g h t true buffers memory _ _ (acts f g h t)))
    steps (StoreBufferMachine gaps) f g buffers memory h (Flush t) = flushes f g h t buffers memory (buffers t)

    pub step_alike : (mode : Machine) (s z : State) (l : Label) → Alike s z → AlikeIfAny (step p mode s l) (step q mode z l)
    step_alike mode s z l h =
        let same : with z.locals s.buffers s.memory ≡ z = (λ i. record { locals = z.locals; buffers = h.buffers i; memory = h.memory i }) in
        subst (λ y. AlikeIfAny (step p mode s l) (step q mode y l)) same (steps mode s.locals z.locals s.buffers s.memory h.each l)

    -- a run, label by label
    pub run_alike : (mode : Machine) (ls : List Label) (s z : State) → Alike s z → AlikeIfAny (run p mode s ls) (run q mode z ls)
    run_alike mode [] s z h = h
    run_alike mode (l ∷ ls) s z h = rest_alike (step p mode s l) (step q mode z l) _ _ (λ s' z' h'. run_alike mode ls s' z' h') (step_alike mode s z l h)

    -- they pass the same places
    passes_now : (s z : State) (l : Label) (t k : ℕ) → Alike s z → passes_at s l t k ≡ passes_at z l t k
    passes_now s z (Flush u) t k h = refl
    passes_now s z (Exec u) t k h = λ i. (u == t) && (((h.each t).place i == k) && not (is_empty (h.buffers i t)))

    rest_passes : (o r : Option State) (k m : State → Bool) → ((s z : State) → Alike s z → k s ≡ m z) → AlikeIfAny o r → from_some k o ≡ from_some m r
    rest_passes None None k m each h = refl
    rest_passes (Some s) (Some z) k m each h = each s z h
    rest_passes None (Some z) k m each h = absurd h
    rest_passes (Some s) None k m each h = absurd h

    pub passes_alike : (mode : Machine) (ls : List Label) (s z : State) (t k : ℕ) → Alike s z → passes p mode s ls t k ≡ passes q mode z ls t k
    passes_alike mode [] s z t k h = refl
    passes_alike mode (l ∷ ls) s z t k h =
        let now : passes_at s l t k ≡ passes_at z l t k = passes_now s z l t k h in
        let later : from_some (λ next. passes p mode next ls t k) (step p mode s l) ≡ from_some (λ next. passes q mode next ls t k) (step q mode z l) =
        rest_passes (step p mode s l) (step q mode z l) _ _ (λ s' z' h'. passes_alike mode ls s' z' t k h') (step_alike mode s z l h) in
        λ i. now i || later i

    -- both start alike
    pub start_alike : Alike (start p) (start q)
    start_alike = record {
      each = λ t. let same = same_registers here 0 t p.threads (record { code = []; registers = [] }) in
          subst (λ (registers : List ℕ). Agree p shown t (start_of p.threads t) (record { place = 0; registers = registers; flag = false })) (sym same)
          (record { place = refl; flag = refl; long = refl; held = λ i live. refl });
      buffers = refl;
      memory = refl;
    }
