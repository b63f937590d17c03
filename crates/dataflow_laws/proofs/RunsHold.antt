-- Every state of a run holds what it may.
use Rattle.std.proofs.Common.{◌≡◌, ℕ, zero, suc, Bool, true, false, List, [], ◌∷◌, ◌++◌, Option, Some, None, option_and_then, refl, ◌∙◌, subst, arith, ◌==◌, if◌then◌else◌}
use Rattle.std.specs.Prelude.{Contains}
use Rattle.std.proofs.lemmas.Bool.{eqb-true}
use Rattle.tso_program.specs.declared.action.Local.{Local}
use Rattle.tso_program.specs.declared.action.Action.{Action, TheVariants.Stop, TheVariants.Go, TheVariants.Wait, TheVariants.Read, TheVariants.Write, TheVariants.Swap}
use Rattle.tso_program.specs.declared.listing.Listing.{Listing}
use Rattle.tso_program.specs.Listings.{action}
use Rattle.tso_machine.specs.declared.label.Label.{Label, TheVariants.Exec, TheVariants.Flush}
use Rattle.tso_machine.specs.declared.label.Pending.{Pending}
use Rattle.tso_machine.specs.Machine.{Machine, SequentialMachine, StoreBufferMachine, State, put, or_else, newest, found, when_empty, past_gap, buffered, flushed, step, run, start}
use Rattle.tso_machine.proofs.ChangedAt.{put_each}
use Rattle.tso_machine.proofs.EitherMachine.{effect}
use Rattle.tso_machine.specs.HeldValues.{Location, Memory, MayHold, Here, From}
use Rattle.dataflow_laws.specs.Laws.{RunsHoldWhatTheyMay, ClosedTablesHaveAll}
use Rattle.tso_machine.proofs.ThreadsHold.{Knows, Fair, fair_at, knows_start}

module _ (p : Listing) where
  -- each store that waits has a value that its location may hold
  abbrev Wait' : List Pending → Type 0
  Wait' [] = Unit {0}
  Wait' (w ∷ ws) = MayHold p (Location w.location) w.value × Wait' ws

  one_more : (ws : List Pending) (w : Pending) → Wait' ws → MayHold p (Location w.location) w.value → Wait' (ws ++ w ∷ [])
  one_more [] w all h = (h, tt)
  one_more (x ∷ ws) w (here, all) h = (here, one_more ws w all h)

  each_waits : (ws : List Pending) → Wait' ws → (w : Pending) → Contains ws w → MayHold p (Location w.location) w.value
  each_waits [] all w (k, within, e) = absurd (omega arith)
  each_waits (x ∷ ws) (here, all) w (zero, within, e) = subst (λ (z : Pending). MayHold p (Location z.location) z.value) e here
  each_waits (x ∷ ws) (here, all) w (suc k, within, e) = each_waits ws all w (k, omega arith, e)

  -- so a load finds such a value
  newest_held : (l : ℕ) (ws : List Pending) → Wait' ws → (v : ℕ) → newest l ws ≡ Some v → MayHold p (Location l) v
  newest_held l [] all v e = absurd cc
  newest_held l (w ∷ ws) (here, all) v e = by_rest (λ u k. newest_held l ws all u k) (newest l ws) refl (w.location == l) refl e
    where
      by_rest : ((u : ℕ) → newest l ws ≡ Some u → MayHold p (Location l) u) → (o : Option ℕ) → newest l ws ≡ o → (b : Bool) → (w.location == l) ≡ b → or_else o (if b then Some w.value else None) ≡ Some v → MayHold p (Location l) v
      by_rest ih (Some u) q b c k = ih v (q ∙ k)
      by_rest ih None q true c k = let same : w.value ≡ v = cc in subst (λ m. MayHold p (Location m) v) (eqb-true w.location l c) (subst (MayHold p (Location w.location)) same here)
      by_rest ih None q false c k = absurd cc

  found_held : (l : ℕ) (ws : List Pending) (m : ℕ) → Wait' ws → MayHold p (Location l) m → MayHold p (Location l) (found (newest l ws) m)
  found_held l ws m all h = by_newest (newest l ws) refl
    where
      by_newest : (o : Option ℕ) → newest l ws ≡ o → MayHold p (Location l) (found o m)
      by_newest (Some v) e = newest_held l ws all v e
      by_newest None e = h

  record Holds (s : State) : Type 0 where
    pub threads : (t : ℕ) → Knows p t (s.locals t)
    pub buffers : (t : ℕ) → Wait' (s.buffers t)
    pub memory : (l : ℕ) → MayHold p (Location l) (s.memory l)

  -- of a state, if there is one
  abbrev HoldsIfAny : Option State → Type 0
  HoldsIfAny None = Unit {0}
  HoldsIfAny (Some s) = Holds s

  when_holds : (ws : List Pending) (s : State) → Holds s → HoldsIfAny (when_empty ws s)
  when_holds [] s h = h
  when_holds (w ∷ ws) s h = tt

  module _ (s : State) (h : Holds s) (t : ℕ) where
    moves : (next : Local) → Knows p t next → Holds (record s { locals = put s.locals t next })
    moves next k = record { threads = put_each (λ u x. Knows p u x) s.locals t next k (λ u n. h.threads u); buffers = h.buffers; memory = h.memory }

    writes : (next : Local) (l v : ℕ) → Knows p t next → MayHold p (Location l) v → Holds (record s { locals = put s.locals t next; memory = put s.memory l v })
    writes next l v k may = record {
      threads = put_each (λ u x. Knows p u x) s.locals t next k (λ u n. h.threads u);
      buffers = h.buffers;
      memory = put_each (λ m x. MayHold p (Location m) x) s.memory l v may (λ m n. h.memory m);
    }

    effects : (waits : Bool) (a : Action) → Fair p t a → HoldsIfAny (effect waits s t a)
    effects true Stop f = tt
    effects true (Go next) f = moves next f
    effects true (Wait next) f = when_holds (s.buffers t) _ (moves next f)
    effects true (Read l to next) f = moves _ (f _ (found_held l (s.buffers t) (s.memory l) (h.buffers t) (h.memory l)))
    effects true (Write l v next) (k, may) = record {
      threads = put_each (λ u x. Knows p u x) s.locals t next k (λ u n. h.threads u);
      buffers = put_each (λ u ws. Wait' ws) s.buffers t _ (one_more (s.buffers t) (record { location = l; value = v }) (h.buffers t) may) (λ u n. h.buffers u);
      memory = h.memory;
    }
    effects true (Swap l v to next) (k, may) = when_holds (s.buffers t) _ (writes _ l v (k _ (h.memory l)) may)
    effects false Stop f = tt
    effects false (Go next) f = moves next f
    effects false (Wait next) f = moves next f
    effects false (Read l to next) f = moves _ (f _ (h.memory l))
    effects false (Write l v next) (k, may) = writes next l v k may
    effects false (Swap l v to next) (k, may) = writes _ l v (k _ (h.memory l)) may

    flushes : (ws : List Pending) → Wait' ws → HoldsIfAny (flushed s t ws)
    flushes [] all = tt
    flushes (w ∷ ws) (here, all) = record {
      threads = h.threads;
      buffers = put_each (λ u xs. Wait' xs) s.buffers t ws all (λ u n. h.buffers u);
      memory = put_each (λ m x. MayHold p (Location m) x) s.memory w.location w.value here (λ m n. h.memory m);
    }

  past_holds : (b : Bool) (ws : List Pending) (s : State) (f : State → Option State) → HoldsIfAny (f s) → HoldsIfAny (option_and_then f (past_gap b ws s))
  past_holds true [] s f h = h
  past_holds true (w ∷ ws) s f h = tt
  past_holds false ws s f h = h

  steps : (mode : Machine) (s : State) (l : Label) → Holds s → HoldsIfAny (step p mode s l)
  steps SequentialMachine s (Exec t) h = effects s h t false _ (fair_at p t (s.locals t) _ (h.threads t) refl)
  steps SequentialMachine s (Flush t) h = tt
  steps (StoreBufferMachine gaps) s (Exec t) h =
      past_holds (gaps t (s.locals t).place) (s.buffers t) s (λ z. buffered z t (action p.threads t (s.locals t))) (effects s h t true _ (fair_at p t (s.locals t) _ (h.threads t) refl))
  steps (StoreBufferMachine gaps) s (Flush t) h = flushes s h t (s.buffers t) (h.buffers t)

  rest_holds : (o : Option State) (f : State → Option State) → ((s : State) → Holds s → HoldsIfAny (f s)) → HoldsIfAny o → HoldsIfAny (option_and_then f o)
  rest_holds None f each h = tt
  rest_holds (Some s) f each h = each s h

  runs : (mode : Machine) (labels : List Label) (s : State) → Holds s → HoldsIfAny (run p mode s labels)
  runs mode [] s h = h
  runs mode (l ∷ ls) s h = rest_holds (step p mode s l) (λ z. run p mode z ls) (λ z k. runs mode ls z k) (steps mode s l h)

  starts : Holds (start p)
  starts = record { threads = λ t. knows_start p t; buffers = λ t. tt; memory = λ l. Here _ _ (Memory l) }

pub runs_hold : RunsHoldWhatTheyMay
runs_hold p mode labels s e =
    let h : Holds p s = subst (HoldsIfAny p) e (runs p mode labels (start p) (starts p)) in
    record { registers = λ t. (h.threads t).held; waiting = λ t w there. each_waits p (s.buffers t) (h.buffers t) w there; memory = h.memory }

pub closed_have_all : ClosedTablesHaveAll
closed_have_all p table c v closed (Here e w b) = closed.begins e w b
closed_have_all p table c v closed (From d e w f h) = closed.flows d e w f (closed_have_all p table d w closed h)
