-- Each value that a run stores to a location is one that the location may hold.
use Rattle.candidate_executions.proofs.Vocabulary.{◌≡◌, ℕ, suc, List, [], ◌∷◌, ◌++◌, Option, Some, None, slice_get, slice_index, refl, sym, subst, inl, inr, Reg}
use Rattle.candidate_executions.proofs.Vocabulary.{Listing, Local, start_of, loaded, put, State, newest, found, Pending, IsHeldValue}
use Rattle.candidate_executions.proofs.{Orders.Lists.get_cases, Orders.Lists.put_each, FromRuns.NewestStore.newest_some}
use Rattle.tso_machine.specs.HeldValues.{Memory, Here}
use Rattle.tso_machine.proofs.ThreadsHold.{Knows, KnowsAfter, knows_start}
pub use Rattle.tso_machine.proofs.ThreadsHold.{Fair, fair_at}

module _ (p : Listing) where
  -- registers, buffers and memory hold such values
  pub record Valued (locals : ℕ → Local) (buffers : ℕ → List Pending) (memory : ℕ → ℕ) : Type 0 where
    pub registers : (t : ℕ) → Knows p t (locals t)
    pub waiting : (t q : ℕ) (w : Pending) → slice_get (buffers t) q ≡ Some w → IsHeldValue p w.location w.value
    pub stored : (l : ℕ) → IsHeldValue p l (memory l)

  module _ (s : State) (v : Valued s.locals s.buffers s.memory) (t : ℕ) where
    pub found_value : (l : ℕ) → IsHeldValue p l (found (newest l (s.buffers t)) (s.memory l))
    found_value l = go (newest l (s.buffers t)) refl
      where
        go : (o : Option ℕ) → newest l (s.buffers t) ≡ o → IsHeldValue p l (found o (s.memory l))
        go None e = v.stored l
        go (Some x) e = let f = newest_some l (s.buffers t) x e in
            subst (λ z. IsHeldValue p l z) f.value (subst (λ z. IsHeldValue p z f.store.value) f.location (v.waiting t f.place f.store f.at))

    pub valued_local : (next : Local) → Knows p t next → Valued (put s.locals t next) s.buffers s.memory
    valued_local next k = record {
      registers = put_each (λ u x. Knows p u x) s.locals t next k (λ u n. v.registers u);
      waiting = v.waiting;
      stored = v.stored;
    }

    pub valued_loaded : (l : ℕ) (to : Reg) (next : Local) (x : ℕ) → IsHeldValue p l x → KnowsAfter p t l to next → Valued (put s.locals t (loaded to x next)) s.buffers s.memory
    valued_loaded l to next x h k = valued_local (loaded to x next) (k x h)

    pub valued_memory : (locals : ℕ → Local) (l x : ℕ) → IsHeldValue p l x → Valued locals s.buffers s.memory → Valued locals s.buffers (put s.memory l x)
    valued_memory locals l x h w = record {
      registers = w.registers;
      waiting = w.waiting;
      stored = put_each (λ u y. IsHeldValue p u y) s.memory l x h (λ u n. v.stored u);
    }

    pub valued_write : (next : Local) (l x : ℕ) → Knows p t next → IsHeldValue p l x →
        Valued (put s.locals t next) (put s.buffers t (s.buffers t ++ record { location = l; value = x } ∷ [])) s.memory
    valued_write next l x k h = record {
      registers = put_each (λ u x. Knows p u x) s.locals t next k (λ u n. v.registers u);
      waiting = put_each (λ u b. (q : ℕ) (w : Pending) → slice_get b q ≡ Some w → IsHeldValue p w.location w.value) s.buffers t (s.buffers t ++ record { location = l; value = x } ∷ [])
          (λ q w a. elim (get_cases (s.buffers t) (record { location = l; value = x }) q w a) [
            | inl o ↦ v.waiting t q w o
            | inr o ↦ subst (λ (z : Pending). IsHeldValue p z.location z.value) (sym o.1) h
          ]) (λ u n. v.waiting u);
      stored = v.stored;
    }

    pub valued_flush : (w : Pending) (ws : List Pending) → s.buffers t ≡ w ∷ ws → Valued s.locals (put s.buffers t ws) (put s.memory w.location w.value)
    valued_flush w ws e = record {
      registers = v.registers;
      waiting = put_each (λ u b. (q : ℕ) (w : Pending) → slice_get b q ≡ Some w → IsHeldValue p w.location w.value) s.buffers t ws
          (λ q x a. v.waiting t (suc q) x (rw e a)) (λ u n. v.waiting u);
      stored = put_each (λ u y. IsHeldValue p u y) s.memory w.location w.value (v.waiting t 0 w (rw e refl)) (λ u n. v.stored u);
    }

  pub valued_start : Valued (start_of p.threads) (λ t. []) (slice_index p.memory)
  valued_start = record {
    registers = λ t. knows_start p t;
    waiting = λ t q w a. absurd cc;
    stored = λ l. Here _ _ (Memory l);
  }
