-- What runs of the literature's programs show: store buffering, n6 (Sewell et al., CACM 2010, section 2), and store buffering with a locked exchange.
use Rattle.std.specs.Prelude.{◌≡◌, [], ◌∷◌}
use Rattle.tso_machine.specs.Machine.{SequentialMachine, StoreBufferMachine, no_gaps}
use Rattle.tso_machine.specs.Examples.{store_buffering, waiting_stores, in_turn, n6, n6_run, locked_exchange, locked_run}
use Rattle.candidate_executions.specs.declared.event.Event.TheVariants.{Initial, Access as At}
use Rattle.candidate_executions.specs.RunCandidates.{Takes, Arrives, marks_of}

pub record RunsShowTheirMarks : Type 0 where
  -- both loads find the initial writes, since both stores wait
  pub stores_wait : marks_of store_buffering (StoreBufferMachine no_gaps) waiting_stores
      ≡ Takes (At 0 1) 0 (Initial 1) ∷ Takes (At 1 1) 0 (Initial 0) ∷ Arrives (At 0 0) ∷ Arrives (At 1 0) ∷ []
  -- under sequential consistency the second thread's load finds the first thread's store
  pub in_turns : marks_of store_buffering SequentialMachine in_turn
      ≡ Arrives (At 0 0) ∷ Takes (At 0 1) 0 (Initial 1) ∷ Arrives (At 1 0) ∷ Takes (At 1 1) 1 (At 0 0) ∷ []
  -- a load finds its own thread's store, which waits, and which reaches memory after the other store to x
  pub own_store : marks_of n6 (StoreBufferMachine no_gaps) n6_run
      ≡ Takes (At 0 1) 1 (At 0 0) ∷ Takes (At 0 2) 0 (Initial 1) ∷ Arrives (At 1 0) ∷ Arrives (At 1 1) ∷ Arrives (At 0 0) ∷ []
  -- an exchange reads, and its write reaches memory at once
  pub exchange : marks_of locked_exchange (StoreBufferMachine no_gaps) locked_run
      ≡ Takes (At 1 1) 0 (Initial 0) ∷ Takes (At 0 0) 0 (Initial 0) ∷ Arrives (At 0 0) ∷ Takes (At 0 1) 0 (Initial 1) ∷ Arrives (At 1 0) ∷ []
