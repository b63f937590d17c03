-- A run with gaps fenced is a run with none fenced.
use Rattle.std.proofs.Common.{◌≡◌, Bool, true, List, [], ◌∷◌, Option, Some, option_and_then, ap, ◌∙◌}
use Rattle.std.proofs.lemmas.Option.{option_and_then_some}
use Rattle.tso_program.specs.declared.listing.Listing.{Listing}
use Rattle.tso_program.specs.Fences.{Gaps}
use Rattle.tso_program.specs.Listings.{action}
use Rattle.tso_machine.specs.declared.label.Label.{Label, TheVariants.Exec, TheVariants.Flush}
use Rattle.tso_machine.specs.declared.label.Pending.{Pending}
use Rattle.tso_machine.specs.Machine.{no_gaps, StoreBufferMachine, State, past_gap, buffered, step, run}

module _ (p : Listing) (gaps : Gaps) where
  -- what a gap let through can be done
  let_by : (b : Bool) (ws : List Pending) (s z : State) (f : State → Option State) → option_and_then f (past_gap b ws s) ≡ Some z → f s ≡ Some z
  let_by true (w ∷ ws) s z f e = absurd cc
  let_by b ws s z f e = e

  -- a step
  unfenced_step : (s z : State) (l : Label) → step p (StoreBufferMachine gaps) s l ≡ Some z → step p (StoreBufferMachine no_gaps) s l ≡ Some z
  unfenced_step s z (Flush t) e = e
  unfenced_step s z (Exec t) e = let_by (gaps t (s.locals t).place) (s.buffers t) s z (λ s'. buffered s' t (action p.threads t (s.locals t))) e

  -- by each step in turn
  pub unfenced : (ls : List Label) (s last : State) → run p (StoreBufferMachine gaps) s ls ≡ Some last → run p (StoreBufferMachine no_gaps) s ls ≡ Some last
  unfenced [] s last r = r
  unfenced (l ∷ ls) s last r = option_and_then_some (λ next. run p (StoreBufferMachine gaps) next ls) (step p (StoreBufferMachine gaps) s l) last r
      (λ z e rest. ap (option_and_then (λ next. run p (StoreBufferMachine no_gaps) next ls)) (unfenced_step s z l e) ∙ unfenced ls z last rest)
