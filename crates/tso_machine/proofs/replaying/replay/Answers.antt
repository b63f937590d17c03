use Rattle.tso_machine.proofs.Vocabulary.{◌≡◌, ◌∙◌, take, Some, sym, ap, subst, refl, arith, take_all, Exec, Listing, Machine, start, HasEnded, machine_of_model, Cores, state_of, FitsProgram, IsUnfinished}
use Rattle.tso_machine.proofs.{Link.state_of_first, Link.first_fits, Link.outcome_is, Refused.no_fault, Refused.one_outcome}
use Rattle.tso_machine.proofs.Runs.{run_on, passed_on, none_passed, faulted, no_stores_by, none_sequential, match_some, match_none}
use Rattle.tso_machine.proofs.replaying.replay.Goals as goal

pub loop-n-init : goal.loop-n-init
loop-n-init c = record {
  reached = ap Some (sym (state_of_first c.args.program.now) ∙ ap state_of (sym c.in-Ok.ensures));
  gaps = none_passed c.args.program.now (machine_of_model c.args.program.now c.args.fenced.now c.args.model) c.empty-passed.result c.empty-passed.ensures;
  fits = subst (λ (s : Cores). FitsProgram c.args.program.now s) (sym c.in-Ok.ensures) (first_fits c.args.program.now);
}

pub step-requires-clause-direct : goal.step-requires-clause-direct
step-requires-clause-direct c =
    no_stores_by c.args.program.now c.args.fenced.now c.args.model (take c.loop-n.n c.args.labels.now) (state_of c.loop-n.state) c.loop-n.invariant.reached

pub returns-in-Err-clause-fault : goal.returns-in-Err-clause-fault
returns-in-Err-clause-fault c =
    rw c.fault_at.ensures (faulted c.args.program.now (machine_of_model c.args.program.now c.args.fenced.now c.args.model) c.args.labels.now c.loop-n.n (Exec 0) (state_of c.loop-n.state) c.in-Err.fault (omega arith) c.loop-n.invariant.reached c.in-Err.ensures.err)

pub returns-in-Err-clause-accepts : goal.returns-in-Err-clause-accepts
returns-in-Err-clause-accepts c = λ outcome is_run.
    no_fault c.args.program.now (machine_of_model c.args.program.now c.args.fenced.now c.args.model) c.args.labels.now outcome c.fault_at.result is_run (returns-in-Err-clause-fault c)

pub loop-n-preserved : goal.loop-n-preserved
loop-n-preserved c =
    let p : Listing = c.args.program.now in
    let mode : Machine = machine_of_model p c.args.fenced.now c.args.model in
    record {
      reached = run_on p mode (start p) c.args.labels.now c.loop-n.n (Exec 0) (state_of c.loop-n.state) (state_of c.step.new.self) (omega arith) c.loop-n.invariant.reached c.in_default-step.ensures.ok;
      gaps = rw c.with_gap-passed.ensures (passed_on p c.loop-n.state mode c.args.labels.now c.loop-n.n (Exec 0) c.loop-n.passed c.passed_gap-gap.result (omega arith) c.loop-n.invariant.reached c.loop-n.invariant.gaps c.passed_gap-gap.ensures.value);
      fits = c.in_default-step.ensures.fits;
    }

pub returns-then-is_some-clause-fault : goal.returns-then-is_some-clause-fault
returns-then-is_some-clause-fault c =
    let p : Listing = c.args.program.now in
    let all : take c.loop-n.n c.args.labels.now ≡ c.args.labels.now = take_all c.loop-n.n c.args.labels.now (omega arith) in
    let (t, u) = match_some c.unfinished.result (HasEnded p (state_of c.loop-n.state)) (IsUnfinished p (state_of c.loop-n.state)) c.unfinished.ensures (sym c.is_some.ensures ∙ c.if-is_some.true) in
    record { all = refl; last = state_of c.loop-n.state; reached = rw all at c.loop-n.invariant.reached; thread = t; unfinished = u }

pub returns-then-is_some-clause-accepts : goal.returns-then-is_some-clause-accepts
returns-then-is_some-clause-accepts c = λ outcome is_run.
    no_fault c.args.program.now (machine_of_model c.args.program.now c.args.fenced.now c.args.model) c.args.labels.now outcome _ is_run (returns-then-is_some-clause-fault c)

pub returns-in-Ok-outcome-clause-run : goal.returns-in-Ok-outcome-clause-run
returns-in-Ok-outcome-clause-run c =
    let p : Listing = c.args.program.now in
    let all : take c.loop-n.n c.args.labels.now ≡ c.args.labels.now = take_all c.loop-n.n c.args.labels.now (omega arith) in
    let ended = match_none c.unfinished.result (HasEnded p (state_of c.loop-n.state)) (IsUnfinished p (state_of c.loop-n.state)) c.unfinished.ensures (sym c.is_some.ensures ∙ c.if-is_some.false) in
    (state_of c.loop-n.state, rw all at c.loop-n.invariant.reached, ended, outcome_is p c.loop-n.state c.in-Ok-outcome.outcome c.loop-n.invariant.fits c.in-Ok-outcome.ensures.registers c.in-Ok-outcome.ensures.memory)

pub returns-in-Ok-outcome-clause-accepts : goal.returns-in-Ok-outcome-clause-accepts
returns-in-Ok-outcome-clause-accepts c = λ outcome is_run.
    one_outcome c.args.program.now (machine_of_model c.args.program.now c.args.fenced.now c.args.model) c.args.labels.now c.in-Ok-outcome.outcome outcome (returns-in-Ok-outcome-clause-run c) is_run

pub returns-in-Ok-outcome-clause-sequential : goal.returns-in-Ok-outcome-clause-sequential
returns-in-Ok-outcome-clause-sequential c =
    none_sequential c.args.program.now c.args.fenced.now c.args.model (take c.loop-n.n c.args.labels.now) c.loop-n.passed c.loop-n.invariant.gaps
