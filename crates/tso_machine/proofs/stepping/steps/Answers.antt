use Rattle.tso_machine.proofs.Vocabulary.{◌∙◌, take, Some, sym, ap, subst, arith, Exec, Listing, Machine, start, machine_of_model, Cores, state_of, FitsProgram}
use Rattle.tso_machine.proofs.{Link.state_of_first, Link.first_fits, Runs.run_on, Runs.faulted, Runs.no_stores_by, Stepped.steps_on}
use Rattle.tso_machine.proofs.stepping.steps.Goals as goal

pub loop-n-init : goal.loop-n-init
loop-n-init c = record {
  reached = ap Some (sym (state_of_first c.args.program.now) ∙ ap state_of (sym c.in-Ok.ensures));
  made = rw c.new-steps.ensures.items tt;
  fits = subst (λ (s : Cores). FitsProgram c.args.program.now s) (sym c.in-Ok.ensures) (first_fits c.args.program.now);
}

pub make_step-requires-clause-direct : goal.make_step-requires-clause-direct
make_step-requires-clause-direct c =
    no_stores_by c.args.program.now c.args.fenced.now c.args.model (take c.loop-n.n c.args.labels.now) (state_of c.loop-n.state) c.loop-n.invariant.reached

pub returns-in-Err-clause-fault : goal.returns-in-Err-clause-fault
returns-in-Err-clause-fault c =
    rw c.fault_at.ensures (faulted c.args.program.now (machine_of_model c.args.program.now c.args.fenced.now c.args.model) c.args.labels.now c.loop-n.n (Exec 0) (state_of c.loop-n.state) c.in-Err.fault (omega arith) c.loop-n.invariant.reached c.in-Err.ensures.err)

pub loop-n-preserved : goal.loop-n-preserved
loop-n-preserved c =
    let p : Listing = c.args.program.now in
    let mode : Machine = machine_of_model p c.args.fenced.now c.args.model in
    record {
      reached = run_on p mode (start p) c.args.labels.now c.loop-n.n (Exec 0) (state_of c.loop-n.state) (state_of c.make_step.new.state) (omega arith) c.loop-n.invariant.reached c.in-Ok-make_step.ensures.made;
      made = rw c.in-Ok-push.ensures.items (steps_on p mode (start p) c.args.labels.now c.loop-n.n (Exec 0) c.loop-n.steps.items (state_of c.loop-n.state) (state_of c.make_step.new.state) c.in-Ok-make_step.step (omega arith)
          c.loop-n.invariant.made c.loop-n.invariant.reached c.in-Ok-make_step.ensures.made c.in-Ok-make_step.ensures.step);
      fits = c.in-Ok-make_step.ensures.fits;
    }
