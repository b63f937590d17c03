use Rattle.cover_solver.specs.Sought.{question_of, machine_of}
use Rattle.cover_solver.proofs.ProposedRuns.{one_more}
use Rattle.cover_solver.proofs.proposed.Sought.outcomes_of.Goals as goal

pub loop-labels-preserved : goal.loop-labels-preserved
loop-labels-preserved c =
    one_more (question_of c.args.self.now) (machine_of c.args.self.now) c.args.runs.now c.loop-labels.labels-iterator c.next.new.self c.in-Some.labels.now c.loop-labels.outcomes.items c.push.new.self.items c.in-Some-2.outcome
    c.in-Some.ensures.steps c.loop-labels.invariant (rw c.in-Some-2.is at c.in_ok-outcome.ensures) (rw c.deref.ensures.value at (c.comes_last.ensures c.if-not-comes_last.false)) c.in_ok-push.ensures.items
