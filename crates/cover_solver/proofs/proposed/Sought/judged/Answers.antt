use Rattle.cover_solver.specs.Sought.{question_of, machine_of}
use Rattle.cover_solver.proofs.ProposedRuns.{exactly_allowed}
use Rattle.cover_solver.proofs.proposed.Sought.judged.Goals as goal

pub returns : goal.returns
returns c =
    let made = rw c.in-Some-2.is at c.in_ok-outcomes.ensures in
    record {
      ascend = made.ascend;
      runs = made.runs;
      exact = exactly_allowed (question_of c.args.self.now) (machine_of c.args.self.now) c.in-Some.proposed.runs c.in-Some-2.outcomes.items made.runs
          (rw c.deref-2.ensures.value at (c.in_ok-are_all.ensures c.if-not-branch.false));
    }
