use Rattle.survey_text.proofs.Executed.{all_shown, no_runs, one_more}
use Rattle.survey_text.proofs.Vocabulary.{arith}
use Rattle.survey_text.proofs.execution.executed_runs.Goals as goal

pub loop-at-init : goal.loop-at-init
loop-at-init c = rw c.new-runs.ensures.items (no_runs c.args.program.now c.args.visits.now)

pub loop-at-preserved : goal.loop-at-preserved
loop-at-preserved c = one_more c.args.program.now c.args.visits.now c.loop-at.at c.loop-at.runs.items c.add_run.new.runs.items c.loop-at.invariant c.in_ok-add_run.ensures

pub returns : goal.returns
returns c = all_shown c.args.program.now c.args.visits.now c.loop-at.at c.loop-at.runs.items (omega arith) c.loop-at.invariant
