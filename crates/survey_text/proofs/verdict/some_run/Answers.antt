use Rattle.std.specs.FinSet as set
use Rattle.tso_machine.specs.Modes.{machine_of_mode}
use Rattle.survey_text.proofs.Claimed.{there_is}
use Rattle.survey_text.proofs.verdict.some_run.Goals as goal

pub returns : goal.returns
returns c =
    let p = c.args.litmus.now.program in
    let found = there_is p (machine_of_mode p c.unfenced-mode.result) c.args.litmus.now.condition.formula c.args.truth c.in_ok-found.found c.in_ok-found.ensures.found in
    rw c.is_some.ensures (rw (c.unfenced-mode.ensures p) at found)
