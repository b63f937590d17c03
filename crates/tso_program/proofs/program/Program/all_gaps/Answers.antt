use Rattle.tso_program.proofs.Gaps.{none_below, one_more}
use Rattle.tso_program.proofs.program.Program.all_gaps.Goals as goal

pub loop-gap-init : goal.loop-gap-init
loop-gap-init c = λ gap. none_below gap c.empty-gaps.result c.empty-gaps.ensures

pub loop-gap-preserved : goal.loop-gap-preserved
loop-gap-preserved c = one_more c.loop-gap.gaps c.with-gaps.result c.loop-gap.gap c.loop-gap.invariant c.with-gaps.ensures
