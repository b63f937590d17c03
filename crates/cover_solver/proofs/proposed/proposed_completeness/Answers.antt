use Rattle.std.proofs.lemmas.Option.{IfSome_then}
use Rattle.std.proofs.lemmas.Result.{IfOk-weaker}
use Rattle.cover_solver.proofs.WithDeadLoads.{completeness_back}
use Rattle.cover_solver.proofs.proposed.proposed_completeness.Goals as goal

pub returns : goal.returns
returns c =
    let search = c.args.search.now in
    IfOk-weaker c.judged_completeness.result _ _ (λ found tells. IfSome_then found tells (completeness_back search.program.now c.in_ok-slim.slim search.shown.now search.mode c.in_ok-slim.ensures
    c.dropped_loads_keep_gaps.ensures.gaps c.dead_loads_keep_runs.ensures.runs c.dead_loads_keep_outcomes.ensures.outcomes c.args.outcomes.now)) c.judged_completeness.ensures
