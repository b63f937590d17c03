use Rattle.std.proofs.lemmas.Option.{IfSome_then}
use Rattle.std.proofs.lemmas.Result.{IfOk-weaker}
use Rattle.cover_solver.proofs.WithDeadLoads.{listed_back}
use Rattle.cover_solver.proofs.proposed.judged_for.Goals as goal

pub returns : goal.returns
returns c =
    let search = c.args.search.now in
    IfOk-weaker c.judged.result _ _ (λ found all. IfSome_then found all (λ list.
    listed_back search.program.now c.args.slim.now search.shown.now search.mode c.requires c.dropped_loads_keep_gaps.ensures.gaps c.dead_loads_keep_runs.ensures.runs c.dead_loads_keep_outcomes.ensures.outcomes list)) c.judged.ensures
