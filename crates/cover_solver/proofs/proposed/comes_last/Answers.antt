use Rattle.std.proofs.lemmas.Bool.{eqb-true}
use Rattle.tree_laws.proofs.AscendingSearched.{searched}
use Rattle.cover_solver.proofs.ProposedRuns.{last_ascends}
use Rattle.cover_solver.proofs.proposed.comes_last.Goals as goal

pub returns-in-Err : goal.returns-in-Err
returns-in-Err c end =
    let os = c.args.outcomes.now in
    let o = c.args.outcome.now in
    last_ascends os o c.in-Err.place c.requires (rw c.in-Err.is at (searched os o c.binary_search.result c.requires c.binary_search.ensures.bound c.binary_search.ensures.position)).belongs (eqb-true _ _ end)
