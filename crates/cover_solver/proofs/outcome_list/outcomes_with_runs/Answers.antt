use Rattle.cover_solver.proofs.outcome_list.outcomes_with_runs.Goals as goal

pub returns-clause-runs : goal.returns-clause-runs
returns-clause-runs g c = c.in_ok-proposed_or_found.ensures.runs

pub returns-clause-exact : goal.returns-clause-exact
returns-clause-exact g c o = c.in_ok-proposed_or_found.ensures.exact o
