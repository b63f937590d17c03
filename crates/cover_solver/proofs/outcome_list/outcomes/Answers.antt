use Rattle.cover_solver.proofs.Vocabulary.{◌↔◌, Contains, subst, asked, Machine, AllowsShown}
use Rattle.cover_solver.proofs.outcome_list.outcomes.Goals as goal

pub returns-clause-exact : goal.returns-clause-exact
returns-clause-exact c o =
    let p = c.args.program.now in
    let outcomes = c.in_ok-listed.field-0.outcomes.items in
    subst (λ (mode : Machine). Contains outcomes o ↔ AllowsShown (asked p c.args.shown.now) mode o) (c.unfenced.ensures p) (c.in_ok-listed.ensures.exact o)
