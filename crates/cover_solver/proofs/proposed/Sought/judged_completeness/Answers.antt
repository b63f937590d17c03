use Rattle.cover_solver.proofs.Vocabulary.{ℕ, Result, IfErr, subst}
use Rattle.tree_laws.specs.Ascending.{BelongsAt}
use Rattle.tree_laws.proofs.AscendingSearched.{not_there, searched}
use Rattle.cover_solver.proofs.proposed.Sought.judged_completeness.Goals as goal

pub returns-in-Err : goal.returns-in-Err
returns-in-Err c =
    let o = c.in-Some.outcome in
    let os = c.args.outcomes.now in
    let found = searched os o c.binary_search.result c.requires c.binary_search.ensures.bound c.binary_search.ensures.position in (
      o,
      rw c.deref-in-Some-Lacking.ensures.value at (rw c.in-Some.is at c.in_ok-outcome-in-Some-Lacking.ensures),
      not_there os o c.in-Err.field-0 (subst (λ (r : Result ℕ ℕ). IfErr r (BelongsAt os o)) c.in-Err.is found.belongs),
    )
