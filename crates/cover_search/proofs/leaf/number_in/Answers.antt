use Rattle.cover_search.proofs.Vocabulary.{Option, Some, ℕ, subst, slice_get, Outcome}
use Rattle.std.specs.Prelude.{Err, Ok, Result, IfErr, IfOk, ◌≡◌}
use Rattle.tree_laws.specs.Ascending.{BelongsAt}
use Rattle.tree_laws.proofs.AscendingSearched.{not_there, searched}
use Rattle.cover_search.proofs.leaf.number_in.Goals as goal

pub returns-in-Ok : goal.returns-in-Ok
returns-in-Ok c =
    let os = c.args.outcomes.now in
    let o = c.args.outcome.now in
    let found = searched os o c.binary_search.result c.requires c.binary_search.ensures.bound c.binary_search.ensures.position in
    subst (λ (r : Result ℕ ℕ). IfOk r (λ place. slice_get os place ≡ Some o)) c.in-Ok.is found.there

pub returns-in-Err : goal.returns-in-Err
returns-in-Err c =
    let os = c.args.outcomes.now in
    let o = c.args.outcome.now in
    let found = searched os o c.binary_search.result c.requires c.binary_search.ensures.bound c.binary_search.ensures.position in
    not_there os o c.in-Err.field-0 (subst (λ (r : Result ℕ ℕ). IfErr r (BelongsAt os o)) c.in-Err.is found.belongs)
