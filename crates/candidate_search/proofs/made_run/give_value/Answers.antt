use Rattle.std.proofs.Common.{Contains, ◌∙◌, sym, subst}
use Rattle.std.proofs.lemmas.Bool.{eqb-true}
use Rattle.std.proofs.lemmas.Option.{same_Some}
use Rattle.candidate_executions.specs.Values.{IsValueOf}
use Rattle.candidate_search.proofs.made_run.give_value.Goals as goal

pub give_value-requires-clause-value : goal.give_value-requires-clause-value
give_value-requires-clause-value c =
    let (i, within, test) = c.if-not-contains.ensures.cases in
    let has : Contains c.as_slice.result.now c.args.value = (i, within, eqb-true _ c.args.value (test c.args.value)) in
    let values = subst (λ xs. Contains xs c.args.value) c.as_slice.ensures.value has in
    λ location next. subst (λ l. IsValueOf c.args.sketch.now.program l c.args.value) (same_Some c.in-Some.location location (sym c.in-Some.is ∙ c.next_read.ensures.value ∙ next))
    ((c.in_ok-values.ensures.exact c.args.value).0 values)
