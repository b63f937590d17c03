use Rattle.cover_search.proofs.Vocabulary.{sym, ◌∙◌, subst, same_Some, MayChoose}
use Rattle.candidate_executions.specs.Values.{IsValueOf}
use Rattle.cover_search.proofs.choice.choose.Goals as goal

pub give_value-chosen-requires-clause-value : goal.give_value-chosen-requires-clause-value
give_value-chosen-requires-clause-value c =
    let t = c.in-Value.t in
    let v = c.in-Value.value in
    let may = subst (MayChoose c.args.sketch.now) c.in-Value.is c.requires in
    (λ location e. subst (λ l. IsValueOf c.args.sketch.now.program l v) (same_Some may.0 location (sym may.1 ∙ e)) may.2)
