use Rattle.cover_judge.proofs.Vocabulary.{sym, ◌∙◌, subst, same_Some, IsValueOf, CanChoose}
use Rattle.cover_judge.proofs.choice_mark.choose.Goals as goal

pub give_value-requires-clause-value : goal.give_value-requires-clause-value
give_value-requires-clause-value c =
    let can = subst (CanChoose c.args.sketch.now) c.in-Value.is c.requires in
    (λ location e. subst (λ l. IsValueOf c.args.sketch.now.program l c.in-Value.value) (same_Some can.0 location (sym can.1 ∙ e)) can.2)
