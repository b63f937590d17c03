use Rattle.json_values.proofs.Vocabulary.{◌∙◌, ℕ, List, [], ◌∷◌, ◌++◌, get_or, ap, sym, map_more, outcome_array}
use Rattle.json_values.proofs.outcome.outcomes_array.Goals as goal

pub loop-outcome-preserved : goal.loop-outcome-preserved
loop-outcome-preserved c =
    let said = outcome_array c.args.names.now c.args.shown.now in
    let d = c.outcome-item.result in
    c.in_ok-add.ensures ∙ ap (λ (json : List ℕ). c.loop-outcome.array ++ json ∷ []) (c.in_ok-outcome_array.ensures ∙ ap said c.outcome-item.is)
    ∙ ap (λ (texts : List (List ℕ)). texts ++ said (get_or c.args.outcomes.now c.loop-outcome.outcome-index d) ∷ []) c.loop-outcome.invariant
    ∙ sym (map_more said c.args.outcomes.now c.loop-outcome.outcome-index d c.loop-outcome-test.true)
