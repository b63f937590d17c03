use Rattle.json_values.proofs.Vocabulary.{◌∙◌, ℕ, List, [], ◌∷◌, ◌++◌, ap, sym, map-append, quoted_gap}
use Rattle.json_values.proofs.named.gap_names.Goals as goal

pub loop-gap-preserved : goal.loop-gap-preserved
loop-gap-preserved c =
    let said = quoted_gap c.args.program.now.threads in
    c.in_ok-add.ensures ∙ ap (λ (json : List ℕ). c.loop-gap.array ++ json ∷ []) c.in_ok-gap_name.ensures
    ∙ ap (λ (texts : List (List ℕ)). texts ++ said c.in-Some.gap ∷ []) c.loop-gap.invariant ∙ sym (map-append said c.loop-gap.yielded (c.in-Some.gap ∷ []))
