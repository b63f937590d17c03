use Rattle.json_values.proofs.Vocabulary.{◌∙◌, ℕ, List, [], ◌∷◌, ◌++◌, get_or, ap, sym, map_more, Label, spelling, quoted}
use Rattle.tso_machine.specs.declared.label.Label.{TheVariants.Exec}
use Rattle.json_values.proofs.label.labels_array.Goals as goal

pub loop-label-preserved : goal.loop-label-preserved
loop-label-preserved c =
    let text : Label → List ℕ = λ label. quoted (spelling label) in
    let labels = c.args.labels.now in
    let i = c.loop-label.label-index in
    c.in_ok-add.ensures ∙ ap (λ (json : List ℕ). c.loop-label.array ++ json ∷ []) c.in_ok-label_text.ensures
    ∙ ap (λ (texts : List (List ℕ)). texts ++ text (get_or labels i (Exec 0)) ∷ []) c.loop-label.invariant
    ∙ sym (map_more text labels i (Exec 0) c.loop-label-test.true)
