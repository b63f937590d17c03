use Rattle.json_values.proofs.Vocabulary.{◌∙◌, ℕ, List, [], ◌∷◌, ◌++◌, get_or, ap, sym, arith, map_more, quoted}
use Rattle.json_values.proofs.program.location_names.Goals as goal

pub loop-number-preserved : goal.loop-number-preserved
loop-number-preserved c =
    let names = c.args.names.now.locations in
    let n = c.loop-number.number in
    c.in_ok-add.ensures ∙ ap (λ (json : List ℕ). c.loop-number.array ++ json ∷ []) c.in_ok-location.ensures
    ∙ ap (λ (texts : List (List ℕ)). texts ++ quoted (get_or names n []) ∷ []) c.loop-number.invariant ∙ sym (map_more quoted names n [] (omega arith))
