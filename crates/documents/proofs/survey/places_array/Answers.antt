use Rattle.documents.proofs.Vocabulary.{◌∙◌, ℕ, List, [], ◌∷◌, ◌++◌, get_or, ap, sym, map_more}
use Rattle.documents.specs.Surveys.{quoted_place}
use Rattle.documents.proofs.survey.places_array.Goals as goal

pub loop-place-preserved : goal.loop-place-preserved
loop-place-preserved c =
    let said : ℕ × ℕ → List ℕ = quoted_place in
    let places = c.args.places.now in
    let i = c.loop-place.place-index in
    c.in_ok-add.ensures ∙ ap (λ (json : List ℕ). c.loop-place.array ++ json ∷ []) c.in_ok-quoted_place.ensures
    ∙ ap (λ (texts : List (List ℕ)). texts ++ said (get_or places i (0, 0)) ∷ []) c.loop-place.invariant ∙ sym (map_more said places i (0, 0) c.loop-place-test.true)
