use Rattle.hunt_calls.proofs.Vocabulary.{◌∙◌, ap, sym}
use Rattle.gap_sets.specs.declared.region.Region.{Region}
use Rattle.hunt_calls.proofs.search.confirm.Goals as goal

pub confirm-requires-clause-of_node : goal.confirm-requires-clause-of_node
confirm-requires-clause-of_node g c = λ node holds.
    c.in_ok-served.ensures.gaps ∙ ap (λ (n : Region). n.must) (sym (c.in-Some.ensures.value.only node holds))
