-- Children are judged in their order, each at its own sketch or for its own region.
use Rattle.tree_laws.proofs.Vocabulary.{[], ◌∷◌, Rule, CoversAreJudgedInOrder, GapsAreJudgedInOrder}

pub covers_in_order : (rule : Rule) → CoversAreJudgedInOrder rule
covers_in_order rule q mode outcomes [] [] = ((λ valid. valid), (λ each. each))
covers_in_order rule q mode outcomes (tree ∷ trees) (k ∷ ks) =
    let others = covers_in_order rule q mode outcomes trees ks in
    ((λ valid. (valid.0, others.0 valid.1)), (λ each. (each.0, others.1 each.1)))
covers_in_order rule q mode outcomes h g = ((λ valid. absurd valid), (λ each. absurd each))

pub gaps_in_order : GapsAreJudgedInOrder
gaps_in_order q costs answer runs [] [] = ((λ valid. valid), (λ each. each))
gaps_in_order q costs answer runs (tree ∷ trees) (n ∷ ns) =
    let others = gaps_in_order q costs answer runs trees ns in
    ((λ valid. (valid.0, others.0 valid.1)), (λ each. (each.0, others.1 each.1)))
gaps_in_order q costs answer runs h g = ((λ valid. absurd valid), (λ each. absurd each))
