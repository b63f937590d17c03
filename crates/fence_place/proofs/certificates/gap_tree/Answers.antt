use Rattle.fence_place.proofs.Vocabulary.{◌≡◌, ◌++◌, List, sym, ap, ◌∙◌, subst, Gap, GapNode, spell_gap, IsNumbered, is_gap_tree, same_gap, if_ok}
use Rattle.fence_place.proofs.certificates.gap_tree.Goals as goal

pub of_nodes-requires : goal.of_nodes-requires
of_nodes-requires c =
    let p = c.in_ok-push_tree.ensures in
    is_gap_tree p.tree c.push_tree.new.nodes.items (p.pushed ∙ ap (λ (xs : List GapNode). xs ++ spell_gap p.tree) c.new-nodes.ensures.items)

pub returns : goal.returns
returns c =
    let o = c.args.finished.now in
    let p = c.in_ok-push_tree.ensures in
    let pushed : c.push_tree.new.nodes.items ≡ spell_gap p.tree = p.pushed ∙ ap (λ (xs : List GapNode). xs ++ spell_gap p.tree) c.new-nodes.ensures.items in
    if_ok c.of_nodes.result (λ t. spell_gap t ≡ c.push_tree.new.nodes.items) (λ t. IsNumbered o.entries c.args.numbers.now t 0)
    (λ t e. subst (λ (g : Gap). IsNumbered o.entries c.args.numbers.now g 0) (same_gap p.tree t (sym (e ∙ pushed))) p.recorded) c.of_nodes.ensures
