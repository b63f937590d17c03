use Rattle.cert_forest.proofs.Vocabulary.{◌≡◌, ◌++◌, List, sym, ap, ◌∙◌, GapNode, spell_gap, gap_line_at, is_gap_tree, same_gap}
use Rattle.cert_forest.proofs.gap_tree.gap_line.Goals as goal

pub of_nodes-requires : goal.of_nodes-requires
of_nodes-requires c =
    let p = c.in_ok-rest-2.ensures.pushes in
    is_gap_tree p.tree c.gap.new.nodes.items (p.pushed ∙ ap (λ (xs : List GapNode). xs ++ spell_gap p.tree) c.new-nodes.ensures.items)

pub returns : goal.returns
unfolding gap_line_at
returns c =
    let p = c.in_ok-rest-2.ensures.pushes in
    let is : p.tree ≡ c.in_ok-of_nodes.field-0 = same_gap p.tree c.in_ok-of_nodes.field-0 (sym (p.pushed ∙ ap (λ (xs : List GapNode). xs ++ spell_gap p.tree) c.new-nodes.ensures.items) ∙ sym c.in_ok-of_nodes.ensures) in
    rw (c.in_ok-rest.ensures, p.is_read, c.in_ok-rest-3.ensures) (cc)
