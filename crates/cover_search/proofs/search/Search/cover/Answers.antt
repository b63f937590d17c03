use Rattle.cover_search.proofs.Vocabulary.{refl, sym, ◌∙◌, subst, [], ◌++◌, ap, asked, machine_of_mode, IsWholeCover, spell, is_tree, List, Node, ProgramSketch, IsCoverAt, nothing_chosen}
use Rattle.cert_trees.proofs.NodeLaws.{same_tree}
use Rattle.cover_search.proofs.Nodes.{cover_first}
use Rattle.cover_search.proofs.search.Search.cover.Goals as goal

pub of_nodes-requires : goal.of_nodes-requires
of_nodes-requires c = (let made = c.in_ok-cover.ensures.tree in is_tree made.tree c.cover.new.nodes.items (made.pushed ∙ ap (λ (xs : List Node). xs ++ spell made.tree) c.new-nodes.ensures.items))

pub returns-clause-tree : goal.returns-clause-tree
returns-clause-tree c =
    let p = c.args.self.now.program.now in
    let shown = c.args.self.now.shown.now in
    let mode = c.args.self.now.mode in
    let outcomes = c.args.outcomes.now in
    let made = c.in_ok-cover.ensures.tree in
    let spelled = made.pushed ∙ ap (λ (xs : List Node). xs ++ spell made.tree) c.new-nodes.ensures.items in
    subst (IsWholeCover (asked p shown) (machine_of_mode p mode) outcomes) (sym (same_tree c.in_ok-of_nodes.field-0 made.tree (c.in_ok-of_nodes.ensures ∙ spelled)))
    (cover_first p mode c.in_ok-sketch.sketch shown outcomes made.tree c.in_ok-sketch.ensures.empty made.is)
