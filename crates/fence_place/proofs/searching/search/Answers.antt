use Rattle.fence_place.proofs.Vocabulary.{◌≡◌, ◌∙◌, arith, subst, sym, Question, AreOf}
use Rattle.fence_place.proofs.Settling.{start_unheld}
use Rattle.fence_place.proofs.searching.search.Goals as goal

pub loop-tree-init : goal.loop-tree-init
loop-tree-init g c =
    let tree = c.in_ok-tree.tree in
    let parts = c.in_ok-tree.ensures.parts in
    let one : tree.seats ≡ 1 = parts.2 in (
      record {
        of_question = parts.0 ∙ sym c.requires.of_question;
        seats = omega arith;
        known = subst (λ (q : Question). AreOf q c.args.known.items) (sym c.requires.of_question) c.requires.known;
        none_held = start_unheld tree c.in_ok-tree.ensures.start;
      },
      parts.1,
    )
