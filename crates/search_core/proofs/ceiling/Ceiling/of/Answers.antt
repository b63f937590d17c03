use Rattle.search_core.proofs.Vocabulary.{◌≡◌, ◌∙◌, ap, sym, subst, total, Question, IsCeiling}
use Rattle.search_core.proofs.Bounds.{costs_so}
use Rattle.search_core.proofs.ceiling.Ceiling.of.Goals as goal

pub at-requires : goal.at-requires
at-requires c =
    let s = c.args.served.now in
    let costs = c.args.costs.now in
    let cost : c.total-cost.result ≡ total costs s.gaps = c.total-cost.ensures.value ∙ ap (total costs) c.set.ensures in
    subst (IsCeiling c.question.result.now costs) (sym cost) (subst (λ (q : Question). IsCeiling q costs (total costs s.gaps)) (sym c.question.ensures.value) (costs_so s costs c.question.ensures.serving))
