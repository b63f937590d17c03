use Rattle.search_core.proofs.Vocabulary.{◌≡◌, ◌∙◌, true, false, sym, subst, SetOfGaps, Better}
use Rattle.search_core.proofs.best.is_better.Goals as goal

pub returns-in-Some-clause-no : goal.returns-in-Some-clause-no
returns-in-Some-clause-no c = λ not_better. (
  c.in-Some.best,
  c.in-Some.is,
  (λ better. (let here = c.better.ensures.1 (subst (λ (s : SetOfGaps). Better c.args.costs.now s c.set.result) (sym c.set-set.ensures) (subst (λ (s : SetOfGaps). Better c.args.costs.now c.args.served.now.gaps s) (sym c.set.ensures) better)) in
      let no : true ≡ false = sym here ∙ not_better in absurd cc)),
)
