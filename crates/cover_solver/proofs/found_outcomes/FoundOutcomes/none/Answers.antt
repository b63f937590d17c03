use Rattle.cover_solver.proofs.Vocabulary.{List, Outcome, AreRunsOf, map, sym, subst, arith}
use Rattle.std.proofs.Common.{[], length, ap}
use Rattle.tree_laws.specs.Ascending.{Ascend}
use Rattle.cover_solver.proofs.found_outcomes.FoundOutcomes.none.Goals as goal

pub returns : goal.returns
returns c q mode =
    let ascend : Ascend [] = λ i j d less within. absurd (omega arith) in
    record {
      ascend = subst Ascend (sym c.new.ensures.items) ascend;
      runs = subst (AreRunsOf q mode (map (λ labels. labels.items) c.new-2.result.items)) (sym c.new.ensures.items)
          (subst (λ (rs : List _). AreRunsOf q mode rs []) (sym (ap (map (λ labels. labels.items)) c.new-2.ensures.items)) tt);
    }
