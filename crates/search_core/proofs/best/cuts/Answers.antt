use Rattle.search_core.proofs.Vocabulary.{◌∙◌, true, false, Bool, not, IsTrue, ◌↔◌, sym, subst, refl, same_Some, SetOfGaps, Better, Serving, Reason, IsBeatenBy, CutsMust}
use Rattle.search_core.proofs.best.cuts.Goals as goal

-- a test that fails
by_test : {P : Type 0} (b : Bool) → IsTrue b ↔ P → IsTrue (not b) ↔ (¬ P)
by_test true e = ((λ h. absurd cc), (λ no. absurd (no (e.0 refl))))
by_test false e = ((λ h p. let q = e.1 p in absurd cc), (λ no. refl))

pub returns-in-Some-clause-value : goal.returns-in-Some-clause-value
returns-in-Some-clause-value c =
    let set = subst (λ (s : SetOfGaps). IsTrue c.better.result ↔ Better c.args.costs.now c.args.must.now s) c.set.ensures c.better.ensures in
    let test = by_test c.better.result set in
    subst (λ (r : Reason). IsTrue (not c.better.result) ↔ CutsMust c.args.costs.now c.args.best.now r c.args.must.now) (sym c.in-Best.is) (
      (λ h. (c.in-Some.served, c.in-Some.is, test.0 h)),
      (λ (why : IsBeatenBy c.args.costs.now c.args.best.now c.args.must.now). test.1 (λ better. why.2 (subst (λ (s : Serving). Better c.args.costs.now c.args.must.now s.gaps) (same_Some c.in-Some.served why.0 (sym c.in-Some.is ∙ why.1)) better))),
    )
