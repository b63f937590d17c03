use Rattle.hunt_calls.proofs.Vocabulary.{◌≡◌, ℕ, List, Option, Some, None, IfSome, sym, subst, Question}
use Rattle.std.specs.Prelude.{MatchOption}
use Rattle.search_core.specs.Ceilings.{Bound, IsBound, IsCeiling, IsCeilingOf}
use Rattle.hunt_calls.proofs.ceilings.at_cost_of.Goals as goal

-- the cost of a question's ceiling
as_ceiling : (q : Question) (costs : List ℕ) (ceiling : Option Bound) (cost : Option ℕ) →
    IsCeilingOf q costs ceiling → MatchOption ceiling (cost ≡ None) (λ b. cost ≡ Some b.cost) → IfSome ceiling IsBound → IfSome cost (IsCeiling q costs)
as_ceiling q costs None cost of value bound = subst (λ (o : Option ℕ). IfSome o (IsCeiling q costs)) (sym value) of
as_ceiling q costs (Some b) cost of value bound =
    subst (λ (o : Option ℕ). IfSome o (IsCeiling q costs)) (sym value)
    (subst (λ (p : Question). IsCeiling p costs b.cost) of.0 (subst (λ (list : List ℕ). IsCeiling b.question list b.cost) of.1 bound))

pub at-requires : goal.at-requires
at-requires c =
    let s = c.args.tree.now in
    let cost = c.cost-cost.result in
    subst (λ (q : Question). IfSome cost (IsCeiling q c.costs.result.now)) (sym c.question.ensures.value)
    (subst (λ (list : List ℕ). IfSome cost (IsCeiling s.question list)) (sym c.costs.ensures.value)
    (as_ceiling s.question s.costs c.args.ceiling.now cost c.requires c.cost-cost.ensures.value c.cost-cost.ensures.bound))
