use Rattle.cost_text.proofs.Vocabulary.{◌≡◌, IfErr, option_map, ℕ, List, Bor, Option, Ok, Err, sym, subst, Result, MatchResult, TiedCosts, Thread, CostTextFault, IsCostText, RefusesCosts}
use Rattle.cost_text.specs.declared.fault.CostTextFault.TheVariants as fault
use Rattle.cost_text.specs.GivenCosts.{AreNotGiven, IsNoCostText}
use Rattle.cost_text.proofs.given.given_costs.Goals as goal

-- what a reader refuses is no cost text
no_cost_text : (text : List ℕ) (threads : List Thread) (r : Result TiedCosts CostTextFault) → IfErr r (RefusesCosts text threads)
    → ((costs : TiedCosts) → IsCostText text threads costs → MatchResult r (λ read. read ≡ costs) (λ why. why ≡ fault.OutOfMemory)) → IfErr r (IsNoCostText text threads)
no_cost_text text threads (Ok costs) refused only = tt
no_cost_text text threads (Err why) refused only = record { refused = refused; none = only }

pub returns-in-Some-clause-none : goal.returns-in-Some-clause-none
returns-in-Some-clause-none c =
    subst (λ (text : Option (Bor (List ℕ))). IfErr c.read_costs.result (AreNotGiven c.args.program.now (option_map (λ text. text.now) text))) (sym c.in-Some.is)
    (no_cost_text c.in-Some.text.now c.args.program.now.threads c.read_costs.result c.read_costs.ensures.refused c.read_costs.ensures.only)
