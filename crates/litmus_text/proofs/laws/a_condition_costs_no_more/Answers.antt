use Rattle.litmus_text.proofs.NamesTell.{condition_costs_no_more, served}
use Rattle.litmus_text.proofs.laws.a_condition_costs_no_more.Goals as goal

pub returns : goal.returns
returns c = record { serves = (λ text litmus gaps is serves. served litmus.program is.1 litmus.condition.formula litmus.observed gaps serves); costs = condition_costs_no_more }
