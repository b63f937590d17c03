-- A cost text gives the gaps of a program one list of costs, with one list of ties.
use Rattle.std.proofs.Common.{Some, None, sym, ◌∙◌}
use Rattle.cost_text.proofs.TextLaws.{costs_once}
use Rattle.litmus_text.specs.TextLaws.{TheCostsAreOneList}

pub given_costs_once : TheCostsAreOneList
given_costs_once p None one other h g = λ i. record { costs = (h.0 ∙ sym g.0) i; ties = (h.1 ∙ sym g.1) i }
given_costs_once p (Some text) one other h g = costs_once text p.threads one other h g
