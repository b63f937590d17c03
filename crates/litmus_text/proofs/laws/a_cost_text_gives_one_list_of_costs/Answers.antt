use Rattle.litmus_text.proofs.OneListOfCosts.{given_costs_once}
use Rattle.cost_text.proofs.TextLaws.{costs_once}
use Rattle.litmus_text.proofs.laws.a_cost_text_gives_one_list_of_costs.Goals as goal

pub returns : goal.returns
returns c = record { text = costs_once; given = given_costs_once }
