use Rattle.hunt_board.proofs.Vocabulary.{◌∙◌, ap, subst}
use Rattle.hunt_board.specs.{declared.settling.Settling.Settling, declared.settling.Settling.TheVariants.Asked, Internal.Events.IsLawfulThere}
use Rattle.hunt_board.proofs.events.settle_node.Goals as goal

pub split_held-requires : goal.split_held-requires
split_held-requires c =
    let is = c.in-Asked-Foreign.is ∙ ap Asked c.in-Asked-Foreign.field-0-is in
    let said = subst (λ (how : Settling). IsLawfulThere c.args.tree.now.question c.args.tree.now.costs c.args.node.now how) is c.requires.lawful in
    record { node = c.args.node.now; in_hand = c.requires.in_hand; of_question = said.0; passes_none = said.2 }

pub confirm_held-requires : goal.confirm_held-requires
confirm_held-requires c =
    let is = c.in-Asked-Serves.is ∙ ap Asked c.in-Asked-Serves.field-0-is in
    let said = subst (λ (how : Settling). IsLawfulThere c.args.tree.now.question c.args.tree.now.costs c.args.node.now how) is c.requires.lawful in
    record { node = c.args.node.now; in_hand = c.requires.in_hand; of_question = said.0; of_node = said.1 }
