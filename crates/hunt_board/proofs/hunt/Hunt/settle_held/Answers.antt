use Rattle.hunt_board.proofs.hunt.Hunt.settle_held.Goals as goal

pub settle_node-requires-clause-in_hand : goal.settle_node-requires-clause-in_hand
settle_node-requires-clause-in_hand g c =
    let held = c.is_held.ensures.0 c.if-not-is_held.false in
    record { is_seat = held.0.has_seat; holds = held.1 }
