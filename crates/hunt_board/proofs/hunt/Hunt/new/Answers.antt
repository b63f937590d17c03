use Rattle.hunt_board.proofs.hunt.Hunt.new.Goals as goal

pub returns-clause-seats : goal.returns-clause-seats
returns-clause-seats c = c.in_ok-parts.ensures.seats c.over.result c.over.ensures.word
