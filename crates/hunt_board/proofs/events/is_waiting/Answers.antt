use Rattle.hunt_board.proofs.Refusals.{waits}
use Rattle.hunt_board.proofs.events.is_waiting.Goals as goal

pub returns-then-has_no_open : goal.returns-then-has_no_open
returns-then-has_no_open c = waits c.is_done.result (c.has_no_open.ensures.0 c.if-has_no_open.true) c.is_done.ensures
