use Rattle.sequential_states.proofs.Following.{first_listed}
use Rattle.sequential_states.proofs.worklist.Worklist.start.Goals as goal

pub returns-clause-first : goal.returns-clause-first
returns-clause-first c = rw (c.in_ok-push.ensures.items, c.new-listed.ensures.items) (first_listed c.args.program.now c.in_ok-start.field-0 c.in_ok-start.ensures)
