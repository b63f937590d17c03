use Rattle.sequential_states.proofs.Told.{store_buffering_is_executed, a_branch_is_told}
use Rattle.sequential_states.proofs.laws.executions_are_told.Goals as goal

pub returns-clause-store_buffering : goal.returns-clause-store_buffering
returns-clause-store_buffering c = store_buffering_is_executed

pub returns-clause-branch : goal.returns-clause-branch
returns-clause-branch c = a_branch_is_told
