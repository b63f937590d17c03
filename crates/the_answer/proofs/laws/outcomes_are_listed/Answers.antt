use Rattle.the_answer.proofs.{StepsOfThreads.bounded, RunsListed.outcomes_listed, Served.allowed_or_not}
use Rattle.the_answer.proofs.laws.outcomes_are_listed.Goals as goal

pub returns : goal.returns
returns c = record { bounded = bounded; listed = outcomes_listed; decided = allowed_or_not }
