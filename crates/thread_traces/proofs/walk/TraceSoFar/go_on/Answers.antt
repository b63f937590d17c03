use Rattle.thread_traces.proofs.walk.TraceSoFar.go_on.Goals as goal

pub returns-in-Read-clause-goes : goal.returns-in-Read-clause-goes
returns-in-Read-clause-goes c = rw c.in-Read.is c.load.ensures.goes

pub returns-in-Swap-clause-goes : goal.returns-in-Swap-clause-goes
returns-in-Swap-clause-goes c = rw c.in-Swap.is c.exchange.ensures.goes
