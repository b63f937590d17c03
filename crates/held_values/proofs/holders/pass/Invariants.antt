use Rattle.held_values.specs.HeldRows.{IsPassed}
use Rattle.held_values.proofs.holders.pass.Given as goal

-- what the threads so far give
abbrev pub invariant-loop-t : goal.invariant-loop-t
invariant-loop-t l = IsPassed l.program l.value l.t l.from l.holders
