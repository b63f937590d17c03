use Rattle.cover_solver.proofs.Vocabulary.{asked, machine_of_mode, AreFound}
use Rattle.cover_solver.proofs.found_outcomes.found_outcomes.Given as goal

-- what is found are outcomes of the machine, ascending, each with a run
abbrev pub invariant-loop : goal.invariant-loop
invariant-loop l = AreFound (asked l.search.program.now l.search.shown.now) (machine_of_mode l.search.program.now l.search.mode) l.found
