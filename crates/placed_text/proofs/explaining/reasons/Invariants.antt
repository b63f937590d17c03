use Rattle.placed_text.proofs.Vocabulary.{TellsReasons, names_of, question_in}
use Rattle.placed_text.proofs.ReasonTexts.{AreHeld}
use Rattle.placed_text.proofs.explaining.reasons.Given as goal

-- the lines and the runs so far are reasons of the names so far, and those to come are in the set
abbrev pub invariant-loop-name : goal.invariant-loop-name
invariant-loop-name l = record {
  told : TellsReasons l.problem.litmus l.problem.shown l.problem.costs.ties (names_of (question_in l.problem) l.certificate) l.yielded l.told.lines.items l.told.runs;
  to_come : AreHeld (names_of (question_in l.problem) l.certificate) l.name-iterator;
}
