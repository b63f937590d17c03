-- What is sought: the outcomes of a program, as far as they are shown, in a mode.
use Rattle.tso_program.specs.Shown.{asked}
use Rattle.tso_program.specs.declared.question.Question.{Question}
use Rattle.tso_machine.specs.Machine.{Machine}
use Rattle.tso_machine.specs.Modes.{machine_of_mode}
use Rattle.cover_solver.specs.declared.proposed.Sought.{Sought}

abbrev pub question_of : Sought → Question
question_of sought = asked sought.program.now sought.shown.now

-- the machine whose outcomes they are
abbrev pub machine_of : Sought → Machine
machine_of sought = machine_of_mode sought.program.now sought.mode
