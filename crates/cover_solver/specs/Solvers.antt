-- What solvers keep.
use Rattle.std.specs.Prelude.{List}
use Rattle.tso_program.specs.declared.outcome.Outcome.{Outcome}
use Rattle.tso_program.specs.declared.question.Question.{Question}

-- a question, and its sequential outcomes
pub record Asked : Type 0 where
  pub question : Question
  pub outcomes : List Outcome
