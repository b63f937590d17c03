-- Placement problems, by the texts that they are read from.
use Rattle.std.specs.Prelude.{◌≡◌, ℕ, List, Option}
use Rattle.tso_program.specs.declared.question.Question.{Question}
use Rattle.tso_program.specs.declared.shown.ShownKind.{ShownKind}
use Rattle.tso_program.specs.Shown.{asked_with}
use Rattle.litmus_reader.specs.Texts.{IsLitmus}
use Rattle.litmus_reader.specs.Shown.{shown_as}
use Rattle.litmus_text.specs.GivenCosts.{AreGiven}
use Rattle.placed_text.specs.declared.problem.Problem.{Problem}

-- what a problem asks of its program
abbrev pub question_in : Problem → Question
question_in problem = asked_with problem.costs.ties problem.litmus.program problem.shown

-- the litmus text stands for the problem's test, its gaps have these costs, and what is shown is of the kind
pub record IsProblem (litmus : List ℕ) (costs : Option (List ℕ)) (kind : ShownKind) (problem : Problem) : Type 0 where
  pub of_text : IsLitmus litmus problem.litmus
  pub given : AreGiven problem.litmus.program costs problem.costs
  pub shown : problem.shown ≡ shown_as problem.litmus kind
