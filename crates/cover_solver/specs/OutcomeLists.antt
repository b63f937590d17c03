-- Lists of outcomes, each with a run.
use Rattle.std.specs.Prelude.{◌↔◌, List, Contains, map}
use Rattle.std.specs.List.{AllZip}
use Rattle.tso_program.specs.declared.outcome.Outcome.{Outcome}
use Rattle.tso_program.specs.declared.question.Question.{Question}
use Rattle.tso_machine.specs.declared.label.Label.{Label}
use Rattle.tso_machine.specs.Machine.{Machine}
use Rattle.tso_machine.specs.Outcomes.{AllowsShown, IsShownRun}
use Rattle.tree_laws.specs.Ascending.{Ascend}
use Rattle.cover_solver.specs.declared.found_outcomes.FoundOutcomes.{FoundOutcomes}
use Rattle.cover_solver.specs.declared.outcome_list.OutcomeList.{OutcomeList}

-- as many runs of the machine as outcomes, and each outcome is what is shown of that of its run
abbrev pub AreRunsOf : Question → Machine → List (List Label) → List Outcome → Type 0
AreRunsOf q mode runs outcomes = AllZip (IsShownRun q mode) runs outcomes

-- outcomes that ascend, each with a run of the machine
pub record AreFound (q : Question) (mode : Machine) (found : FoundOutcomes) : Type 0 where
  pub ascend : Ascend found.outcomes.items
  pub runs : AreRunsOf q mode (map (λ labels. labels.items) found.runs.items) found.outcomes.items

-- all outcomes of the machine, as far as they are shown, ascending, each with a run
pub record IsListOfAll (q : Question) (mode : Machine) (list : OutcomeList) : Type 0 where
  pub ascend : Ascend list.outcomes.items
  pub runs : AreRunsOf q mode list.runs list.outcomes.items
  pub exact : (o : Outcome) → Contains list.outcomes.items o ↔ AllowsShown q mode o
