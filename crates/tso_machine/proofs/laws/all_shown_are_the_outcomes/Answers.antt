use Rattle.tso_machine.proofs.Vocabulary.{refl, sym, subst, IsRun}
use Rattle.tso_machine.specs.Laws.{AllShownAreTheRuns, AllShownAreTheOutcomes}
use Rattle.tso_machine.proofs.laws.all_shown_are_the_outcomes.Goals as goal

runs_shown : AllShownAreTheRuns
runs_shown p mode labels o = (
  λ (whole, is_run, e). subst (IsRun p mode labels) (sym e) is_run,
  λ is_run. (o, is_run, refl),
)

outcomes_shown : AllShownAreTheOutcomes
outcomes_shown p mode o = (
  λ (labels, is_shown). (labels, (runs_shown p mode labels o).0 is_shown),
  λ (labels, is_run). (labels, (runs_shown p mode labels o).1 is_run),
)

pub returns : goal.returns
returns c = record { runs = runs_shown; outcomes = outcomes_shown }
