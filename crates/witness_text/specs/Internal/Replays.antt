-- How labels end with no gap fenced.
use Rattle.std.specs.Prelude.{◌≡◌, ℕ, false, List}
use Rattle.std.specs.FinSet as set
use Rattle.tso_program.specs.declared.listing.Listing.{Listing}
use Rattle.tso_machine.specs.declared.label.Label.{Label}
use Rattle.tso_machine.specs.declared.label.Model.{Model}
use Rattle.tso_machine.specs.declared.label.Model.TheVariants as models
use Rattle.tso_machine.specs.declared.replaying.Ended.{Ended}
use Rattle.tso_machine.specs.Machine.{IsRun}
use Rattle.tso_machine.specs.Modes.{machine_of_model, ArePassed}

-- the labels are a run of the model's machine that ends so
pub record IsReplayed (p : Listing) (model : Model) (labels : List Label) (ended : Ended) : Type 0 where
  pub run : IsRun p (machine_of_model p set.empty model) labels ended.outcome
  pub passed : ArePassed p (machine_of_model p set.empty model) labels ended.passed
  pub sequential : model ≡ models.Sequential → (gap : ℕ) → set.contains ended.passed gap ≡ false
