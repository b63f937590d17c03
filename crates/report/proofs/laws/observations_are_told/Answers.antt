use Rattle.report.proofs.ObservationLaws.{observations_are_told}
use Rattle.report.proofs.laws.observations_are_told.Goals as goal

pub returns : goal.returns
returns c = observations_are_told
