use Rattle.tso_program.specs.declared.shown.Shown.{TheVariants.All}
use Rattle.tso_program.proofs.Kept.{off_all}
use Rattle.tso_machine.proofs.PartsServed.{part_served, truth_served}
use Rattle.tso_machine.proofs.laws.what_serves_serves_each_part.Goals as goal

pub returns : goal.returns
returns c = record { part = part_served; all = λ p shown gaps. part_served p shown All gaps (off_all shown); truth = truth_served }
