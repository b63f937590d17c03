use Rattle.cert_check.proofs.PackedRuns.{none_packed}
use Rattle.cert_check.proofs.packing.Packing.of_region.Goals as goal

pub returns : goal.returns
returns c p costs answer runs numbers = none_packed p costs answer runs c.args.region.now c.empty.result c.empty.ensures numbers
