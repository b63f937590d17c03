use Rattle.tso_machine.proofs.AllGapsFenced.{all_serve}
use Rattle.tso_machine.proofs.laws.all_gaps_serve.Goals as goal

pub returns : goal.returns
returns c = all_serve
