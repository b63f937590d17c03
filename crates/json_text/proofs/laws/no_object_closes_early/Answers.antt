use Rattle.json_text.proofs.Cuts as cuts
use Rattle.json_text.proofs.laws.no_object_closes_early.Goals as goal

pub returns : goal.returns
returns c = cuts.no_object_closes_early
