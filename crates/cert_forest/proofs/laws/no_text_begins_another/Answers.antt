use Rattle.cert_forest.proofs.WholeLaws.{nothing_behind}
use Rattle.cert_forest.proofs.laws.no_text_begins_another.Goals as goal

pub returns : goal.returns
returns c = nothing_behind
