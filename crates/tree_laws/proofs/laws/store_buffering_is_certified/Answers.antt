use Rattle.tree_laws.proofs.StoreBufferingCertified.{store_buffering_is_certified}
use Rattle.tree_laws.proofs.laws.store_buffering_is_certified.Goals as goal

pub returns : goal.returns
returns c = store_buffering_is_certified
