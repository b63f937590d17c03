use Rattle.tree_laws.proofs.OwnStoreCovered.{own_store_is_told}
use Rattle.tree_laws.proofs.laws.own_store_is_told.Goals as goal

pub returns : goal.returns
returns c = own_store_is_told
