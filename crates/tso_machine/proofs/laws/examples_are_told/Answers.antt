use Rattle.tso_machine.proofs.Vocabulary.{refl, r, r_run, n6, n6_run, locked_exchange, locked_run}
use Rattle.tso_machine.proofs.ExamplesTold.{ended, store_buffering_is_told}
use Rattle.tso_machine.proofs.laws.examples_are_told.Goals as goal

pub returns-clause-store_buffering : goal.returns-clause-store_buffering
returns-clause-store_buffering c = store_buffering_is_told

pub returns-clause-r : goal.returns-clause-r
returns-clause-r c = ((_, refl, ended r r_run _ refl refl (refl, refl) (refl, refl), refl), refl, refl)

pub returns-clause-n6 : goal.returns-clause-n6
returns-clause-n6 c = ((_, refl, ended n6 n6_run _ refl refl (refl, refl) (refl, refl), refl), refl, refl, refl)

pub returns-clause-locked_exchange : goal.returns-clause-locked_exchange
returns-clause-locked_exchange c = ((_, refl, ended locked_exchange locked_run _ refl refl (refl, refl) (refl, refl), refl), refl, refl, refl)
