use Rattle.tso_program.proofs.Vocabulary.{sym, subst, ArePlaces}
use Rattle.tso_program.proofs.Places.{none_placed}
use Rattle.tso_program.proofs.shown.Names.none.Goals as goal

pub invariant_of-result : goal.invariant_of-result
invariant_of-result c = subst ArePlaces (sym c.empty.ensures) none_placed
