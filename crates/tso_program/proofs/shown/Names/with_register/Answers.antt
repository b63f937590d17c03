use Rattle.tso_program.proofs.Vocabulary.{sym, subst, arith, ArePlaces}
use Rattle.tso_program.proofs.Places.{one_more_placed}
use Rattle.tso_program.proofs.shown.Names.with_register.Goals as goal

pub invariant_of-result : goal.invariant_of-result
invariant_of-result c = subst ArePlaces (sym c.with.ensures) (one_more_placed c.self.inside.places c.register_place-place.result c.self.invariant (omega (arith, c.register_place-place.ensures, c.index.ensures.small, c.requires)))
