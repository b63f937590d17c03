use Rattle.tso_program.proofs.Vocabulary.{sym, subst, ArePlaces}
use Rattle.tso_program.proofs.Places.{one_more_placed}
use Rattle.tso_program.proofs.shown.Names.with_place.Goals as goal

pub invariant_of-result : goal.invariant_of-result
invariant_of-result c = subst ArePlaces (sym c.with.ensures) (one_more_placed c.self.inside.places c.args.place c.self.invariant c.requires)
