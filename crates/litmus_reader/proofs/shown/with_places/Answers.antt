use Rattle.litmus_reader.proofs.Vocabulary.{◌∙◌, sym, arith, at_drop_all, with_places}
use Rattle.litmus_reader.proofs.shown.with_places.Goals as goal

pub returns : goal.returns
returns c = sym (at_drop_all (with_places c.loop-place.all) c.args.places.now c.loop-place.place-index (omega arith)) ∙ c.loop-place.invariant
