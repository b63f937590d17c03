use Rattle.cert_forest.proofs.Vocabulary.{◌-◌, arith, err_from_is_err_and, PLACES, place_word_at}
use Rattle.cert_forest.proofs.Loops.{ascending_more, ascending_low, ascending_stop, ascending_end, ascending_past}
use Rattle.cert_forest.proofs.shown.places.Goals as goal

pub returns-then-not-begins_word : goal.returns-then-not-begins_word
returns-then-not-begins_word c = ascending_end place_word_at (PLACES - c.loop.counter) c.loop.least c.loop.found c.loop.rest.now _ (cc) c.loop.invariant.told

pub returns-in_err-place : goal.returns-in_err-place
returns-in_err-place c =
    let p = err_from_is_err_and c.from_residual.result c.from_residual.ensures.1 in
    rw p.1 (ascending_stop place_word_at PLACES c.loop.counter c.loop.least c.loop.found c.loop.rest.now _ c.loop-test.true (cc) c.in_err-place.ensures.gives c.loop.invariant.told)

pub returns-then-place-least : goal.returns-then-place-least
returns-then-place-least c =
    ascending_low place_word_at PLACES c.loop.counter c.loop.least c.loop.found c.loop.rest.now c.in_ok-place.place c.in_ok-place.after.now _ c.loop-test.true (cc) c.in_ok-place.ensures.gives c.if-place-least.true c.loop.invariant.told

pub loop-preserved : goal.loop-preserved
loop-preserved c = record {
  told = rw c.with_place-found.ensures (ascending_more place_word_at PLACES c.loop.counter c.loop.least c.loop.found c.loop.rest.now c.in_ok-place.place c.in_ok-place.after.now _ c.loop-test.true (cc) c.in_ok-place.ensures.gives c.if-place-least.false c.loop.invariant.told);
  least = omega (arith, c.in_ok-place.ensures.below);
}

pub returns-then-begins_word : goal.returns-then-begins_word
returns-then-begins_word c = ascending_past place_word_at PLACES c.loop.counter c.loop.least c.loop.found c.loop.rest.now _ c.loop-test.false (cc) c.loop.invariant.told

pub returns : goal.returns
returns c = ascending_end place_word_at (PLACES - c.loop.counter) c.loop.least c.loop.found c.loop.rest.now _ (cc) c.loop.invariant.told
