use Rattle.cert_forest.proofs.Vocabulary.{◌-◌, arith, err_from_is_err_and, MAX_GAPS, gap_number_at}
use Rattle.cert_forest.proofs.Loops.{ascending_more, ascending_low, ascending_stop, ascending_end, ascending_past}
use Rattle.cert_forest.proofs.reader.gaps.Goals as goal

pub returns-then-not-begins_word : goal.returns-then-not-begins_word
returns-then-not-begins_word c = ascending_end gap_number_at (MAX_GAPS - c.loop.counter) c.loop.least c.loop.found c.loop.rest.now _ (cc) c.loop.invariant.told

pub returns-in_err-gap : goal.returns-in_err-gap
returns-in_err-gap c =
    let p = err_from_is_err_and c.from_residual.result c.from_residual.ensures.1 in
    rw p.1 (ascending_stop gap_number_at MAX_GAPS c.loop.counter c.loop.least c.loop.found c.loop.rest.now _ c.loop-test.true (cc) c.in_err-gap.ensures.gives c.loop.invariant.told)

pub returns-then-gap-least : goal.returns-then-gap-least
returns-then-gap-least c =
    ascending_low gap_number_at MAX_GAPS c.loop.counter c.loop.least c.loop.found c.loop.rest.now c.in_ok-gap.gap c.in_ok-gap.after.now _ c.loop-test.true (cc) c.in_ok-gap.ensures.gives c.if-gap-least.true c.loop.invariant.told

pub loop-preserved : goal.loop-preserved
loop-preserved c = record {
  told = rw c.with-found.ensures (ascending_more gap_number_at MAX_GAPS c.loop.counter c.loop.least c.loop.found c.loop.rest.now c.in_ok-gap.gap c.in_ok-gap.after.now _ c.loop-test.true (cc) c.in_ok-gap.ensures.gives c.if-gap-least.false c.loop.invariant.told);
  least = omega (arith, c.in_ok-gap.ensures.below);
}

pub returns-then-begins_word : goal.returns-then-begins_word
returns-then-begins_word c = ascending_past gap_number_at MAX_GAPS c.loop.counter c.loop.least c.loop.found c.loop.rest.now _ c.loop-test.false (cc) c.loop.invariant.told

pub returns : goal.returns
returns c = ascending_end gap_number_at (MAX_GAPS - c.loop.counter) c.loop.least c.loop.found c.loop.rest.now _ (cc) c.loop.invariant.told
