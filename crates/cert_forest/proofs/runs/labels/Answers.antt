use Rattle.cert_forest.proofs.Vocabulary.{◌-◌, err_from_is_err_and, Refused, MAX_COUNT}
use Rattle.cert_forest.proofs.Loops.{labels_more, labels_stop, labels_end, labels_past}
use Rattle.cert_forest.proofs.runs.labels.Goals as goal

pub returns-then-not-begins_word : goal.returns-then-not-begins_word
returns-then-not-begins_word c = labels_end (MAX_COUNT - c.loop.counter) c.loop.found.items c.loop.rest.now _ (cc) c.loop.invariant

pub returns-in_err-label : goal.returns-in_err-label
returns-in_err-label c =
    let p = err_from_is_err_and c.from_residual.result c.from_residual.ensures.1 in
    rw (p.1, p.2) (labels_stop MAX_COUNT c.loop.counter c.loop.found.items c.loop.rest.now (Refused c.in_err-label.field-0.0) _ c.loop-test.true (cc) c.in_err-label.ensures c.loop.invariant)

pub loop-preserved : goal.loop-preserved
loop-preserved c =
    rw c.in_ok-push.ensures.items (labels_more MAX_COUNT c.loop.counter c.loop.found.items c.loop.rest.now c.in_ok-label.label c.in_ok-label.after.now _ c.loop-test.true (cc) c.in_ok-label.ensures c.loop.invariant)

pub returns-then-begins_word : goal.returns-then-begins_word
returns-then-begins_word c = labels_past MAX_COUNT c.loop.counter c.loop.found.items c.loop.rest.now _ c.loop-test.false (cc) c.loop.invariant

pub returns : goal.returns
returns c = labels_end (MAX_COUNT - c.loop.counter) c.loop.found.items c.loop.rest.now _ (cc) c.loop.invariant
