use Rattle.tso_machine.proofs.Vocabulary.{◌≡◌, ◌∙◌, sym, ap, map, arith, recursion_from_All, All-push, filter, common_steps, spelling, words, IsLabel}
use Rattle.tso_machine.proofs.RunLabels.{word_of, no_label, first_no_label, same_labels, one_more, label_takes}
use Rattle.tso_machine.proofs.run_text.read_run.Goals as goal

pub returns-in-None-clause-only : goal.returns-in-None-clause-only
returns-in-None-clause-only c = λ labels text.
    no_label labels c.deref-part-items.result.now c.loop-part.part-index _ text.fits (ap (λ ps. filter word_of (map (λ p. p.now) ps)) c.deref-part-items.ensures.value ∙ ap (filter word_of) c.in_ok-parts.ensures ∙ text.spelled) c.loop-part-test.true (grind arith) (sym c.in-None.ensures)

pub returns-in-None-clause-fault : goal.returns-in-None-clause-fault
returns-in-None-clause-fault c =
    first_no_label c.args.bytes.now c.loop-part.labels.items c.deref-part-items.result.now c.loop-part.part-index c.len.result _
    (ap (λ ps. filter word_of (map (λ p. p.now) ps)) c.deref-part-items.ensures.value ∙ ap (filter word_of) c.in_ok-parts.ensures)
    c.loop-part.invariant.spelled (recursion_from_All IsLabel c.loop-part.labels.items c.loop-part.invariant.labels) (grind arith) c.loop-part-test.true (grind arith) (sym c.in-None.ensures)

pub loop-part-preserved : goal.loop-part-preserved
loop-part-preserved c = record {
  spelled = rw c.in_ok-push-in-Some.ensures.items (one_more c.loop-part.labels.items c.in-Some.label c.deref-part-items.result.now c.loop-part.part-index _ c.loop-part-test.true (grind arith) (sym c.in-Some.ensures) c.loop-part.invariant.spelled);
  labels = rw c.in_ok-push-in-Some.ensures.items (All-push IsLabel c.loop-part.labels.items c.in-Some.label c.loop-part.invariant.labels (label_takes _ c.in-Some.label (sym c.in-Some.ensures)).1);
}

pub returns-clause-found : goal.returns-clause-found
returns-clause-found c = record {
  fits = recursion_from_All IsLabel c.loop-part.labels.items c.loop-part.invariant.labels;
  spelled = grind (arith, common_steps);
}

pub returns-clause-only : goal.returns-clause-only
returns-clause-only c = λ labels text.
    let found : words c.args.bytes.now ≡ map spelling c.loop-part.labels.items = grind (arith, common_steps) in
    same_labels c.loop-part.labels.items labels (recursion_from_All IsLabel c.loop-part.labels.items c.loop-part.invariant.labels) text.fits (sym found ∙ text.spelled)
