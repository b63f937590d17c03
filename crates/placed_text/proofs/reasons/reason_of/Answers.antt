use Rattle.placed_text.proofs.Vocabulary.{◌≡◌, ◌∙◌, List, map, ap, subst, Label, Without, TellsRun, gaps_in, others_fenced, printed_of}
use Rattle.tso_machine.specs.Machine.{start}
use Rattle.tso_machine.specs.declared.stepping.Step.{Step}
use Rattle.placed_text.proofs.PassingSteps.{marked_of, one_passes}
use Rattle.placed_text.proofs.ReasonTexts as texts
use Rattle.placed_text.proofs.reasons.reason_of.Goals as goal

pub returns : goal.returns
returns c =
    let source = c.args.litmus.now in
    let p = source.program in
    let shown = c.args.shown.now in
    let left_out = c.args.left_out in
    let gap = c.passed_gap-gap.result in
    let labels = c.args.run.now.labels.now in
    let ended = c.args.run.now.ended in
    let fenced = others_fenced p left_out in
    let same : map (λ step. step.label) c.deref-6.result.now ≡ labels = ap (λ (steps : List Step). map (λ step. step.label) steps) c.deref-6.ensures.value ∙ c.in_ok-steps.ensures.labels in
    let (t, k, number, passed) = (c.requires.ended.passed gap).0 c.passed_gap-gap.ensures.passed in
    let passing = one_passes p (gaps_in p left_out.others) gap (start p) labels c.in_ok-steps.steps.items t k number c.in_ok-steps.ensures.steps passed in
    let table = marked_of source fenced labels gap c.in_ok-steps.steps.items c.deref.result.now c.deref-2.result.now c.deref-3.result.now c.in_ok-marked.marked.items c.deref-4.result.now
    c.in_ok-steps.ensures.steps passing c.deref.ensures.value c.deref-2.ensures.value (c.deref-3.ensures.value ∙ c.in_ok-table.ensures) c.in_ok-marked.ensures c.deref-4.ensures.value in
    texts.reason_of source shown left_out gap labels ended (c.in_ok-lines.lines.items, c.in_ok-said.said) c.requires.foreign c.requires.avoids c.requires.ended c.passed_gap-gap.ensures.tie c.passed_gap-gap.ensures.passed
    (c.deref-4.result.now, table, rw (c.deref-5.ensures.value, c.in_ok-ending.ensures) at c.in_ok-lines.ensures)
    (subst (λ (ls : List Label). TellsRun source (printed_of shown) (Without gap) ls ended.outcome ended.passed c.in_ok-said.said) same (rw c.printed_of-printed.ensures at c.in_ok-said.ensures))
