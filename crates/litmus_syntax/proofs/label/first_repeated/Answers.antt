use Rattle.litmus_syntax.proofs.Vocabulary.{◌∙◌, sym, not-true, not-false, cond-false}
use Rattle.litmus_syntax.proofs.LabelLaws.{label_twice, next_label}
use Rattle.litmus_syntax.proofs.label.first_repeated.Goals as goal

pub returns-then-not-branch : goal.returns-then-not-branch
returns-then-not-branch c =
    label_twice c.args.labels.now c.loop-label.label-index _ c.in_ok-name.name c.loop-label.seen.keys c.loop-label.invariant c.loop-label-test.true c.in_ok-name.ensures.items (not-false _ (sym c.in_ok-insert.ensures.added ∙ c.if-not-branch.true))

pub loop-label-preserved : goal.loop-label-preserved
loop-label-preserved c =
    let apart = not-true _ (sym c.in_ok-insert.ensures.added ∙ c.if-not-branch.false) in
    next_label c.args.labels.now c.loop-label.label-index _ c.in_ok-name.name c.loop-label.seen.keys c.insert.new.self.keys c.loop-label.invariant c.loop-label-test.true c.in_ok-name.ensures.items apart
    (c.in_ok-insert.ensures.keys ∙ cond-false _ c.loop-label.seen.keys _ apart)
