use Rattle.cert_check.proofs.Vocabulary.{sym, ◌∙◌, numbers_of_set, HasNoSplit, here}
use Rattle.cert_check.proofs.{OpenGaps.as_many_listed, GapNodes.not_as_many}
use Rattle.cert_check.proofs.gap.split_gaps.Goals as goal

pub returns-in_default-clause-wrong : goal.returns-in_default-clause-wrong
returns-in_default-clause-wrong c p labels each =
    here (HasNoSplit p labels c.args.region.now c.args.run c.args.count) c.at_root.result c.at_root.ensures (λ gaps split e. c.in_default.ensures p labels each gaps split)

pub returns-clause-split : goal.returns-clause-split
returns-clause-split c p labels each = c.in-Some.ensures p labels each

pub returns-clause-as_many : goal.returns-clause-as_many
returns-clause-as_many c = sym c.if-len-count.false ∙ c.len.ensures.value ∙ as_many_listed c.in-Some.gaps c.len.ensures.gaps

pub returns-then-len-count-clause-wrong : goal.returns-then-len-count-clause-wrong
returns-then-len-count-clause-wrong c p labels each =
    let gaps = c.in-Some.gaps in
    here (HasNoSplit p labels c.args.region.now c.args.run c.args.count) c.at_root-then-len-count.result c.at_root-then-len-count.ensures
    (not_as_many p labels c.args.region.now c.args.run c.args.count (numbers_of_set gaps) (c.in-Some.ensures p labels each) (λ e. c.if-len-count.true (c.len.ensures.value ∙ as_many_listed gaps c.len.ensures.gaps ∙ e)))
