use Rattle.cert_check.proofs.Vocabulary.{◌≡◌, true, false, length, refl, sym, ◌∙◌, numbers_of_set, rising}
use Rattle.cert_check.proofs.{OpenGaps.listed_exact, GapNodes.not_there, GapNodes.must_pass, GapNodes.splits}
use Rattle.cert_check.proofs.packing.run_gaps.Goals as goal

pub returns-in_default : goal.returns-in_default
returns-in_default c p runs each gaps split =
    not_there p runs c.args.passed.now c.args.region.now c.args.run each (sym c.in_default.ensures) (length gaps) gaps split refl

pub returns-then-meets : goal.returns-then-meets
returns-then-meets c p runs each gaps split =
    let meets = c.meets.ensures.0 c.if-meets.true in
    must_pass p runs c.args.passed.now c.args.region.now c.args.run each c.in-Some.passed (sym c.in-Some.ensures) meets.0 meets.1 meets.2 (length gaps) gaps split refl

pub returns : goal.returns
returns c p runs each =
    let these = c.in-Some.passed in
    let gaps = c.minus-gaps.result in
    splits p runs c.args.passed.now c.args.region.now c.args.run each these (sym c.in-Some.ensures) (numbers_of_set gaps)
    (λ gap passed must. (let yes = c.meets.ensures.1 (gap, passed, must) in let no : true ≡ false = sym yes ∙ c.if-meets.false in cc)) (rising gaps)
    (listed_exact these c.args.region.now.never gaps c.minus-gaps.ensures c.recall_facts.ensures.gaps)
