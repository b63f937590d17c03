use Rattle.cert_check.proofs.Vocabulary.{◌≡◌, true, false, sym, ◌∙◌, numbers_of_set, listed, unlisted}
use Rattle.cert_check.proofs.PackedRuns.{no_run_more, meets_packed, one_run_more, false_from}
use Rattle.cert_check.proofs.packing.Packing.with_run.Goals as goal

pub returns-in_default : goal.returns-in_default
returns-in_default c p runs left each =
    let bounds = c.args.bounds.now in
    no_run_more p bounds.costs.now bounds.answer runs c.args.region.now c.args.self c.args.run left (c.in_default.ensures p runs each)

pub returns-then-meets : goal.returns-then-meets
returns-then-meets c p runs left each =
    let bounds = c.args.bounds.now in
    let gaps = c.in-Some.gaps in
    let meets = c.meets.ensures.0 c.if-meets.true in
    meets_packed p bounds.costs.now bounds.answer runs c.args.region.now c.args.self c.args.run left (numbers_of_set gaps) (c.in-Some.ensures p runs each)
    meets.0 (listed gaps meets.0 (c.recall_facts.ensures.gaps meets.0 meets.1) meets.1) meets.2

pub returns : goal.returns
returns c p runs left each =
    let bounds = c.args.bounds.now in
    let gaps = c.in-Some.gaps in
    one_run_more p bounds.costs.now bounds.answer runs c.args.region.now c.args.self c.args.run left (numbers_of_set gaps) (c.in-Some.ensures p runs each) c.with_gaps.result c.with_gaps.ensures
    (λ gap here. false_from _ (λ there. let yes = c.meets.ensures.1 (gap, unlisted gaps gap here, there) in let no : true ≡ false = sym yes ∙ c.if-meets.false in cc))
