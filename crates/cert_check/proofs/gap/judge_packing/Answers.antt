use Rattle.cert_check.proofs.Vocabulary.{◌≡◌, false, ◌∷◌, first_gap, Better, IfWrong, IsAtRoot, if_err, on_ok, if_wrong}
use Rattle.tree_laws.specs.GapTrees.{IsBoundBy}
use Rattle.cert_check.specs.Internal.Packed.{runs_of}
use Rattle.cert_check.proofs.PackedRuns.{all_packed}
use Rattle.cert_check.proofs.gap.judge_packing.Goals as goal

pub returns-in-Some-clause-valid : goal.returns-in-Some-clause-valid
returns-in-Some-clause-valid c p runs each =
    let bounds = c.args.bounds.now in
    let region = c.args.region.now in
    let packing = c.in-Some.packing in
    on_ok c.judge_least.result (packing.has_none ≡ false → ¬ Better bounds.costs.now packing.least bounds.answer)
    (IsBoundBy p bounds.costs.now bounds.answer runs region (c.args.first ∷ runs_of (first_gap c.args.walk.now)))
    (λ not_better. (c.in-Some.ensures.packed p runs each).1 ((all_packed p bounds.costs.now bounds.answer runs region packing).1 not_better)) c.judge_least.ensures.bound

pub returns-in-Some-clause-wrong : goal.returns-in-Some-clause-wrong
returns-in-Some-clause-wrong c p runs each =
    let bounds = c.args.bounds.now in
    let region = c.args.region.now in
    let packing = c.in-Some.packing in
    let At = IsAtRoot ((packing.has_none ≡ false) × Better bounds.costs.now packing.least bounds.answer) in
    let P = IsAtRoot (¬ IsBoundBy p bounds.costs.now bounds.answer runs region (c.args.first ∷ runs_of (first_gap c.args.walk.now))) in
    if_err c.judge_least.result (IfWrong At) (IfWrong P)
    (λ fault. if_wrong At P fault (λ path (at, (some, better)). (at, λ bound. (all_packed p bounds.costs.now bounds.answer runs region packing).0 ((c.in-Some.ensures.packed p runs each).0 bound) some better)))
    c.judge_least.ensures.wrong
