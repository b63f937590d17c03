use Rattle.fence_place.proofs.Vocabulary.{refl, IsProof, AreDistinct}
use Rattle.std.proofs.Common.{rules}
use Rattle.tso_program.specs.Shown.{asked_with}
use Rattle.fence_place.proofs.PlacementMade.{is_placement}
use Rattle.fence_place.proofs.proposals.accepted_proposal.Goals as goal

pub returns-then-branch-clause-placed : goal.returns-then-branch-clause-placed
returns-then-branch-clause-placed c =
    let q = asked_with c.args.costs.now.ties c.args.program.now c.args.shown.now in
    let proof : IsProof (asked_with c.args.costs.now.ties c.args.program.now c.args.shown.now) c.args.costs.now.costs c.in-Ok.certificate = search rules in
    let once : AreDistinct c.in-Ok.certificate.runs = search rules in
    is_placement q c.args.costs.now.costs c.in-Ok.certificate proof once (λ certificate. c.certificate_proves_answer.ensures.valid q certificate refl)
    (λ gaps cost. c.certificate_proves_answer.ensures.told q gaps cost refl)
