use Rattle.fence_place.proofs.Vocabulary.{ℕ, List, sym, subst, Question, IsProof}
use Rattle.fence_place.proofs.PlacementMade.{is_placement}
use Rattle.fence_place.proofs.placing.placement.Goals as goal

pub returns : goal.returns
returns g c =
    let q = c.args.table.now.question in
    let costs = c.args.costs.now in
    let made = c.in_ok-certificate.certificate in
    let of_costs = subst (λ (each : List ℕ). IsProof c.in_ok-finished.finished.question each made) c.in_ok-finished.ensures.of_costs c.in_ok-certificate.ensures.proof in
    let proof = subst (λ (question : Question). IsProof question costs made) c.in_ok-finished.ensures.of_question of_costs in
    is_placement q costs made proof c.in_ok-certificate.ensures.once (λ certificate. c.certificate_proves_answer.ensures.valid q certificate (sym c.program.ensures.value))
    (λ gaps cost. c.certificate_proves_answer.ensures.told q gaps cost (sym c.program.ensures.value))
