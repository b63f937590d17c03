use Rattle.documents.proofs.Vocabulary.{ℕ, List, [], ◌∷◌, on_ok_weaker, Machine, setting_member}
use Rattle.documents.specs.FencedModels.{fences_members}
use Rattle.documents.proofs.Told.{joined}
use Rattle.documents.proofs.fenced_model.add_fenced_model.Goals as goal

pub returns : goal.returns
returns c =
    let program = c.args.program.now in
    let machine = c.args.machine in
    let first : List (List ℕ) = c.args.object.now in
    let model : List ℕ = setting_member program (Machine machine.model) in
    on_ok_weaker c.add_fences.result (λ more. joined first (model ∷ []) (fences_members program machine.fences) _ _ (c.in_ok-add_model.ensures program) more) c.add_fences.ensures
