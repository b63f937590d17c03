use Rattle.documents.proofs.Vocabulary.{ℕ, List, [], ◌∷◌, codes, member, on_ok_weaker, Machine, setting_member, gaps_array}
use Rattle.documents.proofs.Told.{added}
use Rattle.documents.proofs.witness.add_sought.Goals as goal

pub returns : goal.returns
returns c =
    let program = c.args.program.now in
    let sought = c.args.sought in
    let first : List (List ℕ) = c.args.object.now in
    let model : List ℕ = setting_member program (Machine sought.model) in
    let fences : List ℕ = member (codes "fences") (gaps_array program.threads sought.fences) in
    let two = added first (model ∷ []) fences _ _ (c.in_ok-add_model.ensures program) (rw c.in_ok-gap_names.ensures at c.in_ok-add.ensures.text) in
    on_ok_weaker c.add-2.result (λ more. added first (model ∷ fences ∷ []) _ _ _ two (rw c.in_ok-truth.ensures at more)) c.add-2.ensures.text
