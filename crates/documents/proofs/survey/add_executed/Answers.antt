use Rattle.documents.proofs.Vocabulary.{ℕ, List, [], ◌∷◌, codes, quoted, member, on_ok_weaker}
use Rattle.documents.specs.Surveys.{Found, found_in, holds_value, lined_places}
use Rattle.documents.proofs.Told.{added}
use Rattle.documents.proofs.survey.add_executed.Goals as goal

pub returns : goal.returns
returns c =
    let found : Found = found_in c.args.found.now in
    let first : List (List ℕ) = c.args.object.now in
    let file : List ℕ = member (codes "file") (quoted found.file) in
    let holds : List ℕ = member (codes "holds") (holds_value found.sequential found.buffered) in
    let unexecuted : List ℕ = member (codes "unexecuted") (lined_places c.args.lines.now found.unexecuted) in
    let two = added first (file ∷ []) holds _ _ (rw c.in_ok-string.ensures at c.in_ok-add.ensures.text) (rw c.in_ok-holds.ensures at c.in_ok-add-2.ensures.text) in
    let three = added first (file ∷ holds ∷ []) unexecuted _ _ two (rw c.in_ok-unexecuted.ensures at c.in_ok-add-3.ensures.text) in
    on_ok_weaker c.add-4.result (λ more. added first (file ∷ holds ∷ unexecuted ∷ []) _ _ _ three (rw c.in_ok-runs.ensures at more)) c.add-4.ensures.text
