use Rattle.documents.proofs.Vocabulary.{ℕ, List, [], ◌∷◌, codes, member, on_ok_weaker}
use Rattle.documents.specs.Parts.{answer_value, costs_array}
use Rattle.documents.specs.Surveys.{Found, found_in}
use Rattle.documents.proofs.Told.{added, joined}
use Rattle.documents.proofs.survey.add_answers.Goals as goal

pub returns : goal.returns
returns c =
    let found : Found = found_in c.args.found.now in
    let program = c.args.source.now.litmus.now.program in
    let first : List (List ℕ) = c.args.object.now in
    let gaps : List ℕ = member (codes "gaps") (costs_array program.threads c.args.source.now.lines.now found.costs.costs) in
    let some : List ℕ = member (codes "condition_answer") (answer_value program found.condition.0 found.costs found.condition.1) in
    let all : List ℕ = member (codes "answer") (answer_value program found.whole.0 found.costs found.whole.1) in
    let two = added first (gaps ∷ []) some _ _ (rw (c.in_ok-gaps.ensures, c.as_slice.ensures.value) at c.in_ok-add.ensures.text) (rw c.in_ok-some.ensures at c.in_ok-add-2.ensures.text) in
    let three = added first (gaps ∷ some ∷ []) all _ _ two (rw c.in_ok-all.ensures at c.in_ok-add-3.ensures.text) in
    on_ok_weaker c.add_ties.result (λ more. joined first (gaps ∷ some ∷ all ∷ []) _ _ _ three more) c.add_ties.ensures
