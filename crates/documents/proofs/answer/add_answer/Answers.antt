use Rattle.documents.proofs.Vocabulary.{List, ℕ, on_ok_weaker}
use Rattle.documents.proofs.Told.{added, joined}
use Rattle.documents.proofs.answer.add_answer.Goals as goal

pub returns : goal.returns
returns c =
    let object : List (List ℕ) = c.args.object.now in
    let two = added object _ _ _ _ (rw (c.in_ok-gaps.ensures, c.as_slice.ensures.value) at c.in_ok-add.ensures.text) (rw c.in_ok-answer_value.ensures at c.in_ok-add-2.ensures.text) in
    on_ok_weaker c.add_ties.result (λ more. joined object _ _ _ _ two more) c.add_ties.ensures
