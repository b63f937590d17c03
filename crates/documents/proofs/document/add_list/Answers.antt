use Rattle.documents.proofs.Vocabulary.{ℕ, List, [], ◌∷◌, codes, quoted, member, on_ok_weaker, truth_text, is_observed, outcomes_array}
use Rattle.report.specs.Observations.{frequency}
use Rattle.documents.proofs.Told.{added}
use Rattle.documents.proofs.document.add_list.Goals as goal

pub returns : goal.returns
returns c =
    let litmus = c.args.litmus.now in
    let all = c.args.outcomes.now in
    let first : List (List ℕ) = c.args.object.now in
    let observed : List ℕ = member (codes "observed") (truth_text (is_observed c.args.shown.now)) in
    let list : List ℕ = member (codes "outcomes") (outcomes_array litmus.names c.args.shown.now all) in
    let often : List ℕ = member (codes "observation") (quoted (frequency litmus.condition.formula all)) in
    let two = added first (observed ∷ []) list _ _ (rw (c.in_ok-truth.ensures, c.is_observed.ensures) at c.in_ok-add.ensures.text) (rw c.in_ok-list.ensures at c.in_ok-add-2.ensures.text) in
    let three = added first (observed ∷ list ∷ []) often _ _ two (rw c.in_ok-observation.ensures at c.in_ok-add-3.ensures.text) in
    on_ok_weaker c.add-4.result (λ more. added first (observed ∷ list ∷ often ∷ []) _ _ _ three (rw (c.in_ok-truth-2.ensures, c.is_true_of-holds.ensures) at more)) c.add-4.ensures.text
