-- The lines of outcomes with their runs, one more.
use Rattle.outcome_answers.proofs.Vocabulary.{◌≡◌, ◌∙◌, ℕ, suc, zero, ◌+◌, ◌<◌, List, [], ◌∷◌, ◌++◌, length, take, get_or, refl, sym, ap, arith, append_assoc, append-nil, Shown, Label, outcome_lines, run_line_at, outcome_line, printed_labels}
use Rattle.tso_program.specs.declared.outcome.Outcome.{Outcome}
use Rattle.litmus_text.specs.Names.{TextNames}

one_more : (names : TextNames) (shown : Shown) (outcomes : List Outcome) (runs : List (List Label)) (i : ℕ) (d : Outcome) → i < length outcomes
    → outcome_lines names shown (take i outcomes) runs ++ (outcome_line names shown (get_or outcomes i d) ++ run_line_at runs i) ≡ outcome_lines names shown (take (suc i) outcomes) runs
one_more names shown [] runs i d lt = absurd (omega arith)
one_more names shown (o ∷ outcomes) [] zero d lt = refl
one_more names shown (o ∷ outcomes) (run ∷ runs) zero d lt = sym (append-nil (outcome_line names shown o ++ printed_labels run))
one_more names shown (o ∷ outcomes) [] (suc i) d lt =
    let line = outcome_line names shown o in
    append_assoc line (outcome_lines names shown (take i outcomes) []) (outcome_line names shown (get_or outcomes i d) ++ [])
    ∙ ap (λ (bs : List ℕ). line ++ bs) (one_more names shown outcomes [] i d (omega arith))
one_more names shown (o ∷ outcomes) (run ∷ runs) (suc i) d lt =
    let line = outcome_line names shown o ++ printed_labels run in
    append_assoc line (outcome_lines names shown (take i outcomes) runs) (outcome_line names shown (get_or outcomes i d) ++ run_line_at runs i)
    ∙ ap (λ (bs : List ℕ). line ++ bs) (one_more names shown outcomes runs i d (omega arith))

-- after other text, where the line of the outcome and that of its run are put one after the other
pub one_more_outcome : (names : TextNames) (shown : Shown) (before : List ℕ) (outcomes : List Outcome) (runs : List (List Label)) (i : ℕ) (d : Outcome) → i < length outcomes
    → ((before ++ outcome_lines names shown (take i outcomes) runs) ++ outcome_line names shown (get_or outcomes i d)) ++ run_line_at runs i ≡ before ++ outcome_lines names shown (take (i + 1) outcomes) runs
one_more_outcome names shown before outcomes runs i d lt =
    let here = outcome_lines names shown (take i outcomes) runs in
    let line = outcome_line names shown (get_or outcomes i d) in
    let on : suc i ≡ i + 1 = omega arith in
    append_assoc (before ++ here) line (run_line_at runs i) ∙ append_assoc before here (line ++ run_line_at runs i)
    ∙ ap (λ (bs : List ℕ). before ++ bs) (one_more names shown outcomes runs i d lt ∙ ap (λ (n : ℕ). outcome_lines names shown (take n outcomes) runs) on)
