use Rattle.outcome_answers.proofs.Vocabulary.{◌∙◌, ℕ, List, ◌++◌, ap, ap₂, outcome_line, run_line_at}
use Rattle.outcome_answers.proofs.OutcomeLines.{one_more_outcome}
use Rattle.outcome_answers.proofs.outcomes.list_lines.Goals as goal

pub loop-number-preserved : goal.loop-number-preserved
loop-number-preserved c =
    let names = c.args.litmus.now.names in
    let shown = c.args.shown.now in
    let outcomes = c.as_slice-outcomes.result.now in
    let runs = c.args.list.now.runs in
    let i = c.loop-number.number in
    let outcome = c.index-outcomes-number.result in
    let line = ap (outcome_line names shown) c.index-outcomes-number.is in
    c.in_ok-push_run.ensures
    ∙ ap (λ (bs : List ℕ). bs ++ run_line_at runs i) (c.in_ok-push_outcome.ensures ∙ ap₂ (λ (xs ys : List ℕ). xs ++ ys) c.loop-number.invariant line)
    ∙ one_more_outcome names shown c.into_bytes-lines.result.items outcomes runs i outcome c.loop-number-test.true
