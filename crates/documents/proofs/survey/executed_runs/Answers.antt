use Rattle.documents.proofs.Vocabulary.{◌∙◌, ℕ, List, [], ◌∷◌, ◌++◌, get_or, ap, sym, map_more}
use Rattle.documents.specs.Surveys.{executed_run}
use Rattle.documents.proofs.survey.executed_runs.Goals as goal

pub loop-run-preserved : goal.loop-run-preserved
loop-run-preserved c =
    let runs = c.args.runs.now in
    let i = c.loop-run.run-index in
    let d = c.run-item.result in
    c.in_ok-add.ensures ∙ ap (λ (json : List ℕ). c.loop-run.array ++ json ∷ []) (c.in_ok-executed_run.ensures ∙ ap executed_run c.run-item.is)
    ∙ ap (λ (texts : List (List ℕ)). texts ++ executed_run (get_or runs i d) ∷ []) c.loop-run.invariant ∙ sym (map_more executed_run runs i d c.loop-run-test.true)
