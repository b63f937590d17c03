use Rattle.fencer.proofs.Vocabulary.{◌≡◌, ◌∙◌, ℕ, IfOk-weaker, ap, arith, length}
use Rattle.fencer.specs.Surveys.{table_text}
use Rattle.fencer.proofs.WrittenSurveys.{ends_with_table}
use Rattle.fencer.proofs.surveys.run_survey.Goals as goal

pub returns-in-Ok-clause-told : goal.returns-in-Ok-clause-told
returns-in-Ok-clause-told g c =
    let summary = c.in-Ok.summary in
    let files = c.args.asked.now.files in
    let count : c.len.result ≡ length files.items = omega (arith, c.len.ensures, files.ok.0) in
    ends_with_table c.args.asked.now (g.R.Read.remaining c.args.input.now) (g.S.FileStore.held c.args.files.now) c.table_text-table.result (g.R.Read.remaining c.print_blocks.new.input) summary.status summary.rows.items _ _ _ c.print.result c.in-Ok.ensures.told
    (IfOk-weaker c.table_text-table.result _ _ (λ text is. is ∙ ap (λ (n : ℕ). table_text c.args.asked.now.options.json n summary.rows.items) count) (rw c.deref.ensures.value at c.table_text-table.ensures)) c.print.ensures
