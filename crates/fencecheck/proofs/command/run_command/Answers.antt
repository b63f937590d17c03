use Rattle.fencecheck.proofs.Vocabulary.{◌∙◌, map, refl, sym, prints_more, prints_line, version_line, codes, string_bytes, IsCheckOutput, IsUsage, usage_text}
use Rattle.fencecheck.proofs.Usage.{usage_output, version_output}
use Rattle.fencecheck.proofs.command.run_command.Goals as goal

pub returns-then-asks_version-clause-printed : goal.returns-then-asks_version-clause-printed
returns-then-asks_version-clause-printed g c =
    prints_line c.version_line.result 0 (version_line (codes "fencecheck")) (IsCheckOutput (map string_bytes c.args.words.now) (g.R.Read.remaining c.args.input.now) (g.S.FileStore.held c.args.files.now)) _ _ c.print.result
    (version_output string_bytes c.args.words.now (g.R.Read.remaining c.args.input.now) (g.S.FileStore.held c.args.files.now) (sym c.asks_version.ensures ∙ c.if-asks_version.true)).0 c.version_line.ensures c.print.ensures

pub returns-then-asks_version-clause-read : goal.returns-then-asks_version-clause-read
returns-then-asks_version-clause-read g c =
    (version_output string_bytes c.args.words.now (g.R.Read.remaining c.args.input.now) (g.S.FileStore.held c.args.files.now) (sym c.asks_version.ensures ∙ c.if-asks_version.true)).1

pub returns-then-is_misused-clause-printed : goal.returns-then-is_misused-clause-printed
returns-then-is_misused-clause-printed g c =
    let input = g.R.Read.remaining c.args.input.now in
    let files = g.S.FileStore.held c.args.files.now in
    prints_more IsUsage (IsCheckOutput (map string_bytes c.args.words.now) input files) _ _ c.print-then-is_misused.result
    (usage_output string_bytes c.args.words.now input files (sym c.asks_version.ensures ∙ c.if-asks_version.false) (sym c.is_misused.ensures ∙ c.if-is_misused.true)).0
    (prints_line c.usage_text.result 2 usage_text IsUsage _ _ c.print-then-is_misused.result (refl, refl) c.usage_text.ensures (rw c.tell_misuse.ensures at c.print-then-is_misused.ensures))

pub returns-then-is_misused-clause-read : goal.returns-then-is_misused-clause-read
returns-then-is_misused-clause-read g c =
    (usage_output string_bytes c.args.words.now (g.R.Read.remaining c.args.input.now) (g.S.FileStore.held c.args.files.now) (sym c.asks_version.ensures ∙ c.if-asks_version.false) (sym c.is_misused.ensures ∙ c.if-is_misused.true)).1
