use Rattle.fencer.proofs.Vocabulary.{◌∙◌, arith, map, sym, string_bytes, file_line, prints_more, prints_nothing, words_of, IsUtf8Refusal, no_utf8, IsOutput, by_line, no_line, line_alone, after_line}
use Rattle.answers.proofs.PrintedRefusals.{prints_refused_line}
use Rattle.fencer.proofs.Served.{of_words, of_input, kept_by_words, kept_by_input, read_for_words, read_for_input, line_fault, no_version, utf8_reply}
use Rattle.fencer.proofs.command.run_command.Goals as goal

pub returns-then-not-is_empty-clause-told : goal.returns-then-not-is_empty-clause-told
returns-then-not-is_empty-clause-told g c =
    prints_more _ _ _ _ c.run_words.result
    (λ status out reply. of_words string_bytes _ _ _ status out c.args.words.now (sym c.is_empty.ensures ∙ c.if-not-is_empty.true) reply) c.run_words.ensures.told

pub returns-then-not-is_empty-clause-others : goal.returns-then-not-is_empty-clause-others
returns-then-not-is_empty-clause-others g c =
    kept_by_words string_bytes (g.R.Read.remaining c.args.input.now) (g.S.FileStore.held c.args.files.now) (g.S.FileStore.held c.run_words.new.files) c.args.words.now (sym c.is_empty.ensures ∙ c.if-not-is_empty.true) c.run_words.ensures.others

pub returns-in-Err-clause-told : goal.returns-in-Err-clause-told
returns-in-Err-clause-told g c =
    let input = g.R.Read.remaining c.args.input.now in
    let why = c.in-Err.fault in
    let files = g.S.FileStore.held c.args.files.now in
    prints_refused_line c.file_line.result (file_line why) (IsOutput (map string_bytes c.args.words.now) input files files) _ _ c.tell_refusal.result
    (of_input string_bytes input files files 1 (file_line why) c.args.words.now (sym c.is_empty.ensures ∙ c.if-not-is_empty.false) (no_line why (line_fault input (g.R.Read.remaining c.read_line_up_to.new.input) why c.in-Err.ensures.err)))
    c.file_line.ensures c.tell_refusal.ensures

pub returns-in-Ok-line_words-clause-told : goal.returns-in-Ok-line_words-clause-told
returns-in-Ok-line_words-clause-told g c =
    let rest = g.R.Read.remaining c.read_line_up_to.new.input in
    let line = c.in-Ok.line in
    prints_more _ _ _ _ c.run_words-in-Ok-line_words.result
    (λ status out reply. of_input string_bytes _ _ _ status out c.args.words.now (sym c.is_empty.ensures ∙ c.if-not-is_empty.false) (by_line line.items rest status out c.in-Ok.ensures.line (omega (arith, c.in-Ok.ensures.within, line.ok.0)) reply))
    (rw (c.as_slice.ensures.value, c.in-Ok-line_words.ensures.words, c.deref.ensures.value) at c.run_words-in-Ok-line_words.ensures.told)

pub returns-in-Ok-line_words-clause-others : goal.returns-in-Ok-line_words-clause-others
returns-in-Ok-line_words-clause-others g c =
    let kept = rw (c.as_slice.ensures.value, c.in-Ok-line_words.ensures.words, c.deref.ensures.value) at c.run_words-in-Ok-line_words.ensures.others in
    kept_by_input string_bytes (g.R.Read.remaining c.args.input.now) (g.S.FileStore.held c.args.files.now) (g.S.FileStore.held c.run_words-in-Ok-line_words.new.files) c.args.words.now (sym c.is_empty.ensures ∙ c.if-not-is_empty.false)
    (λ name not_asked. kept name (λ asked. not_asked (record { line = c.in-Ok.line.items; rest = g.R.Read.remaining c.read_line_up_to.new.input; taken = c.in-Ok.ensures.line; asked = asked })))

pub returns-in-Err-NotUtf8-clause-told : goal.returns-in-Err-NotUtf8-clause-told
returns-in-Err-NotUtf8-clause-told g c =
    let rest = g.R.Read.remaining c.read_line_up_to.new.input in
    let line = c.in-Ok.line in
    let refused = rw c.deref.ensures.value at (c.in-Err-NotUtf8.ensures.refused c.in-Err-NotUtf8.field-0-is) in
    prints_more IsUtf8Refusal _ _ _ c.refuse_words.result
    (λ status out is. of_input string_bytes _ _ _ status out c.args.words.now (sym c.is_empty.ensures ∙ c.if-not-is_empty.false)
    (by_line line.items rest status out c.in-Ok.ensures.line (omega (arith, c.in-Ok.ensures.within, line.ok.0)) (utf8_reply (words_of line.items) rest _ _ status out (no_version (words_of line.items) refused.word refused.there refused.no_utf8) (no_utf8 refused.word refused.there refused.no_utf8) is))) c.refuse_words.ensures

pub returns-clause-told : goal.returns-clause-told
returns-clause-told g c = prints_nothing _ _

pub returns-then-not-is_empty-clause-read : goal.returns-then-not-is_empty-clause-read
returns-then-not-is_empty-clause-read g c =
    read_for_words string_bytes (g.R.Read.remaining c.args.input.now) (g.R.Read.remaining c.run_words.new.input) c.args.words.now (sym c.is_empty.ensures ∙ c.if-not-is_empty.true) c.run_words.ensures.read

pub returns-in-Err-clause-read : goal.returns-in-Err-clause-read
returns-in-Err-clause-read g c =
    read_for_input string_bytes (g.R.Read.remaining c.args.input.now) (g.R.Read.remaining c.read_line_up_to.new.input) c.args.words.now (sym c.is_empty.ensures ∙ c.if-not-is_empty.false) (line_alone c.read_line_up_to.ensures.taken)

pub returns-in-Ok-line_words-clause-read : goal.returns-in-Ok-line_words-clause-read
returns-in-Ok-line_words-clause-read g c =
    let line = c.in-Ok.line in
    let reads = rw (c.as_slice.ensures.value, c.in-Ok-line_words.ensures.words, c.deref.ensures.value) at c.run_words-in-Ok-line_words.ensures.read in
    read_for_input string_bytes (g.R.Read.remaining c.args.input.now) (g.R.Read.remaining c.run_words-in-Ok-line_words.new.input) c.args.words.now (sym c.is_empty.ensures ∙ c.if-not-is_empty.false)
    (after_line line.items (g.R.Read.remaining c.read_line_up_to.new.input) c.in-Ok.ensures.line (omega (arith, c.in-Ok.ensures.within, line.ok.0)) reads)

pub returns-in-Err-NotUtf8-clause-read : goal.returns-in-Err-NotUtf8-clause-read
returns-in-Err-NotUtf8-clause-read g c =
    read_for_input string_bytes (g.R.Read.remaining c.args.input.now) (g.R.Read.remaining c.read_line_up_to.new.input) c.args.words.now (sym c.is_empty.ensures ∙ c.if-not-is_empty.false) (line_alone c.read_line_up_to.ensures.taken)

pub returns-clause-read : goal.returns-clause-read
returns-clause-read g c =
    read_for_input string_bytes (g.R.Read.remaining c.args.input.now) (g.R.Read.remaining c.read_line_up_to.new.input) c.args.words.now (sym c.is_empty.ensures ∙ c.if-not-is_empty.false) (line_alone c.read_line_up_to.ensures.taken)
