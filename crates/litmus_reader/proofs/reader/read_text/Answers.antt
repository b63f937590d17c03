use Rattle.litmus_reader.proofs.Vocabulary.{◌∙◌, handed_on}
use Rattle.litmus_reader.proofs.{WholeTexts.Split, WholeTexts.text_read, WholeTexts.tokens_refused, Fronts.first_line_refused, Fronts.skipped_lines_refused}
use Rattle.litmus_reader.proofs.reader.read_text.Goals as goal

pub returns-in_err-name : goal.returns-in_err-name
returns-in_err-name c = rw (handed_on c.from_residual-in_err-name.result c.from_residual-in_err-name.ensures.1) (first_line_refused c.args.bytes.now c.in_err-name.field-0.0 c.in_ok-check_utf8.ensures.ok c.in_err-name.ensures.only c.in_err-name.ensures.refused)

pub returns-in_err-others : goal.returns-in_err-others
returns-in_err-others c =
    rw (handed_on c.from_residual-in_err-others.result c.from_residual-in_err-others.ensures.1)
    (skipped_lines_refused c.args.bytes.now c.in_ok-name.name.now c.in_ok-name.lines.now c.in_err-others.field-0.0 c.in_ok-check_utf8.ensures.ok c.in_ok-name.ensures.found c.in_err-others.ensures.only c.in_err-others.ensures.refused)

pub returns-in_err-litmus : goal.returns-in_err-litmus
returns-in_err-litmus c =
    let split : Split c.args.bytes.now c.in_ok-name.name.now c.in_ok-name.lines.now c.in_ok-others.others.now c.in_ok-tokens.tokens = record {
      utf8 = c.in_ok-check_utf8.ensures.ok;
      first_line = c.in_ok-name.ensures.found;
      first_only = c.in_ok-name.ensures.only;
      skipped = c.in_ok-others.ensures.found;
      skipped_only = c.in_ok-others.ensures.only;
      lexes = c.in_ok-tokens.ensures.found;
      lexes_only = c.in_ok-tokens.ensures.only;
    } in
    rw (handed_on c.from_residual-in_err-litmus.result c.from_residual-in_err-litmus.ensures.1)
    (tokens_refused c.args.bytes.now c.in_ok-name.name.now c.in_ok-name.lines.now c.in_ok-others.others.now c.in_ok-tokens.tokens c.in_err-litmus.field-0.0 split c.in_err-litmus.ensures)

pub returns : goal.returns
returns c =
    let split : Split c.args.bytes.now c.in_ok-name.name.now c.in_ok-name.lines.now c.in_ok-others.others.now c.in_ok-tokens.tokens = record {
      utf8 = c.in_ok-check_utf8.ensures.ok;
      first_line = c.in_ok-name.ensures.found;
      first_only = c.in_ok-name.ensures.only;
      skipped = c.in_ok-others.ensures.found;
      skipped_only = c.in_ok-others.ensures.only;
      lexes = c.in_ok-tokens.ensures.found;
      lexes_only = c.in_ok-tokens.ensures.only;
    } in
    text_read c.args.bytes.now c.in_ok-name.name.now c.of-name.result c.in_ok-name.lines.now c.in_ok-others.others.now c.in_ok-tokens.tokens c.in_ok-litmus.litmus split (c.of-name.ensures ∙ c.in_ok-from_slice.ensures.items) c.in_ok-litmus.ensures
