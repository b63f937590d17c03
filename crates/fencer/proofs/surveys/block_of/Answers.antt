use Rattle.fencer.proofs.Vocabulary.{IfOk-weaker, file_line}
use Rattle.fencer.specs.Surveys.{IsBlock, of_text, no_text}
use Rattle.fencer.proofs.Surveyed.{as_refused}
use Rattle.fencer.proofs.surveys.block_of.Goals as goal

pub returns-in-Ok-clause-told : goal.returns-in-Ok-clause-told
returns-in-Ok-clause-told g c =
    let bytes = c.in-Ok.bytes.items in
    IfOk-weaker c.block_of_text.result _ _ (λ block is. of_text bytes block.status block.lines.items block.row.items c.in-Ok.ensures.whole is) c.block_of_text.ensures

pub returns-in-Err-clause-told : goal.returns-in-Err-clause-told
returns-in-Err-clause-told g c =
    let why = c.in-Err.fault in
    let name = c.args.name.now in
    let options = c.args.manner.options in
    let held = g.S.FileStore.held c.args.files.now in
    let input = g.R.Read.remaining c.args.input.now in
    IfOk-weaker c.unread_block.result _ _ (λ block is. as_refused options.json name (file_line why) block (IsBlock options held name input) (λ text says. no_text why text c.in-Err.ensures.err says) is) c.unread_block.ensures
