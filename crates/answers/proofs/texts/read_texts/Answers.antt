use Rattle.answers.proofs.Vocabulary.{subst, sym, option_map}
use Rattle.answers.specs.InputTexts.{HasNoTexts, no_costs}
use Rattle.answers.proofs.texts.read_texts.Goals as goal

pub returns-in-Err-bytes_if_named-clause-err : goal.returns-in-Err-bytes_if_named-clause-err
returns-in-Err-bytes_if_named-clause-err g c =
    subst (HasNoTexts c.args.litmus.now (option_map (λ name. name.now) c.args.costs) (g.R.Read.remaining c.args.input.now) (g.S.FileStore.held c.args.files.now)) (sym c.unread_text.ensures)
    (no_costs c.in-Ok.bytes.items c.in-Ok.ensures.whole c.in-Err-bytes_if_named.ensures.err)
