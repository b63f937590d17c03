use Rattle.fencer.proofs.Vocabulary.{◌∙◌}
use Rattle.fencer.proofs.Surveyed.{names_file}
use Rattle.fencer.proofs.surveys.named_refusal.Goals as goal

pub returns : goal.returns
returns c =
    names_file c.refusal_document.result c.args.name.now c.args.line.now _ (c.as_bytes.ensures.value ∙ c.shown_name.ensures) c.refusal_document.ensures.text c.refusal_document.ensures.json
