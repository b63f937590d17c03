use Rattle.fencer.proofs.Vocabulary.{◌∙◌, ℕ, List, ap}
use Rattle.answers.specs.Documented.{printed}
use Rattle.fencer.proofs.surveys.found_block.Goals as goal

pub returns : goal.returns
returns c =
    let document = c.in_ok-document.document.items in
    record {
      document = document;
      noted = c.in_ok-document.ensures;
      ends = c.survey_status-status.ensures;
      said = c.printed.ensures ∙ ap (λ (text : List ℕ). printed c.args.manner.options.json text document) (rw c.deref.ensures.value at c.in_ok-text.ensures);
      summed = rw c.deref-2.ensures.value at c.in_ok-row_line.ensures;
    }
