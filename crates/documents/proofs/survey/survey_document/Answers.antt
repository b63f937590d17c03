use Rattle.documents.proofs.Vocabulary.{List, ℕ, ◌++◌}
use Rattle.documents.specs.Surveys.{Found, both_answers, executed_members, found_in}
use Rattle.documents.proofs.Told.{added, joined}
use Rattle.documents.proofs.survey.survey_document.Goals as goal

pub returns : goal.returns
returns c =
    let found : Found = found_in c.args.found.now in
    let litmus = c.args.source.now.litmus.now in
    let lines = c.args.source.now.lines.now in
    let first : List (List ℕ) = c.in_ok-object.object in
    let executed : List (List ℕ) = executed_members lines found in
    let answers : List (List ℕ) = both_answers litmus.program lines found in
    let answered = joined first executed answers _ _ c.in_ok-add_executed.ensures c.in_ok-add_answers.ensures in (
      c.in_ok-sayings.field-0,
      c.in_ok-sayings.ensures,
      (
        lines,
        record {
          first = first;
          heading = c.in_ok-object.ensures;
          printed = added first (executed ++ answers) _ _ _ answered c.in_ok-add.ensures.text;
        },
      ),
    )
