use Rattle.survey_text.proofs.Vocabulary.{ap, refl, ℕ}
use Rattle.std.specs.Prelude.{nat_lt}
use Rattle.survey_text.proofs.finding.told.Goals as goal

pub returns : goal.returns
returns c = λ costs is. record {
  survey = c.args.survey.now;
  is = is;
  lines = c.in_ok-lines.lines;
  printed = c.in_ok-survey_lines.ensures;
  row = c.in_ok-survey_row.ensures;
  document = c.in_ok-document_of.ensures;
  failing = c.fails.ensures;
  some_unexecuted = ap (λ (n : ℕ). nat_lt 0 n) (rw c.deref.ensures.value at c.unexecuted.ensures);
  decided = refl;
}
