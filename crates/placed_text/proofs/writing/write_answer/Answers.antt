use Rattle.placed_text.proofs.Vocabulary.{refl}
use Rattle.placed_text.proofs.writing.write_answer.Goals as goal

pub returns : goal.returns
returns c = record {
  program = c.in-Ok.ensures.text;
  again = c.in-Ok.ensures.again;
  line = c.in_ok-answer_line.ensures;
  document = rw (c.deref.ensures.value, c.holds_by-holds.ensures) at c.in_ok-document.ensures;
  set = refl;
  decided = c.requires.verdict;
}
