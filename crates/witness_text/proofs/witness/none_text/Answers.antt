use Rattle.witness_text.proofs.Vocabulary.{none}
use Rattle.witness_text.proofs.witness.none_text.Goals as goal

pub returns : goal.returns
returns c = rw (c.in_ok-lines.ensures.items, c.none_line.ensures) (none c.in_ok-document.document c.requires.none c.in_ok-document.ensures)
