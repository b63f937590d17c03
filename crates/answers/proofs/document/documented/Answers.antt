use Rattle.answers.proofs.Vocabulary.{refl}
use Rattle.answers.proofs.document.documented.Goals as goal

pub returns : goal.returns
returns c = record {
  line = c.in_ok-document.document.items;
  noted = c.in_ok-document.ensures;
  delivered = record {
    lines = c.printed.ensures;
    ends = refl;
    as_asked = refl;
    paged = rw c.in_ok-first.ensures (rw c.deref.ensures.value at c.in_ok-page_for.ensures);
  };
}
