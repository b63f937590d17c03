use Rattle.documents.proofs.Told.{joined}
use Rattle.documents.proofs.gaps.gaps_document.Goals as goal

pub returns : goal.returns
returns c = (
  c.args.source.now.lines.now,
  record {
    first = c.in_ok-object.object;
    heading = c.in_ok-object.ensures;
    printed = joined _ _ _ _ _ (rw (c.in_ok-gaps.ensures, c.as_slice.ensures.value) at c.in_ok-add.ensures.text) c.in_ok-add_ties.ensures;
  },
)
