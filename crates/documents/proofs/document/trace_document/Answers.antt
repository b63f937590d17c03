use Rattle.documents.proofs.document.trace_document.Goals as goal

pub returns : goal.returns
returns c = record {
  run = c.in_ok-told.told;
  told = c.in_ok-told.ensures;
  is = record { first = c.in_ok-object.object; heading = c.in_ok-object.ensures; printed = c.in_ok-add.ensures.text };
}
