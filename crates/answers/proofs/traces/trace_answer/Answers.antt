use Rattle.answers.proofs.traces.trace_answer.Goals as goal

pub returns-in-Ok-clause-told : goal.returns-in-Ok-clause-told
returns-in-Ok-clause-told c = record {
  lines = c.in_ok-said.said.lines.items;
  document = c.in_ok-said.said.document;
  traced = c.in_ok-said.ensures.run;
  delivered = rw c.as_deref.ensures.value at c.in-Ok.ensures;
}
