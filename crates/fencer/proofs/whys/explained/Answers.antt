use Rattle.fencer.proofs.whys.explained.Goals as goal

pub returns-in-Ok-clause-told : goal.returns-in-Ok-clause-told
returns-in-Ok-clause-told g c = record {
  lines = c.in_ok-reasons.reasons.lines.items;
  document = c.in_ok-reasons.reasons.document;
  verdict = c.in_ok-reasons.reasons.verdict;
  told = rw (c.deref.ensures.value, c.as_deref-costs.ensures.value) at c.in_ok-reasons.ensures.told;
  delivered = rw (c.as_deref-page.ensures.value, c.told_of.ensures.0, c.told_of.ensures.1, c.told_of.ensures.2) at c.in-Ok.ensures;
}
