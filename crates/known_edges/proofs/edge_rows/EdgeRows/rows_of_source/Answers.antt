use Rattle.known_edges.proofs.edge_rows.EdgeRows.rows_of_source.Goals as goal

pub returns : goal.returns
returns c = record {
  reader = c.row_of-reader.ensures;
  written = c.row_of-written.ensures;
  initial = λ l is d. (
    λ h. (let q = (c.minus.ensures d).0 h in ((c.writes_after-after.ensures.initial l is d).0 q.0, q.1)),
    λ h. (c.minus.ensures d).1 ((c.writes_after-after.ensures.initial l is d).1 h.0, h.1),
  );
  after = λ t i is d. (
    λ h. (let q = (c.minus.ensures d).0 h in ((c.writes_after-after.ensures.after t i is d).0 q.0, q.1)),
    λ h. (c.minus.ensures d).1 ((c.writes_after-after.ensures.after t i is d).1 h.0, h.1),
  );
}
