use Rattle.known_edges.proofs.Vocabulary.{ℕ, ◌+◌, sym, subst, IsRowOf, not_by}
use Rattle.known_edges.proofs.Masks.{IsReaderBelow, readers_more, readers_skip, readers_all}
use Rattle.known_edges.proofs.access_rows.readers_of.Goals as goal
use Rattle.known_edges.proofs.access_rows.readers_of.Goals.{then-is_same+then-not-is_same, else-is_same, else-is_same-via-then-is_same+else-not-is_same, else-is_same-via-else-is_same}

pub loop-chosen-preserved : goal.loop-chosen-preserved
loop-chosen-preserved c = elim c.if-is_same.branch [
  | then-is_same+then-not-is_same w ↦ subst (λ (row : ℕ). IsRowOf c.args.traces.now.events (IsReaderBelow c.args.sources.now (c.loop-chosen.chosen-index + 1) c.args.source c.args.except) row) (sym w.row-is)
      (readers_more c.args.traces.now.events c.args.sources.now c.args.source c.args.except c.loop-chosen.chosen-index c.loop-chosen.row c.loop-chosen-test.true c.loop-chosen.invariant
      w.row_of.result w.joined-row.result (c.is_same.ensures.0 w.if-is_same.true) (not_by _ _ w.is_same-then-is_same.ensures w.if-not-is_same.true) w.row_of.ensures w.joined-row.ensures)
  | else-is_same w ↦ subst (λ (row : ℕ). IsRowOf c.args.traces.now.events (IsReaderBelow c.args.sources.now (c.loop-chosen.chosen-index + 1) c.args.source c.args.except) row) (sym w.row-is)
      (readers_skip c.args.traces.now.events c.args.sources.now c.args.source c.args.except c.loop-chosen.chosen-index c.loop-chosen.row c.loop-chosen-test.true c.loop-chosen.invariant
      (elim w.else-is_same.branch [
        | else-is_same-via-then-is_same+else-not-is_same v ↦ (λ p q. q (v.is_same-then-is_same.ensures.0 v.if-not-is_same.false))
        | else-is_same-via-else-is_same v ↦ (λ p q. not_by _ _ c.is_same.ensures v.if-is_same.false p)
      ]))
]

pub returns : goal.returns
returns c = readers_all c.args.traces.now.events c.args.sources.now c.args.source c.args.except c.loop-chosen.chosen-index c.loop-chosen.row c.loop-chosen-test.false c.loop-chosen.invariant
