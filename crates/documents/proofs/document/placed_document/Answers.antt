use Rattle.std.specs.Prelude.{codes}
use Rattle.documents.specs.Documents.{placed_members}
use Rattle.documents.proofs.Told.{added}
use Rattle.documents.proofs.document.placed_document.Goals as goal

pub returns : goal.returns
returns c =
    let source = c.args.source.now.litmus.now in
    let lines = c.args.source.now.lines.now in
    let answer = c.args.answer.now in (
      lines,
      c.in_ok-add_saying.ensures (codes "place") (placed_members source.program lines answer.shown.now c.args.costs.now answer.gaps.now c.args.fenced.now)
          (record {
            first = c.in_ok-object.object;
            heading = c.in_ok-object.ensures;
            printed = added _ _ _ _ _ c.in_ok-add_answer.ensures (rw c.in_ok-text.ensures at c.in_ok-add.ensures.text);
          }),
    )
