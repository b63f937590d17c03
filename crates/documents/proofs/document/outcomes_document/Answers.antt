use Rattle.std.specs.Prelude.{codes}
use Rattle.documents.specs.Documents.{outcomes_members}
use Rattle.documents.proofs.document.outcomes_document.Goals as goal

pub returns : goal.returns
returns c =
    let members = outcomes_members c.args.source.now.litmus.now c.args.shown.now c.args.machine c.args.outcomes.now in
    rw c.is_true_of-holds.ensures at (c.in_ok-add_saying.ensures (codes "outcomes") members c.in_ok-object.ensures)
