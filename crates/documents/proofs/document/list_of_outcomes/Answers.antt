use Rattle.documents.specs.Documents.{list_members}
use Rattle.documents.specs.FencedModels.{machine_members}
use Rattle.documents.proofs.Told.{joined}
use Rattle.documents.proofs.document.list_of_outcomes.Goals as goal

pub returns : goal.returns
returns c =
    let source = c.args.source.now.litmus.now in
    let machine = machine_members source.program c.args.machine in
    let list = list_members source c.args.shown.now c.args.outcomes.now in
    record { first = c.in_ok-object.object; heading = c.in_ok-object.ensures; printed = joined c.in_ok-object.object machine list _ _ c.in_ok-add_fenced_model.ensures c.in_ok-add_list.ensures }
