use Rattle.answers.proofs.Vocabulary.{◌∙◌, List, ap, subst, Label, machine_of_model}
use Rattle.run_views.specs.Tables.{table_text}
use Rattle.std.specs.FinSet as set
use Rattle.tso_machine.specs.Machine as machine
use Rattle.documents.specs.Documents.{IsTraceDocument}
use Rattle.documents.proofs.Steps.{labels_of_steps}
use Rattle.answers.proofs.traces.drawings_of.Goals as goal

pub returns-in-Ok-clause-table : goal.returns-in-Ok-clause-table
returns-in-Ok-clause-table c =
    (c.in_ok-steps.steps.items, rw c.empty.ensures at c.in_ok-steps.ensures.steps, c.in-Ok.ensures.table ∙ ap (table_text c.args.litmus.now) c.deref.ensures.value)

pub returns-in-Ok-clause-told : goal.returns-in-Ok-clause-told
returns-in-Ok-clause-told c =
    let p = c.args.litmus.now.program in
    subst (λ (labels : List Label). IsTraceDocument c.args.litmus.now c.args.model labels c.args.ended.now.outcome c.args.ended.now.passed c.in-Ok.drawings.document)
    (labels_of_steps p (machine_of_model p set.empty c.args.model) (machine.start p) c.args.labels.now c.in_ok-steps.steps.items (rw c.empty.ensures at c.in_ok-steps.ensures.steps))
    (rw c.deref.ensures.value at c.in-Ok.ensures.told)
