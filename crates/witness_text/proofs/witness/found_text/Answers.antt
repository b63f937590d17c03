use Rattle.witness_text.proofs.Vocabulary.{List, subst, All, Label, TellsRun, found}
use Rattle.documents.specs.declared.run.Setting.{TheVariants.Machine}
use Rattle.witness_text.proofs.FencedRuns.{told_run}
use Rattle.witness_text.proofs.witness.found_text.Goals as goal

pub returns : goal.returns
returns c =
    let source = c.args.litmus.now in
    let sought = c.args.sought in
    let ended = c.in_ok-replay.replay.ended in
    let run = c.in_ok-told.told.run in
    let document = subst (λ (labels : List Label). TellsRun source All (Machine sought.model) labels ended.outcome ended.passed run) c.in_ok-replay.ensures.labels
    (rw c.deref.ensures.value at c.in_ok-told.ensures.document) in
    found c.in_ok-told.told.lines.items run c.in_ok-document.document
    (told_run source sought c.args.labels.now ended c.in_ok-told.told.lines.items run c.requires.run c.in_ok-replay.ensures.ended c.in_ok-told.ensures.printed document)
    c.in_ok-document.ensures
