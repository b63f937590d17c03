use Rattle.oracle.proofs.Vocabulary.{◌≡◌, true, false, sym, subst, ◌∙◌, Question, StoreBufferMachine, no_gaps, ArePassed, IsShownRun, IsForeignRun, IsSequentialOutcome, ReplayFaultIs, ForeignFaultIs}
use Rattle.tso_machine.proofs.Refused.{one_shown}
use Rattle.oracle.proofs.ForeignRuns.{fault_of_foreign, no_fault_of_foreign}
use Rattle.oracle.proofs.foreign_run.ForeignRun.new.Goals as goal

pub returns-then-has-clause-fault : goal.returns-then-has-clause-fault
returns-then-has-clause-fault c =
    let o = c.in-Ok.ended.outcome in (
      o,
      subst (λ (q : Question). IsShownRun q (StoreBufferMachine no_gaps) c.args.labels.now o) c.question-question.ensures.value c.in-Ok.ensures.replay.is_run,
      c.has.ensures.0 c.if-has.true,
    )

pub returns-then-has-clause-exact : goal.returns-then-has-clause-exact
returns-then-has-clause-exact c o run =
    let found = c.in-Ok.ended.outcome in
    let q = c.args.table.now.question in
    let again = subst (λ (q : Question). IsShownRun q (StoreBufferMachine no_gaps) c.args.labels.now found) c.question-question.ensures.value c.in-Ok.ensures.replay.is_run in
    absurd (run.foreign (subst (IsSequentialOutcome q) (one_shown q (StoreBufferMachine no_gaps) c.args.labels.now found o again run.is_run) (c.has.ensures.0 c.if-has.true)))

pub of-requires-clause-foreign : goal.of-requires-clause-foreign
of-requires-clause-foreign c =
    let found = c.in-Ok.ended.outcome in
    subst (λ ls. IsForeignRun c.in_ok-copy-in-Ok.field-0 ls found) (sym c.in_ok-labels-in-Ok.ensures.items)
    (subst (λ (q : Question). IsForeignRun q c.args.labels.now found) (sym c.in_ok-copy-in-Ok.ensures)
    (record {
      is_run = c.in-Ok.ensures.replay.is_run;
      foreign = λ sequential. (let yes = c.has.ensures.1 (subst (λ (q : Question). IsSequentialOutcome q found) c.question-question.ensures.value sequential) in let no : true ≡ false = sym yes ∙ c.if-has.false in cc);
    }))

pub of-requires-clause-passed : goal.of-requires-clause-passed
of-requires-clause-passed c =
    subst (λ ls. ArePassed c.in_ok-copy-in-Ok.field-0.program (StoreBufferMachine no_gaps) ls c.in-Ok.ended.passed) (sym c.in_ok-labels-in-Ok.ensures.items)
    (subst (λ (q : Question). ArePassed q.program (StoreBufferMachine no_gaps) c.args.labels.now c.in-Ok.ended.passed) (sym c.in_ok-copy-in-Ok.ensures) c.in-Ok.ensures.replay.passed)

pub returns-in-Err-clause-fault : goal.returns-in-Err-clause-fault
returns-in-Err-clause-fault c =
    let q = c.args.table.now.question in
    let fault = subst (λ (asked : Question). ReplayFaultIs asked.program (StoreBufferMachine no_gaps) c.args.labels.now c.in-Err.fault) c.question-question.ensures.value c.in-Err.ensures.fault in
    subst (ForeignFaultIs q c.args.labels.now) (sym c.replay_fault.ensures) (fault_of_foreign q c.args.labels.now c.in-Err.fault fault)

pub returns-in-Err-clause-exact : goal.returns-in-Err-clause-exact
returns-in-Err-clause-exact c o run =
    let fault = subst (λ (asked : Question). ReplayFaultIs asked.program (StoreBufferMachine no_gaps) c.args.labels.now c.in-Err.fault) c.question-question.ensures.value c.in-Err.ensures.fault in
    c.replay_fault.ensures ∙ no_fault_of_foreign c.args.table.now.question c.args.labels.now c.in-Err.fault o fault run
