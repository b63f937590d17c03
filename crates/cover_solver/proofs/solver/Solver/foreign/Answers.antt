use Rattle.cover_solver.proofs.Vocabulary.{◌≡◌, true, sym, subst, ap, ◌∙◌, Question, StoreBufferMachine, no_gaps, ReplayFaultIs, ArePassed, IsShownRun, IsForeignRun, Asked, IsListOf}
use Rattle.std.specs.FinSet as set
use Rattle.gap_sets.specs.Ties.{names_in}
use Rattle.tso_machine.proofs.NamesPassed.{names_of_passed}
use Rattle.cover_solver.proofs.Tables.{foreign_again, passes_none, replays_unfenced}
use Rattle.cover_solver.proofs.solver.Solver.foreign.Goals as goal

pub of-requires-clause-foreign : goal.of-requires-clause-foreign
of-requires-clause-foreign c =
    let s = c.args.self.now in
    let labels = c.args.run.labels.items in
    let found = c.in-Ok.ended.outcome in
    let question = ap (λ (a : Asked). a.question) c.self.view_is in
    let list = subst (λ (a : Asked). IsListOf a.question a.outcomes) c.self.view_is c.self.invariant.0 in
    let again = subst (λ (q : Question). IsShownRun q (StoreBufferMachine no_gaps) labels found) question
    (subst (λ ls. IsShownRun c.self.inside.question (StoreBufferMachine no_gaps) ls found) c.deref.ensures.value c.in-Ok.ensures.replay.is_run) in
    subst (λ (q : Question). IsForeignRun q labels found) (sym (c.in_ok-question-in-Ok.ensures ∙ question))
    (foreign_again s.question c.args.set.now s.outcomes labels c.args.run.outcome found c.in-Ok.ended.passed list c.requires.is_run c.requires.new again)

pub of-requires-clause-passed : goal.of-requires-clause-passed
of-requires-clause-passed c =
    let labels = c.args.run.labels.items in
    subst (λ (q : Question). ArePassed q.program (StoreBufferMachine no_gaps) labels c.in-Ok.ended.passed) (sym c.in_ok-question-in-Ok.ensures)
    (subst (λ ls. ArePassed c.self.inside.question.program (StoreBufferMachine no_gaps) ls c.in-Ok.ended.passed) c.deref.ensures.value c.in-Ok.ensures.replay.passed)

pub returns-in_ok-question-in-Ok : goal.returns-in_ok-question-in-Ok
returns-in_ok-question-in-Ok c =
    let s = c.args.self.now in
    let labels = c.args.run.labels.items in
    let found = c.in-Ok.ended.outcome in
    let passed = c.in-Ok.ended.passed in
    let question = ap (λ (a : Asked). a.question) c.self.view_is in
    let list = subst (λ (a : Asked). IsListOf a.question a.outcomes) c.self.view_is c.self.invariant.0 in
    let again = subst (λ (q : Question). IsShownRun q (StoreBufferMachine no_gaps) labels found) question
    (subst (λ ls. IsShownRun c.self.inside.question (StoreBufferMachine no_gaps) ls found) c.deref.ensures.value c.in-Ok.ensures.replay.is_run) in
    let are = subst (λ (q : Question). ArePassed q.program (StoreBufferMachine no_gaps) labels passed) question
    (subst (λ ls. ArePassed c.self.inside.question.program (StoreBufferMachine no_gaps) ls passed) c.deref.ensures.value c.in-Ok.ensures.replay.passed) in (
      c.of.ensures.question ∙ c.in_ok-question-in-Ok.ensures ∙ question,
      c.of.ensures.foreign,
      (λ gap passes. passes_none s.question c.args.set.now s.outcomes labels c.args.run.outcome found (names_in s.question.ties passed) list c.requires.is_run c.requires.new again (names_of_passed s.question labels passed are) gap
          (subst (λ gaps. set.contains gaps gap ≡ true) (c.of.ensures.passed ∙ ap (λ (q : Question). names_in q.ties passed) (c.in_ok-question-in-Ok.ensures ∙ question)) passes)),
    )

pub of_run-requires : goal.of_run-requires
of_run-requires c =
    let s = c.args.self.now in
    let labels = c.args.run.labels.items in
    let question = ap (λ (a : Asked). a.question) c.self.view_is in
    replays_unfenced s.question c.args.set.now labels c.args.run.outcome c.in-Err.fault c.requires.is_run
    (subst (λ (q : Question). ReplayFaultIs q.program (StoreBufferMachine no_gaps) labels c.in-Err.fault) question
    (subst (λ ls. ReplayFaultIs c.self.inside.question.program (StoreBufferMachine no_gaps) ls c.in-Err.fault) c.deref.ensures.value c.in-Err.ensures.fault))
