use Rattle.cert_check.proofs.Vocabulary.{List, sym, ap, ◌∙◌, subst, SetOfGaps, question_of, StoreBufferMachine, no_gaps, IsShownRun, IsRunOf, HavePassed}
use Rattle.std.proofs.Common.{map}
use Rattle.gap_sets.specs.Ties.{names_in}
use Rattle.cert_check.proofs.{Assembled.each_outside, Assembled.first_not_foreign, Replayed.have_passed, Replayed.zip_left, Replayed.of_shown}
use Rattle.cert_check.proofs.checker.Claim.foreign_runs.Goals as goal

pub returns-in-Some-clause-fault : goal.returns-in-Some-clause-fault
returns-in-Some-clause-fault c = rw (← c.certificate.view_is) (λ costs has.
    let q = question_of c.args.self.now in
    let outcomes = c.in-Ok.replays.outcomes.items in
    let each = c.in-Ok.ensures.replays.are_runs in (
      c.args.listed.now,
      record { complete = has; runs = zip_left (IsShownRun q (StoreBufferMachine no_gaps)) (IsRunOf q.program (StoreBufferMachine no_gaps)) (of_shown q (StoreBufferMachine no_gaps)) _ outcomes each },
      first_not_foreign q c.args.listed.now _ outcomes c.in-Some.number each (rw c.deref.ensures.value at (rw c.in-Some.is at c.in_ok-known.ensures)),
    ))

pub returns-clause-passed : goal.returns-clause-passed
returns-clause-passed c = rw (← c.certificate.view_is) (
    let q = question_of c.args.self.now in
    let gaps = c.in-Ok.replays.passed.items in
    subst (λ (names : List SetOfGaps). HavePassed q c.certificate.inside.runs names) (sym (c.in_ok-names_passed-in-None.ensures ∙ ap (map (names_in q.ties)) c.deref-in-None.ensures.value))
    (have_passed q c.certificate.inside.runs gaps c.in-Ok.ensures.replays.are_passed))

pub returns-clause-foreign : goal.returns-clause-foreign
returns-clause-foreign c =
    rw (← c.certificate.view_is) (each_outside (question_of c.args.self.now) c.args.listed.now _ c.in-Ok.replays.outcomes.items c.in-Ok.ensures.replays.are_runs
    (rw c.deref.ensures.value at (rw c.in-None.is at c.in_ok-known.ensures)))
