use Rattle.placed_text.proofs.Vocabulary.{◌≡◌, ◌∙◌, [], SetOfGaps, ap, sym, subst, names_in, names_of, question_in, IsReason, Told}
use Rattle.placed_text.proofs.ReasonTexts.{AreHeld, first_held, numbers_are_held, tells_more}
use Rattle.placed_text.proofs.explaining.reasons.Goals as goal

pub loop-name-init : goal.loop-name-init
loop-name-init c =
    let same : c.names_in-names.result ≡ names_of (question_in c.args.problem.now) c.args.certificate.now = c.names_in-names.ensures ∙ ap (names_in c.args.problem.now.costs.ties) c.gaps_of.ensures in
    record {
      told = ([], tt, c.new-2.ensures.items, c.new-3.ensures);
      to_come = subst (λ (names : SetOfGaps). AreHeld names c.into_iter-name-iterator.result) same
          (subst (AreHeld c.names_in-names.result) (sym (c.into_iter-name-iterator.ensures.into_iter_gives ∙ c.iter-name-items.ensures.value)) (numbers_are_held c.names_in-names.result c.recall_facts.ensures.gaps));
    }

pub reason_for-requires-clause-names : goal.reason_for-requires-clause-names
reason_for-requires-clause-names c = c.names_in-names.ensures ∙ ap (names_in c.args.problem.now.costs.ties) c.gaps_of.ensures

pub reason_for-requires-clause-name : goal.reason_for-requires-clause-name
reason_for-requires-clause-name c =
    (first_held (names_of (question_in c.args.problem.now) c.args.certificate.now) c.loop-name.name-iterator c.in-Some.name c.next.new.self c.in-Some.ensures.steps c.loop-name.invariant.to_come).0.1

pub reason_for-requires-clause-held : goal.reason_for-requires-clause-held
reason_for-requires-clause-held c =
    rw (c.names_in-names.ensures, c.gaps_of.ensures)
    (first_held (names_of (question_in c.args.problem.now) c.args.certificate.now) c.loop-name.name-iterator c.in-Some.name c.next.new.self c.in-Some.ensures.steps c.loop-name.invariant.to_come).0.0

pub loop-name-preserved : goal.loop-name-preserved
loop-name-preserved c =
    let problem = c.args.problem.now in
    let ties = problem.costs.ties in
    let names = names_of (question_in problem) c.args.certificate.now in
    let same : c.names_in-names.result ≡ names = c.names_in-names.ensures ∙ ap (names_in ties) c.gaps_of.ensures in
    let told : Told = (c.in_ok-reason.reason.lines.items, c.in_ok-reason.reason.run) in
    let reason = subst (λ (s : SetOfGaps). IsReason problem.litmus problem.shown ties s c.in-Some.name told) same c.in_ok-reason.ensures in
    record {
      told = rw (c.in_ok-push.ensures.lines, c.in_ok-push.ensures.runs)
          (tells_more problem.litmus problem.shown ties names c.loop-name.yielded c.loop-name.told.lines.items c.loop-name.told.runs c.in-Some.name told c.loop-name.invariant.told reason);
      to_come = (first_held names c.loop-name.name-iterator c.in-Some.name c.next.new.self c.in-Some.ensures.steps c.loop-name.invariant.to_come).1;
    }
