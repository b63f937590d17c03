use Rattle.cert_check.proofs.Vocabulary.{arith, asked, RunsFaultIs, err_up}
use Rattle.cert_check.proofs.Replayed.{replays_more, first_fault}
use Rattle.cert_check.proofs.runs.replay_all.Goals as goal

pub returns-in_err-end-clause-fault : goal.returns-in_err-end-clause-fault
returns-in_err-end-clause-fault c =
    err_up c.from_residual.result c.in_err-end.field-0.0 (RunsFaultIs c.args.program.now c.args.model c.args.runs.now) c.from_residual.ensures.1
    (first_fault (asked c.args.program.now c.args.shown.now) c.args.model c.args.runs.now c.in-Some.run'.now c.loop-run.run-iterator c.next.new.self c.in-Some.ensures.steps
    c.loop-run.outcomes.items c.loop-run.passed.items c.loop-run.invariant c.in_err-end.field-0.0 c.len.result (let same = c.loop-run.outcomes.ok.0 in let long = c.len.ensures in omega arith) c.in_err-end.ensures.fault)

pub loop-run-preserved : goal.loop-run-preserved
loop-run-preserved c =
    replays_more (asked c.args.program.now c.args.shown.now) c.args.model c.args.runs.now c.in-Some.run'.now c.loop-run.run-iterator c.next.new.self c.in-Some.ensures.steps
    c.loop-run.outcomes.items c.loop-run.passed.items c.loop-run.invariant c.push.new.self.items c.push-in-loop-run.new.self.items c.in_ok-end.end c.in_ok-end.ensures.replay c.in_ok-push.ensures.items c.in_ok-push-2.ensures.items
