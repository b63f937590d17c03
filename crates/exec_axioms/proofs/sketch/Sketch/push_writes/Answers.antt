use Rattle.exec_axioms.proofs.Vocabulary.{get_or, slice_get-get_or, Initial, IsValueWritten}
use Rattle.exec_axioms.proofs.Sources.{one_listed, all_listed}
use Rattle.exec_axioms.proofs.sketch.Sketch.push_writes.Goals as goal

pub loop-d-preserved : goal.loop-d-preserved
loop-d-preserved c =
    let events = c.args.events.now in
    let d = c.in-Some.d in
    let here = c.in-Some.ensures.1 in
    one_listed (IsValueWritten c.args.self.now c.args.value) events c.args.row c.loop-d.left d c.without-left.result c.args.sources.now.items c.loop-d.sources.items c.push_if_written.new.sources.items
    (get_or events d (Initial 0)) c.loop-d.invariant (slice_get-get_or events d (Initial 0) (c.requires d (c.loop-d.invariant.part d here))) here c.in-Some.ensures.2 c.without-left.ensures.numbers
    c.in_ok-push_if_written.ensures.exact c.in_ok-push_if_written.ensures.ordered

pub returns-clause-exact : goal.returns-clause-exact
returns-clause-exact c = all_listed (IsValueWritten c.args.self.now c.args.value) c.args.events.now c.args.row c.loop-d.left c.args.sources.now.items c.loop-d.sources.items c.loop-d.invariant c.in_default.ensures
