use Rattle.known_edges.proofs.Vocabulary.{◌∙◌, length, sym, ap, ThreadTrace, grown_none}
use Rattle.known_edges.proofs.Accesses.{IsBelow, grown_threads, grown_all, before_thread, below_none, accesses_read}
use Rattle.known_edges.proofs.numbered_traces.push_events.Goals as goal

pub loop-t-init : goal.loop-t-init
loop-t-init c = grown_none (IsBelow c.args.thread_traces.now 0) c.args.events.now.items (below_none c.args.thread_traces.now)

pub push_thread-requires : goal.push_thread-requires
push_thread-requires c = before_thread c.args.thread_traces.now c.args.events.now.items c.loop-t.events.items c.loop-t.t c.requires.initial c.loop-t.invariant

pub loop-t-preserved : goal.loop-t-preserved
loop-t-preserved c =
    let here = accesses_read c.args.thread_traces.now c.loop-t.t c.index-thread_traces-t.result c.loop-t-test.true c.index-thread_traces-t.is in
    let long = c.len.ensures in
    grown_threads c.args.thread_traces.now c.args.events.now.items c.loop-t.events.items c.push_thread.new.events.items c.loop-t.t c.len.result (ap length here ∙ ap (λ (x : ThreadTrace). length x.accesses) (sym c.trace.ensures) ∙ sym long) c.loop-t.invariant
    c.in_ok-push_thread.ensures.exact c.in_ok-push_thread.ensures.ordered

pub returns-clause-exact : goal.returns-clause-exact
returns-clause-exact c = (grown_all c.args.thread_traces.now c.args.events.now.items c.loop-t.events.items c.loop-t.t c.loop-t-test.false c.loop-t.invariant).exact

pub returns-clause-ordered : goal.returns-clause-ordered
returns-clause-ordered c = c.loop-t.invariant.ordered
