use Rattle.thread_traces.proofs.Vocabulary.{◌≡◌, ◌<◌, ◌≤◌, get_or, length, subst}
use Rattle.thread_traces.proofs.KnownValues.{known_more, known_come}
use Rattle.thread_traces.proofs.location_values.push_known.Goals as goal

pub loop-thread-preserved : goal.loop-thread-preserved
loop-thread-preserved c =
    let within = subst (λ threads. c.loop-thread.thread-index < length threads) c.threads-thread-items.ensures.value c.loop-thread-test.true in
    let is = subst (λ threads. c.thread-item.result ≡ get_or threads c.loop-thread.thread-index c.thread-item.result) c.threads-thread-items.ensures.value c.thread-item.is in
    known_more c.args.program.now.threads c.loop-thread.thread-index c.thread-item.result c.as_slice.result.now c.as_slice-in-loop-thread.result.now
    c.args.values.now.items c.loop-thread.values.items c.push_numbers.new.values.items c.extend_from_slice.new.self.items
    within is c.as_slice.ensures c.as_slice-in-loop-thread.ensures c.loop-thread.invariant c.in_ok-push_numbers.ensures c.in_ok-extend_from_slice.ensures.items

pub returns : goal.returns
returns c =
    let past = subst (λ threads. length threads ≤ c.loop-thread.thread-index) c.threads-thread-items.ensures.value c.loop-thread-test.false in
    known_come c.args.program.now c.loop-thread.thread-index c.memory.result.now c.args.values.now.items c.loop-thread.values.items c.extend_from_slice-2.new.self.items
    past c.memory.ensures.value c.loop-thread.invariant c.in_ok-extend_from_slice-2.ensures.items
