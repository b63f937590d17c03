use Rattle.thread_traces.proofs.Vocabulary.{◌≡◌, ◌<◌, ◌≤◌, [], get_or, length, sym, subst, TakesRegisterOf}
use Rattle.thread_traces.proofs.{KnownParts.not_by, Gathered.gathered_more, Gathered.values_without, Gathered.values_with, KnownValues.takes_same}
use Rattle.thread_traces.proofs.location_values.gathered.Goals as goal

pub loop-thread-preserved : goal.loop-thread-preserved
loop-thread-preserved c =
    let within = subst (λ threads. c.loop-thread.thread-index < length threads) c.threads-thread-items.ensures.value c.loop-thread-test.true in
    let is = subst (λ threads. c.thread-item.result ≡ get_or threads c.loop-thread.thread-index c.thread-item.result) c.threads-thread-items.ensures.value c.thread-item.is in
    gathered_more c.args.program.now c.args.location c.loop-thread.thread-index c.thread-item.result c.as_slice.result.now [] c.loop-thread.values.items c.push_numbers.new.values.items
    within is c.as_slice.ensures c.loop-thread.invariant c.in_ok-push_numbers.ensures

pub returns-then-not-takes_register : goal.returns-then-not-takes_register
returns-then-not-takes_register c =
    let past = subst (λ threads. length threads ≤ c.loop-thread.thread-index) c.threads-thread-items.ensures.value c.loop-thread-test.false in
    values_without c.args.program.now c.args.location c.loop-thread.thread-index c.loop-thread.values.items past
    (λ h. not_by _ _ c.takes_register.ensures c.if-not-takes_register.true
    (subst (λ threads. TakesRegisterOf threads c.args.location) (sym c.threads.ensures.value) ((takes_same c.args.program.now c.args.location).1 h)))
    c.loop-thread.invariant

pub returns : goal.returns
returns c =
    let past = subst (λ threads. length threads ≤ c.loop-thread.thread-index) c.threads-thread-items.ensures.value c.loop-thread-test.false in
    let takes = subst (λ threads. TakesRegisterOf threads c.args.location) c.threads.ensures.value (c.takes_register.ensures.0 c.if-not-takes_register.false) in
    values_with c.args.program.now c.args.location c.loop-thread.thread-index c.loop-thread.values.items c.push_known.new.values.items past
    ((takes_same c.args.program.now c.args.location).0 takes) c.loop-thread.invariant c.in_ok-push_known.ensures
