use Rattle.known_edges.proofs.Vocabulary.{◌∙◌, [], length, length-set, sym, ap, subst, refl, arith, slice_get_within, At, ThreadTrace, IsGrown, grown_none, below_is}
use Rattle.known_edges.proofs.Accesses.{IsBelow, grown_threads, grown_all, grown_alone, before_thread, below_none, below_of, accesses_read}
use Rattle.program_sketches.proofs.Lawful.{none_in}
use Rattle.known_edges.proofs.{InThreadOrder.none_ordered, Starts.starts_more, Starts.counts_more}
use Rattle.known_edges.proofs.numbered_traces.number_accesses.Goals as goal

pub loop-t-init : goal.loop-t-init
loop-t-init c = record {
  grown = subst (IsGrown (IsBelow c.args.thread_traces.now 0) []) (sym c.requires.none) (grown_none (IsBelow c.args.thread_traces.now 0) [] (below_none c.args.thread_traces.now));
  starts_are = λ d t i at. absurd (let l = slice_get_within c.args.events.now.items d (At t i) at in let empty = ap length c.requires.none in omega arith);
  long = c.requires.starts;
  counts_are = c.requires.counts.1;
  as_long = c.requires.counts.0;
}

pub overflow_cast-starts : goal.overflow_cast-starts
overflow_cast-starts c =
    let few = c.requires.fit c.loop-t.events.items (c.loop-t.invariant.grown.ordered none_ordered) (λ e h. below_of c.args.thread_traces.now c.loop-t.t e (below_is (IsBelow c.args.thread_traces.now c.loop-t.t) c.loop-t.events.items c.loop-t.invariant.grown e h)) in
    omega arith

pub overflow_cast-accesses : goal.overflow_cast-accesses
overflow_cast-accesses c =
    let here = ap length (accesses_read c.args.thread_traces.now c.loop-t.t c.index-thread_traces-t.result c.loop-t-test.true c.index-thread_traces-t.is) in
    let same = ap (λ (x : ThreadTrace). length x.accesses) c.trace.ensures in
    let short = c.requires.short c.loop-t.t in
    omega arith

pub push_thread-requires : goal.push_thread-requires
push_thread-requires c = before_thread c.args.thread_traces.now [] c.loop-t.events.items c.loop-t.t (λ e h. absurd (none_in e h)) c.loop-t.invariant.grown

pub loop-t-preserved : goal.loop-t-preserved
loop-t-preserved c =
    let here = accesses_read c.args.thread_traces.now c.loop-t.t c.index-thread_traces-t.result c.loop-t-test.true c.index-thread_traces-t.is in
    let inside = c.loop-t.invariant.long in
    let as_inside = c.loop-t.invariant.as_long in
    let few = c.requires.few in
    let there = c.loop-t-test.true in
    record {
      grown = grown_threads c.args.thread_traces.now [] c.loop-t.events.items c.push_thread.new.events.items c.loop-t.t c.len-accesses.result (ap length here ∙ ap (λ (x : ThreadTrace). length x.accesses) (sym c.trace.ensures) ∙ sym c.len-accesses.ensures) c.loop-t.invariant.grown
          c.in_ok-push_thread.ensures.exact c.in_ok-push_thread.ensures.ordered;
      starts_are = starts_more c.args.thread_traces.now c.loop-t.events.items c.push_thread.new.events.items c.loop-t.t c.len.result c.loop-t.starts
          (below_is (IsBelow c.args.thread_traces.now c.loop-t.t) c.loop-t.events.items c.loop-t.invariant.grown) (omega arith) (let same = c.len.ensures in omega arith) c.loop-t.invariant.starts_are c.in_ok-push_thread.ensures.places;
      long = length-set c.loop-t.starts c.loop-t.t c.len.result ∙ c.loop-t.invariant.long;
      counts_are = counts_more c.args.thread_traces.now c.loop-t.events.items c.push_thread.new.events.items c.loop-t.t c.len-accesses.result c.loop-t.counts
          (below_is (IsBelow c.args.thread_traces.now c.loop-t.t) c.loop-t.events.items c.loop-t.invariant.grown) (omega arith) c.loop-t.invariant.counts_are c.in_ok-push_thread.ensures.exact;
      as_long = length-set c.loop-t.counts c.loop-t.t c.len-accesses.result ∙ c.loop-t.invariant.as_long;
    }

pub returns-clause-accesses : goal.returns-clause-accesses
returns-clause-accesses c = grown_alone c.args.thread_traces.now [] c.loop-t.events.items refl (grown_all c.args.thread_traces.now [] c.loop-t.events.items c.loop-t.t c.loop-t-test.false c.loop-t.invariant.grown)
