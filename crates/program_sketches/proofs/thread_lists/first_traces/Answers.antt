use Rattle.program_sketches.proofs.Vocabulary.{◌≡◌, ◌∙◌, ◌+◌, ap, sym, subst, length, arith, [], Some, slice_get, ℕ, ThreadTrace, machine_of_mode}
use Rattle.std.proofs.lemmas.List.{length_push}
use Rattle.thread_traces.specs.ThreadTraces.{IsThreadTraceOf}
use Rattle.program_sketches.proofs.Lawful.{made_more, new_kept, new_parts}
use Rattle.program_sketches.proofs.thread_lists.first_traces.Goals as goal

pub loop-t-preserved : goal.loop-t-preserved
loop-t-preserved c =
    let more = made_more c.args.program.now c.args.mode c.loop-t.traces.items c.loop-t.t c.of-given.result c.in_ok-thread_trace_of.field-0 c.loop-t.invariant.many c.loop-t.invariant.made
    (c.of-given.ensures ∙ c.new.ensures.items) c.in_ok-thread_trace_of.ensures in
    record {
      many = ap length c.in_ok-push.ensures.items ∙ length_push c.loop-t.traces.items c.in_ok-thread_trace_of.field-0 ∙ ap (λ n. n + 1) c.loop-t.invariant.many;
      made = subst (λ cs. (k : ℕ) (x : ThreadTrace) → slice_get cs k ≡ Some x → IsThreadTraceOf c.args.program.now (machine_of_mode c.args.program.now c.args.mode) k [] x) (sym c.in_ok-push.ensures.items) more;
    }

pub returns-clause-kept : goal.returns-clause-kept
returns-clause-kept c =
    let threads = ap length c.threads-threads.ensures.value in
    let few = c.threads-threads.ensures.within.shared.few_threads in
    new_kept c.args.program.now c.args.mode c.loop-t.traces.items c.threads-threads.ensures.within (omega arith) c.loop-t.invariant.made

pub returns-clause-empty : goal.returns-clause-empty
returns-clause-empty c =
    let threads = ap length c.threads-threads.ensures.value in
    let few = c.threads-threads.ensures.within.shared.few_threads in
    new_parts c.args.program.now c.args.mode c.loop-t.traces.items (omega arith) c.loop-t.invariant.made
