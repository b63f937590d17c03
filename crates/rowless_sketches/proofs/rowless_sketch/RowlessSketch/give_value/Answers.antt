use Rattle.rowless_sketches.proofs.Vocabulary.{◌≡◌, ◌∙◌, ap, sym, subst, length, List, Some, IsSome, get_or, set, refl, ℕ, slice_get_read, IsValueOf, ThreadTrace, ProgramSketch, mode_in, with_chosen, view_of, KeepsTraces, MarkedThread}
use Rattle.rowless_sketches.proofs.Vocabulary.{IsValueMarkOf, reads_there, more_kept, more_parts, given_at, given_in, IsTraceTree}
use Rattle.candidate_executions.specs.Sketches as sketches
use Rattle.rowless_sketches.proofs.ValuesGiven.{given_more}
use Rattle.rowless_sketches.proofs.rowless_sketch.RowlessSketch.give_value.Goals as goal

pub invariant_of-self-2 : goal.invariant_of-self-2
invariant_of-self-2 c =
    let p = c.self.inside.base.program in
    let mode = c.self.inside.base.mode in
    let traces = c.self.inside.thread_traces.items in
    let sources = c.self.inside.sources.items in
    let pairs = c.self.inside.pairs.items in
    let some = subst (λ (s : ProgramSketch). IsSome (sketches.next_read s.program (mode_in s) s.chosen c.args.t)) (sym c.self.view_is) c.requires.read in
    let fits = subst (λ (s : ProgramSketch). (l : ℕ) → sketches.next_read s.program (mode_in s) s.chosen c.args.t ≡ Some l → IsValueOf s.program l c.args.value) (sym c.self.view_is) c.requires.value in
    let there = reads_there p mode traces sources pairs c.self.invariant.kept c.args.t some in
    let index = subst (λ (ts : List ThreadTrace). c.index-thread_traces-place.result ≡ get_or ts c.args.t c.index-thread_traces-place.result) c.as_slice-thread_traces.ensures.value c.index-thread_traces-place.is in
    let own = c.index-thread_traces-place.result in
    let old = slice_get_read traces (length traces) c.args.t own refl there index in
    let given = given_at traces c.args.t own old in
    let trace = c.in_ok-next.ensures.trace (given_in traces) c.self.invariant.tree_is given in
    record {
      kept = subst (λ (next : ThreadTrace). KeepsTraces p mode (set traces c.args.t next) sources pairs) (sym c.replace-trace.ensures.after)
          (more_kept p mode traces sources pairs c.self.invariant.kept c.args.t c.args.value own c.in_ok-next.next old trace some fits);
      lists_are = c.self.invariant.lists_are;
      tree_is = subst (λ (next : ThreadTrace). IsTraceTree p mode (given_in (set traces c.args.t next)) c.trace_after.new.tree) (sym c.replace-trace.ensures.after)
          (c.in_ok-next.ensures.moved (given_in traces) (given_in (set traces c.args.t c.in_ok-next.next)) c.self.invariant.tree_is (given_more traces c.args.t c.args.value own c.in_ok-next.next old trace.given_is));
    }

pub invariant_of-self : goal.invariant_of-self
invariant_of-self c = record {
  kept = c.self.invariant.kept;
  lists_are = c.self.invariant.lists_are;
  tree_is = c.in_err-next.ensures.kept (given_in c.self.inside.thread_traces.items) c.self.invariant.tree_is;
}

pub returns-clause-ok : goal.returns-clause-ok
returns-clause-ok c =
    let p = c.self.inside.base.program in
    let mode = c.self.inside.base.mode in
    let traces = c.self.inside.thread_traces.items in
    let sources = c.self.inside.sources.items in
    let pairs = c.self.inside.pairs.items in
    let some = subst (λ (s : ProgramSketch). IsSome (sketches.next_read s.program (mode_in s) s.chosen c.args.t)) (sym c.self.view_is) c.requires.read in
    let fits = subst (λ (s : ProgramSketch). (l : ℕ) → sketches.next_read s.program (mode_in s) s.chosen c.args.t ≡ Some l → IsValueOf s.program l c.args.value) (sym c.self.view_is) c.requires.value in
    let there = reads_there p mode traces sources pairs c.self.invariant.kept c.args.t some in
    let index = subst (λ (ts : List ThreadTrace). c.index-thread_traces-place.result ≡ get_or ts c.args.t c.index-thread_traces-place.result) c.as_slice-thread_traces.ensures.value c.index-thread_traces-place.is in
    let own = c.index-thread_traces-place.result in
    let old = slice_get_read traces (length traces) c.args.t own refl there index in
    let trace = c.in_ok-next.ensures.trace (given_in traces) c.self.invariant.tree_is (given_at traces c.args.t own old) in
    ap (λ (next : ThreadTrace). view_of p mode (set traces c.args.t next) sources pairs) c.replace-trace.ensures.after
    ∙ more_parts p mode traces sources pairs c.self.invariant.kept c.args.t c.args.value own c.in_ok-next.next old trace some fits
    ∙ ap (λ (s : ProgramSketch). with_chosen s (sketches.with_value s.chosen c.args.t c.args.value)) c.self.view_is

pub returns-clause-mark : goal.returns-clause-mark
returns-clause-mark c =
    let p = c.self.inside.base.program in
    let mode = c.self.inside.base.mode in
    let traces = c.self.inside.thread_traces.items in
    let sources = c.self.inside.sources.items in
    let pairs = c.self.inside.pairs.items in
    let some = subst (λ (s : ProgramSketch). IsSome (sketches.next_read s.program (mode_in s) s.chosen c.args.t)) (sym c.self.view_is) c.requires.read in
    let there = reads_there p mode traces sources pairs c.self.invariant.kept c.args.t some in
    let old = slice_get_read traces (length traces) c.args.t c.index_mut.result.now refl there c.index_mut.ensures.value ∙ ap Some (sym c.replace-trace.ensures.value) in
    let mark : MarkedThread = record { thread = c.args.t; trace = c.replace-trace.result } in
    subst (λ (s : ProgramSketch). IsValueMarkOf mark s) c.self.view_is (record { traces = traces; seen = refl; kept = c.self.invariant.kept; there = old })
