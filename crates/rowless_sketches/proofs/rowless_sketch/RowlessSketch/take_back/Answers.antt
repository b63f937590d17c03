use Rattle.rowless_sketches.proofs.Vocabulary.{◌≡◌, ◌∙◌, Some, ap, refl, set, slice_get, slice_get_read, length, sym, subst, with_chosen, MarkedThread, IsValueMarkOf, KeepsTraces, IsThreadTraceOf, ThreadTrace, given_at, given_in, machine_of_mode, view_of}
use Rattle.rowless_sketches.proofs.Vocabulary.{IsTraceTree}
use Rattle.candidate_executions.specs.Sketches as sketches
use Rattle.rowless_sketches.proofs.ValuesGiven.{taken_kept, taken_more, taken_parts, taken_there}
use Rattle.rowless_sketches.proofs.rowless_sketch.RowlessSketch.take_back.Goals as goal

pub invariant_of-self : goal.invariant_of-self
invariant_of-self c =
    let (earlier, value, is, now) = c.requires in
    let p = c.self.inside.base.program in
    let mode = c.self.inside.base.mode in
    let traces = c.self.inside.thread_traces.items in
    let sources = c.self.inside.sources.items in
    let pairs = c.self.inside.pairs.items in
    let mark : MarkedThread = record { thread = c.mark.inside.thread; trace = c.mark.inside.trace } in
    let own = subst (λ (m : MarkedThread). IsValueMarkOf m earlier) (sym c.mark.view_is) is in
    let same = c.self.view_is ∙ subst (λ (m : MarkedThread). c.args.self.now ≡ with_chosen earlier (sketches.with_value earlier.chosen m.thread value)) (sym c.mark.view_is) now in
    let there = taken_there p mode traces sources pairs c.self.invariant.kept mark earlier value own same in
    let more = taken_more p mode traces sources pairs c.self.invariant.kept mark earlier value own same in
    let last : slice_get traces mark.thread ≡ Some c.replace-own.result = slice_get_read traces (length traces) mark.thread c.index_mut.result.now refl there c.index_mut.ensures.value ∙ ap Some (sym c.replace-own.ensures.value) in
    let trace = subst (λ given. IsThreadTraceOf p (machine_of_mode p mode) mark.thread given c.replace-own.result) (sym (given_at traces mark.thread c.replace-own.result last)) (c.self.invariant.kept.traces_are mark.thread c.replace-own.result last) in
    record {
      kept = subst (λ (x : ThreadTrace). KeepsTraces p mode (set traces mark.thread x) sources pairs) (sym c.replace-own.ensures.after) (taken_kept p mode traces sources pairs c.self.invariant.kept mark earlier value own same);
      lists_are = c.self.invariant.lists_are;
      tree_is = subst (λ (x : ThreadTrace). IsTraceTree p mode (given_in (set traces mark.thread x)) c.leave.new.self) (sym c.replace-own.ensures.after)
          (c.leave.ensures p mode (given_in traces) (given_in (set traces mark.thread mark.trace)) value c.self.invariant.tree_is more trace);
    }

pub returns : goal.returns
returns c earlier value is now =
    let p = c.self.inside.base.program in
    let mode = c.self.inside.base.mode in
    let traces = c.self.inside.thread_traces.items in
    let sources = c.self.inside.sources.items in
    let pairs = c.self.inside.pairs.items in
    let mark : MarkedThread = record { thread = c.mark.inside.thread; trace = c.mark.inside.trace } in
    let own = subst (λ (m : MarkedThread). IsValueMarkOf m earlier) (sym c.mark.view_is) is in
    let same = c.self.view_is ∙ subst (λ (m : MarkedThread). c.args.self.now ≡ with_chosen earlier (sketches.with_value earlier.chosen m.thread value)) (sym c.mark.view_is) now in
    ap (λ (x : ThreadTrace). view_of p mode (set traces mark.thread x) sources pairs) c.replace-own.ensures.after ∙ taken_parts p mode traces sources pairs c.self.invariant.kept mark earlier value own same
