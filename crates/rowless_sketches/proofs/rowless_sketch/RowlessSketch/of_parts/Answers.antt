use Rattle.rowless_sketches.proofs.Vocabulary.{◌∙◌, List, ap, sym, subst, Listing, Event, ThreadTrace, ProgramSketch, KeepsTraces, given_in, AreSomeLists}
use Rattle.rowless_sketches.proofs.rowless_sketch.RowlessSketch.of_parts.Goals as goal

pub invariant_of-result : goal.invariant_of-result
invariant_of-result c =
    let parts = c.parts.inside in
    let p = c.in_ok-copy.field-0 in
    let mode = parts.mode.now in
    let traces = c.in_ok-copied.field-0.items in
    let sources = c.in_ok-with_room.field-0.items in
    record {
      kept = subst (λ (ys : List (Event × Event)). KeepsTraces p mode traces sources ys) (sym c.in_ok-with_room-2.ensures)
          (subst (λ (xs : List (Event × Event)). KeepsTraces p mode traces xs parts.pairs.now) (sym c.in_ok-with_room.ensures)
          (subst (λ (ts : List ThreadTrace). KeepsTraces p mode ts parts.sources.now parts.pairs.now) (sym c.in_ok-copied.ensures)
          (subst (λ (q : Listing). KeepsTraces q mode parts.thread_traces.now parts.sources.now parts.pairs.now) (sym c.in_ok-copy.ensures) c.parts.invariant)));
      lists_are = subst (λ (q : Listing). AreSomeLists q c.in_ok-values.values.items) (sym (c.in_ok-copy.ensures ∙ ap (λ (x : ProgramSketch). x.program) c.parts.view_is)) c.in_ok-values.ensures;
      tree_is = c.in_ok-new.ensures p mode (given_in traces);
    }
