use Rattle.exec_axioms.proofs.Vocabulary.{◌∙◌, ap, sym, subst, List, [], arc_value, ThreadTrace, view_of, IsRepresented, none_chosen, new_kept_by, begun}
use Rattle.bit_rows.proofs.Written.{zeros, zeros_are_empty}
use Rattle.bit_rows.specs.declared.row.TheConstants.{ROW_BITS}
use Rattle.exec_axioms.proofs.sketch.Sketch.of_traces.Goals as goal

pub in_order-requires : goal.in_order-requires
in_order-requires c = (c.args.program.now, c.args.mode, [], [], c.requires)

pub invariant_of-result : goal.invariant_of-result
invariant_of-result c =
    let traces = c.args.thread_traces.items in
    let events = (arc_value c.in_ok-ordered.ordered.traces).events in
    let kept = new_kept_by c.args.program.now c.in_ok-copy.field-0 c.args.mode traces c.new.result.items c.new-2.result.items c.in_ok-copy.ensures c.new.ensures.items c.new-2.ensures.items c.requires in
    subst (λ (thread_traces : List ThreadTrace). IsRepresented c.in_ok-copy.field-0 c.args.mode thread_traces events c.new.result.items c.new-2.result.items (zeros ROW_BITS)
    c.in_ok-ordered.ordered.main c.in_ok-ordered.ordered.global) (sym c.in_ok-ordered.ensures.thread_traces)
    (begun c.in_ok-copy.field-0 c.args.mode traces events c.new.result.items c.new-2.result.items kept
    (none_chosen c.new.result.items c.new-2.result.items c.new.ensures.items c.new-2.ensures.items)
    c.in_ok-ordered.ordered.main c.in_ok-ordered.ordered.global c.in_ok-ordered.ensures.order (zeros ROW_BITS) (zeros_are_empty ROW_BITS))

pub returns : goal.returns
returns c =
    ap (λ (thread_traces : List ThreadTrace). view_of c.in_ok-copy.field-0 c.args.mode thread_traces c.new.result.items c.new-2.result.items) c.in_ok-ordered.ensures.thread_traces
    ∙ (λ i. view_of (c.in_ok-copy.ensures i) c.args.mode c.args.thread_traces.items (c.new.ensures.items i) (c.new-2.ensures.items i))
