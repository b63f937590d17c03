use Rattle.known_edges.proofs.Vocabulary.{◌∙◌, ◌<◌, ◌≤◌, ℕ, List, get_or, length, refl, ap, sym, subst, arith, ROW_BITS, Event, Initial, NumberedTraces, InOrder, IsRowOf, AreRowsOf, length-set, zeros_are_empty}
use Rattle.known_edges.proofs.{Masks.rows_more, Masks.rows_all, Masks.rows_join, InThreadOrder.order_never_round}
use Rattle.known_edges.proofs.numbered_traces.Traces.order_rows.Goals as goal

pub loop-d-init : goal.loop-d-init
loop-d-init c = (refl, (λ d e. (λ h. absurd ((zeros_are_empty ROW_BITS) d e h), λ h. absurd (let l = h.0 in omega arith))))

pub bounds-rows-d : goal.bounds-rows-d
bounds-rows-d c =
    let long = ap length c.as_slice-from-items.ensures.value in
    let few = c.self.invariant.numbered.few in
    let within = c.loop-d-test.true in
    omega arith

pub loop-d-preserved : goal.loop-d-preserved
loop-d-preserved c =
    let events = c.as_slice-from-items.ensures.value ∙ ap (λ (x : NumberedTraces). x.events) c.self.view_is in
    let within = subst (λ (es : List Event). c.loop-d.d < length es) events c.loop-d-test.true in
    let few = c.self.invariant.numbered.few in
    let same = ap length (ap (λ (x : NumberedTraces). x.events) c.self.view_is) in
    let row = subst (λ (es : List Event). IsRowOf c.args.self.now.events (InOrder c.args.self.now.thread_traces c.args.kind (get_or es c.loop-d.d (Initial 0))) c.later_in_order.result) events c.later_in_order.ensures in
    let long = c.loop-d.invariant.0 in (
      length-set c.loop-d.rows c.loop-d.d c.later_in_order.result ∙ long,
      rows_more c.args.self.now.events (InOrder c.args.self.now.thread_traces c.args.kind) c.loop-d.d c.later_in_order.result c.loop-d.rows
          within (omega arith) c.loop-d.invariant.1 row,
    )

pub of_order-requires-clause-transitive : goal.of_order-requires-clause-transitive
of_order-requires-clause-transitive c =
    let end = subst (λ (es : List Event). length es ≤ c.loop-d.d) (c.as_slice-from-items.ensures.value ∙ ap (λ (x : NumberedTraces). x.events) c.self.view_is) c.loop-d-test.false in
    rows_join c.args.self.now.events (InOrder c.args.self.now.thread_traces c.args.kind) c.loop-d.rows
    (rows_all c.args.self.now.events (InOrder c.args.self.now.thread_traces c.args.kind) c.loop-d.d c.loop-d.rows end c.loop-d.invariant.1) c.requires

pub of_order-requires-clause-irreflexive : goal.of_order-requires-clause-irreflexive
of_order-requires-clause-irreflexive c =
    let end = subst (λ (es : List Event). length es ≤ c.loop-d.d) (c.as_slice-from-items.ensures.value ∙ ap (λ (x : NumberedTraces). x.events) c.self.view_is) c.loop-d-test.false in
    order_never_round c.args.self.now.thread_traces c.args.kind c.args.self.now.events c.loop-d.rows
    (rows_all c.args.self.now.events (InOrder c.args.self.now.thread_traces c.args.kind) c.loop-d.d c.loop-d.rows end c.loop-d.invariant.1)

pub returns : goal.returns
returns c =
    let end = subst (λ (es : List Event). length es ≤ c.loop-d.d) (c.as_slice-from-items.ensures.value ∙ ap (λ (x : NumberedTraces). x.events) c.self.view_is) c.loop-d-test.false in
    subst (λ (rows : List ℕ). AreRowsOf c.args.self.now.events (InOrder c.args.self.now.thread_traces c.args.kind) rows) (sym c.of_order.ensures)
    (rows_all c.args.self.now.events (InOrder c.args.self.now.thread_traces c.args.kind) c.loop-d.d c.loop-d.rows end c.loop-d.invariant.1)
