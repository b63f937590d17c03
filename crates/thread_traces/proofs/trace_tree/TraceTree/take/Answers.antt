use Rattle.thread_traces.proofs.Vocabulary.{◌≡◌, ◌∙◌, List, Some, refl, sym, ap, slice_get, subst, arith, TraceNode, TracePlace, IsChildOf}
use Rattle.thread_traces.proofs.TraceTrees.{in_none, nodes_twice, same_tree, taken_is, taken_tree}
use Rattle.thread_traces.proofs.trace_tree.TraceTree.take.Goals as goal

pub returns-in_err-trace-clause-unknown : goal.returns-in_err-trace-clause-unknown
returns-in_err-trace-clause-unknown c = in_none c.from_residual-in_err-trace.result (λ p mode given is.
    same_tree p mode given c.args.self.now is (record { nodes = c.take_trace.new.nodes; places = c.args.self.now.places }) c.take_trace.ensures.nodes refl)

pub returns-clause-found : goal.returns-clause-found
returns-clause-found c p mode given is =
    let place = c.in_ok-place.place in
    let there : slice_get c.args.self.now.places.items c.args.t ≡ Some place = ap (λ (xs : List TracePlace). slice_get xs c.args.t) (sym c.as_slice.ensures.value) ∙ sym c.in_ok-place.ensures in
    let at : place.node ≡ Some c.in_ok-at.at = c.in_ok-at.was in
    let inside : place.beyond ≡ 0 = grind arith in
    let child : IsChildOf c.args.self.now.nodes.items c.in_ok-at.at c.args.value c.in_ok-child.child =
    subst (λ (xs : List TraceNode). IsChildOf xs c.in_ok-at.at c.args.value c.in_ok-child.child) c.as_slice-2.ensures.value c.in_ok-child.ensures in
    taken_is p mode given c.args.self.now is c.args.t place there c.args.value c.in_ok-at.at c.in_ok-child.child at inside child c.in_ok-trace.trace
    c.in_ok-trace.ensures.trace

pub returns-clause-moved : goal.returns-clause-moved
returns-clause-moved c p mode given next is more =
    let place = c.in_ok-place.place in
    let there : slice_get c.args.self.now.places.items c.args.t ≡ Some place = ap (λ (xs : List TracePlace). slice_get xs c.args.t) (sym c.as_slice.ensures.value) ∙ sym c.in_ok-place.ensures in
    let at : place.node ≡ Some c.in_ok-at.at = c.in_ok-at.was in
    let inside : place.beyond ≡ 0 = grind arith in
    let child : IsChildOf c.args.self.now.nodes.items c.in_ok-at.at c.args.value c.in_ok-child.child =
    subst (λ (xs : List TraceNode). IsChildOf xs c.in_ok-at.at c.args.value c.in_ok-child.child) c.as_slice-2.ensures.value c.in_ok-child.ensures in
    taken_tree p mode given c.args.self.now is c.args.t place there c.args.value c.in_ok-at.at c.in_ok-child.child at inside child next more (record { nodes = c.point_at.new.nodes; places = c.put.new.places })
    (nodes_twice c.args.self.now.nodes.items c.take_trace.new.nodes.items c.point_at.new.nodes.items c.take_trace.ensures.nodes c.point_at.ensures) c.put.ensures
