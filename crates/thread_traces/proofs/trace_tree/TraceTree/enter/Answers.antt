use Rattle.thread_traces.proofs.Vocabulary.{◌≡◌, ◌∙◌, List, Some, refl, sym, ap, slice_get, TracePlace}
use Rattle.thread_traces.proofs.TraceTrees.{entered, in_err, no_place, nodes_same, same_tree, stays}
use Rattle.thread_traces.proofs.trace_tree.TraceTree.enter.Goals as goal

pub returns-in_err-next-clause-err : goal.returns-in_err-next-clause-err
returns-in_err-next-clause-err c = in_err c.from_residual.result (λ p mode given is. same_tree p mode given c.args.self.now is (record { nodes = c.next_place.new.nodes; places = c.args.self.now.places })
    (nodes_same c.args.self.now.nodes.items c.next_place.new.nodes.items c.in_err-next.ensures.err) refl)

pub returns-in_ok-next-clause-ok : goal.returns-in_ok-next-clause-ok
returns-in_ok-next-clause-ok c p mode given next is more =
    let place = c.in-Some.place in
    let to : TracePlace = record { node = c.in_ok-next.next.node; beyond = c.in_ok-next.next.beyond } in
    let there : slice_get c.args.self.now.places.items c.args.t ≡ Some place = ap (λ (xs : List TracePlace). slice_get xs c.args.t) (sym c.as_slice.ensures.value) ∙ sym c.in-Some.ensures in
    entered p mode given c.args.self.now is c.args.t place there c.args.value next more
    (record { nodes = c.next_place.new.nodes; places = c.put.new.places }) to c.in_ok-next.ensures.ok c.put.ensures

pub returns-in_default-clause-ok : goal.returns-in_default-clause-ok
returns-in_default-clause-ok c p mode given next is more = stays p mode given c.args.self.now is c.args.t next more.1
    (no_place c.args.self.now.places.items c.args.t (ap (λ (xs : List TracePlace). slice_get xs c.args.t) (sym c.as_slice.ensures.value) ∙ sym c.in_default.ensures))
