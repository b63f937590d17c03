use Rattle.thread_traces.proofs.Vocabulary.{◌≡◌, ◌∙◌, ◌<◌, ◌-◌, List, Some, refl, sym, ap, slice_get, arith, TracePlace}
use Rattle.thread_traces.proofs.TraceTrees.{left_beyond, left_node, no_place, one_place, stays}
use Rattle.thread_traces.proofs.trace_tree.TraceTree.leave.Goals as goal

pub returns-then-place-ne0 : goal.returns-then-place-ne0
returns-then-place-ne0 c p mode given earlier value is more own =
    let place = c.in-Some.place in
    let to : TracePlace = record { node = place.node; beyond = place.beyond - 1 } in
    let there : slice_get c.args.self.now.places.items c.args.t ≡ Some place = ap (λ (xs : List TracePlace). slice_get xs c.args.t) (sym c.as_slice.ensures.value) ∙ sym c.in-Some.ensures in
    let some : 0 < place.beyond = grind arith in
    left_beyond p mode given c.args.self.now is c.args.t place there value earlier more some (record { nodes = c.args.self.now.nodes; places = c.put.new.places }) to refl (omega arith) refl c.put.ensures

pub returns-in-Some-node : goal.returns-in-Some-node
returns-in-Some-node c p mode given earlier value is more own =
    let place = c.in-Some.place in
    let to : TracePlace = record { node = c.put_trace-parent.result; beyond = 0 } in
    let there : slice_get c.args.self.now.places.items c.args.t ≡ Some place = ap (λ (xs : List TracePlace). slice_get xs c.args.t) (sym c.as_slice.ensures.value) ∙ sym c.in-Some.ensures in
    let none : place.beyond ≡ 0 = grind arith in
    left_node p mode given c.args.self.now is c.args.t place there value earlier more none c.in-Some-node.n c.in-Some-node.is c.args.trace own (record { nodes = c.put_trace-parent.new.nodes; places = c.put-in-Some-node.new.places }) to refl
    c.put_trace-parent.ensures.parent c.put_trace-parent.ensures.nodes c.put-in-Some-node.ensures

pub returns-in_default-node : goal.returns-in_default-node
returns-in_default-node c p mode given earlier value is more own = stays p mode given c.args.self.now is c.args.t earlier (λ u ne. sym (more.1 u ne))
    (one_place c.args.self.now.places.items c.args.t c.in-Some.place (ap (λ (xs : List TracePlace). slice_get xs c.args.t) (sym c.as_slice.ensures.value) ∙ sym c.in-Some.ensures) c.in_default-node.is)

pub returns-in_default : goal.returns-in_default
returns-in_default c p mode given earlier value is more own = stays p mode given c.args.self.now is c.args.t earlier (λ u ne. sym (more.1 u ne))
    (no_place c.args.self.now.places.items c.args.t (ap (λ (xs : List TracePlace). slice_get xs c.args.t) (sym c.as_slice.ensures.value) ∙ sym c.in_default.ensures))
