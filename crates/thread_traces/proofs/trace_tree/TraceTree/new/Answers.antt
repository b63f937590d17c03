use Rattle.thread_traces.proofs.Vocabulary.{◌∙◌, ◌+◌, ap, sym, length, length_push}
use Rattle.thread_traces.proofs.TraceTrees.{first_tree, more_first, more_plain}
use Rattle.thread_traces.proofs.trace_tree.TraceTree.new.Goals as goal

pub loop-t-preserved : goal.loop-t-preserved
loop-t-preserved c =
    let (nodes, places, plain, first) = c.loop-t.invariant in (
      ap length c.in_ok-push.ensures.items ∙ length_push c.loop-t.nodes.items c.node_of.result ∙ ap (λ n. n + 1) nodes,
      ap length c.in_ok-push-2.ensures.items ∙ length_push c.loop-t.places.items c.first_place.result ∙ ap (λ n. n + 1) places,
      more_plain c.loop-t.nodes.items c.push.new.self.items c.node_of.result c.in_ok-push.ensures.items plain c.node_of.ensures.no_trace c.node_of.ensures.parent,
      more_first c.loop-t.places.items c.push-in-loop-t.new.self.items c.first_place.result c.in_ok-push-2.ensures.items c.loop-t.t places first c.first_place.ensures.beyond c.first_place.ensures.node,
    )

pub returns : goal.returns
returns c p mode given =
    let (nodes, places, plain, first) = c.loop-t.invariant in
    first_tree p mode given (record { nodes = c.loop-t.nodes; places = c.loop-t.places }) (nodes ∙ sym places) plain first
