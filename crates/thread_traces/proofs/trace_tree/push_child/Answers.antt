use Rattle.thread_traces.proofs.Vocabulary.{None, subst, List, TraceNode, AreNodesOf}
use Rattle.thread_traces.proofs.TraceTrees.{nodes_twice}
use Rattle.thread_traces.proofs.trace_tree.push_child.Goals as goal

pub returns-clause-ok : goal.returns-clause-ok
returns-clause-ok c = record {
  node = c.node_of.result;
  nodes = subst (λ (xs : List TraceNode). AreNodesOf xs None c.point_on.new.nodes.items) c.in_ok-push.ensures.items (nodes_twice _ _ _ c.point_at.ensures c.point_on.ensures);
  no_trace = c.node_of.ensures.no_trace;
  is_value = c.node_of.ensures.is_value;
  parent_is = c.node_of.ensures.parent;
}
