-- A walk over cover trees ends: after each node fewer nodes are left.
use Rattle.cert_trees.proofs.Vocabulary.{◌<◌, List, [], ◌∷◌, ◌++◌, length, ap, sym, subst, append_assoc, arith, length-append, Cover, Value, Source, Order, Cycle, Known, spell, spell_all, cycle_nodes, known_nodes, IsNext, children_of}
use Rattle.cert_trees.specs.declared.walk.CoverNode.{CoverNode}
use Rattle.cert_trees.proofs.NodeLaws.{below_row, cycle_some, known_some}

shorter : (t : Cover) (ts : List Cover) → length (spell_all (children_of t ++ ts)) < length (spell t ++ spell_all ts)
shorter (Value thread children) ts = omega (arith, ap length (below_row children ts))
shorter (Source read children) ts = omega (arith, ap length (below_row children ts))
shorter (Order first second t u) ts = omega (arith, ap length (append_assoc (spell t) (spell u) (spell_all ts)))
shorter (Cycle kind events) ts = omega (arith, length-append (cycle_nodes kind events) (spell_all ts), cycle_some kind events)
shorter (Known run) ts = omega (arith, length-append (known_nodes run) (spell_all ts), known_some run)

pub next_is_shorter : (ts after : List Cover) (node : CoverNode) → IsNext ts node after → length (spell_all after) < length (spell_all ts)
next_is_shorter [] after node next = absurd next
next_is_shorter (t ∷ ts) after node (is, e) = subst (λ (us : List Cover). length (spell_all us) < length (spell_all (t ∷ ts))) (sym e) (shorter t ts)
