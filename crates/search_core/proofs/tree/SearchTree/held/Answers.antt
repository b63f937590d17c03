use Rattle.search_core.proofs.Vocabulary.{Option, sym, subst, the_view, HoldsNothing, HoldsOnly, MatchOption, Region}
use Rattle.search_core.proofs.Moves.{holds_nothing, holds_only, node_gaps}
use Rattle.search_core.proofs.tree.SearchTree.held.Goals as goal

pub returns-in_err-node-clause-value : goal.returns-in_err-node-clause-value
returns-in_err-node-clause-value c = subst (λ (o : Option Region). MatchOption o (HoldsNothing c.args.self.now c.args.seat) (HoldsOnly c.args.self.now c.args.seat)) (sym c.from_residual.ensures)
    (holds_nothing (the_view c.self.inside) c.args.self.now c.self.view_is c.deref.result.now c.deref.ensures.value c.args.seat c.in_err-node.ensures)

pub returns-clause-value : goal.returns-clause-value
returns-clause-value c = holds_only (the_view c.self.inside) c.args.self.now c.self.view_is c.deref.result.now c.deref.ensures.value c.self.invariant c.args.seat c.in_ok-node.field-0-0 c.in_ok-node.node c.in_ok-node.ensures

pub returns-clause-of_program : goal.returns-clause-of_program
returns-clause-of_program c = node_gaps (the_view c.self.inside) c.args.self.now c.self.view_is c.deref.result.now c.deref.ensures.value c.self.invariant c.in_ok-node.field-0-0 c.in_ok-node.ensures.before c.in_ok-node.ensures.there c.in_ok-node.node c.in_ok-node.ensures.is_node
