use Rattle.std.proofs.Common.{◌∷◌, sym, subst}
use Rattle.std.proofs.lemmas.Option.{IfSome_then}
use Rattle.cert_trees.specs.declared.node.Node.{Node}
use Rattle.cover_solver.specs.TreeNodes.{SpellTrees}
use Rattle.cover_solver.proofs.SpelledNodes.{with_value, with_source}
use Rattle.cover_solver.proofs.tree_nodes.trees_with.Goals as goal

pub returns-in-Value : goal.returns-in-Value
returns-in-Value c =
    IfSome_then c.over.result c.over.ensures (λ left has.
    subst (λ (x : Node). SpellTrees (x ∷ c.args.rest.now) left) (sym c.in-Value.is) (with_value c.args.rest.now c.args.trees c.requires c.in-Value.thread c.in-Value.count left has))

pub returns-in-Source : goal.returns-in-Source
returns-in-Source c =
    IfSome_then c.over-in-Source.result c.over-in-Source.ensures (λ left has.
    subst (λ (x : Node). SpellTrees (x ∷ c.args.rest.now) left) (sym c.in-Source.is) (with_source c.args.rest.now c.args.trees c.requires c.in-Source.read c.in-Source.count left has))
