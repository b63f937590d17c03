use Rattle.rowless_sketches.proofs.Vocabulary.{◌≡◌, ◌∙◌, [], false, refl, sym, ap, subst, Atom, Tree, Knows, Knowledge, formula_tree, tree_again}
use Rattle.tso_program.specs.declared.atom.Atom.TheVariants as atom
use Rattle.tso_program.specs.declared.instruction.Reg.{TheVariants.Eax}
use Rattle.tso_program.specs.declared.node.FormulaNode.TheVariants as node
use Rattle.tso_program.specs.Tree as tree
use Rattle.rowless_sketches.proofs.Known.{knows_const, walk_on, walked}
use Rattle.rowless_sketches.proofs.parts.Parts.knows.Goals as goal

pub loop-node-init : goal.loop-node-init
loop-node-init c = (tree.Const false, ([], refl, record { read = subst (λ (k : Knowledge). Knows c.args.self.now (tree.Const false) k) (sym c.settled-value.ensures) (knows_const c.args.self.now false); left = c.new-waiting.ensures.items }))

pub loop-node-preserved : goal.loop-node-preserved
loop-node-preserved c =
    let (f, (hs, is, knows)) = c.loop-node.invariant in
    let nodes = c.nodes-nodes.result.now in
    (_, (_, walk_on f hs c.loop-node.node-index nodes (node.Atom (atom.Register 0 Eax 0)) (formula_tree nodes) c.loop-node-test.true is, c.in_ok-value.ensures f hs knows))

pub returns : goal.returns
returns c =
    let (f, (hs, is, knows)) = c.loop-node.invariant in
    let nodes = c.nodes-nodes.result.now in
    let same : f ≡ c.args.formula.now = walked f hs c.loop-node.node-index nodes (formula_tree nodes) c.loop-node-test.false is ∙ ap formula_tree c.nodes-nodes.ensures ∙ tree_again c.args.formula.now in
    subst (λ (g : Tree Atom). Knows c.args.self.now g c.loop-node.value) same knows.read
