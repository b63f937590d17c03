use Rattle.cert_trees.proofs.Vocabulary.{◌≡◌, ◌∷◌, List, sym, subst, Gap, gap_trees_in, AreGapTrees, IsNextGap}
use Rattle.cert_trees.proofs.GapNodeLaws.{gap_shown}
use Rattle.cert_trees.proofs.gap_walk.GapWalk.next_node.Goals as goal

pub invariant_of-self : goal.invariant_of-self
invariant_of-self c = (gap_shown c.in-Some.first.now c.in-Some.others.now (subst AreGapTrees c.in-Some.ensures.cases.0 c.self.invariant)).0

pub returns : goal.returns
returns c =
    let is : c.args.self.now ≡ gap_trees_in (c.in-Some.first.now ∷ c.in-Some.others.now) = (let view = c.self.view_is in let left = c.in-Some.ensures.cases.0 in cc) in
    subst (λ (ts : List Gap). IsNextGap ts c.in-Some.first.now (gap_trees_in c.in-Some.others.now)) (sym is)
    (gap_shown c.in-Some.first.now c.in-Some.others.now (subst AreGapTrees c.in-Some.ensures.cases.0 c.self.invariant)).1
