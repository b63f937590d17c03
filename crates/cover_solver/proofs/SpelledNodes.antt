-- A node before those of trees.
use Rattle.std.proofs.Common.{◌≡◌, ℕ, suc, ◌+◌, ◌-◌, ◌<◌, ◌≤◌, List, [], ◌∷◌, ◌++◌, length, get_or, take, drop, drop-cons, sym, ap, ◌∙◌, subst, arith}
use Rattle.std.proofs.lemmas.List.{length-take-le, length-drop, take-append-drop, take_all}
use Rattle.cert_trees.specs.declared.tree.AccessId.{AccessId}
use Rattle.cert_trees.specs.declared.node.Node.{Node}
use Rattle.cert_trees.specs.declared.node.Node.TheVariants as node
use Rattle.cert_trees.specs.Trees.{Cover, Value, Source, covers_of, count_covers}
use Rattle.cert_trees.specs.Nodes.{trees_of, spell_all, spell_row, AreTrees}
use Rattle.cert_trees.proofs.NodeLaws.{are_trees, trees_again, covers_count, listed, spelled_append}
use Rattle.cover_solver.specs.TreeNodes.{SpellTrees, AreLeftBy}

-- the nodes of trees
spelled : (ts : List Cover) (xs : List Node) (n : ℕ) → xs ≡ spell_all ts → n ≡ length ts → SpellTrees xs n
spelled ts xs n e long = record { are = are_trees ts xs e; many = long ∙ ap length (sym (ap trees_of e ∙ trees_again ts)) }

module _ (xs : List Node) (n : ℕ) (spell : SpellTrees xs n) where
  -- the nodes after a node over so many
  under : (count : ℕ) → xs ≡ spell_row (covers_of (take count (trees_of xs))) ++ spell_all (drop count (trees_of xs))
  under count =
      let own = trees_of xs in
      sym spell.are ∙ ap spell_all (sym (take-append-drop count own)) ∙ spelled_append (take count own) (drop count own) ∙ ap (λ (ys : List Node). ys ++ spell_all (drop count own)) (sym (listed (take count own)))

  so_many : (count : ℕ) → count ≤ n → count ≡ count_covers (covers_of (take count (trees_of xs)))
  so_many count h = let many = spell.many in let le : count ≤ length (trees_of xs) = omega arith in sym (covers_count (take count (trees_of xs)) ∙ length-take-le count (trees_of xs) le)

  left_over : (count left : ℕ) → AreLeftBy count n left → left ≡ suc (length (drop count (trees_of xs)))
  left_over count left has = let enough = has.enough in let e = has.others in let many = spell.many in let long = length-drop count (trees_of xs) in omega arith

  pub with_value : (t count left : ℕ) → AreLeftBy count n left → SpellTrees (node.Value t count ∷ xs) left
  with_value t count left has =
      spelled (Value t (covers_of (take count (trees_of xs))) ∷ drop count (trees_of xs)) (node.Value t count ∷ xs) left (λ i. node.Value t (so_many count has.enough i) ∷ under count i) (left_over count left has)

  pub with_source : (read : AccessId) (count left : ℕ) → AreLeftBy count n left → SpellTrees (node.Source read count ∷ xs) left
  with_source read count left has =
      spelled (Source read (covers_of (take count (trees_of xs))) ∷ drop count (trees_of xs)) (node.Source read count ∷ xs) left (λ i. node.Source read (so_many count has.enough i) ∷ under count i) (left_over count left has)

-- a node more from the end
pub one_node_more : (nodes : List Node) (start more : ℕ) (d : Node) → 0 < start → start ≤ length nodes →
    SpellTrees (get_or nodes (start - 1) d ∷ take (length nodes - (start - 1 + 1)) (drop (start - 1 + 1) nodes)) more → SpellTrees (drop (start - 1) nodes) more
one_node_more nodes start more d some within spell =
    let next : start - 1 + 1 ≡ suc (start - 1) = omega arith in
    let whole : take (length nodes - (start - 1 + 1)) (drop (start - 1 + 1) nodes) ≡ drop (suc (start - 1)) nodes = take_all _ _ (let long = length-drop (start - 1 + 1) nodes in omega arith) ∙ ap (λ n. drop n nodes) next in
    subst (λ (xs : List Node). SpellTrees xs more) (ap (λ (xs : List Node). get_or nodes (start - 1) d ∷ xs) whole ∙ sym (drop-cons nodes (start - 1) d (omega arith))) spell
