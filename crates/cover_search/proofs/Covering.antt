-- Trees for the choices at a node, put after other nodes one by one.
use Rattle.cover_search.proofs.Vocabulary.{◌≡◌, ℕ, ◌+◌, ◌<◌, ◌≤◌, List, [], ◌∷◌, ◌++◌, length, take, drop, get_or, refl, ap, sym, ◌∙◌, subst, arith, append_assoc, append-nil, length-append, take_all, remove_range, Outcome}
use Rattle.cover_search.proofs.Vocabulary.{Shown, ProgramSketch, IsLawful, HaveAllRegisters, choice_count, most_choices, AccessId, Node, Cover, Cycle, Known, Choice, OpenChoice, AreChoicesOf, IsOpen, IsCoverAt, IsCoverAfter}
use Rattle.cover_search.proofs.Vocabulary.{AreCoversAfter, tree_over, node_over, spell, spell_all, tree_of, IsTree, covers_count, cycle_some, known_some, is_tree, tree_again, spelled_append, child_instead, Pushes, listed}
use Rattle.cert_trees.specs.declared.node.Node.TheVariants as node
use Rattle.tree_laws.specs.declared.choice.OpenChoice.TheVariants as left
use Rattle.cover_search.proofs.Nodes.{as_many_choices, covers_more, covers_none, node_cover}

-- the property of a pushed tree follows
pub pushes_as : (P Q : Cover → Type 0) (old new : List Node) → ((t : Cover) → P t → Q t) → Pushes P old new → Pushes Q old new
pushes_as P Q old new follows more = record { tree = more.tree; is = follows more.tree more.is; pushed = more.pushed }

spelled_some : (t : Cover) → 1 ≤ length (spell t)
spelled_some (Cycle kind events) = cycle_some kind events
spelled_some (Known run) = known_some run
spelled_some t = omega arith

-- the node and the trees are what spells the tree over them
two_spelled : (first second : AccessId) (trees : List Cover) → length trees ≡ 2 → spell (tree_over (left.Order first second) trees) ≡ node.Order first second ∷ spell_all trees
two_spelled first second (one ∷ (other ∷ [])) two = ap (λ (xs : List Node). node.Order first second ∷ (spell one ++ xs)) (sym (append-nil (spell other)))
two_spelled first second trees two = absurd (omega arith)

module _ (s : ProgramSketch) (shown : Shown) (choices : List Choice) (root : Node) (old : List Node) where
  -- the root, and then valid trees after the choices so far
  pub record Covering (outcomes : List Outcome) (i : ℕ) (new : List Node) : Type 0 where
    pub trees : List Cover
    pub are : AreCoversAfter s shown outcomes (take i choices) trees
    pub pushed : new ≡ old ++ root ∷ spell_all trees

module _ (s : ProgramSketch) (shown : Shown) (lawful : IsLawful s) (choices : List Choice) where
  over_spelled : (outcomes : List Outcome) (next : OpenChoice) (trees : List Cover) → AreChoicesOf s next choices → AreCoversAfter s shown outcomes choices trees
      → spell (tree_over next trees) ≡ node_over next (length choices) ∷ spell_all trees
  over_spelled outcomes (left.Value t) trees are covers = λ k. node.Value t ((covers_count trees ∙ as_many_choices s shown outcomes lawful choices trees covers) k) ∷ listed trees k
  over_spelled outcomes (left.Source read) trees are covers = λ k. node.Source read ((covers_count trees ∙ as_many_choices s shown outcomes lawful choices trees covers) k) ∷ listed trees k
  over_spelled outcomes (left.Order first second) trees are covers =
      two_spelled first second trees (as_many_choices s shown outcomes lawful choices trees covers ∙ ap length are.both)

  module _ (root : Node) (old : List Node) where
    pub none_covered : (outcomes : List Outcome) (new : List Node) → choice_count s ≤ most_choices → new ≡ old ++ root ∷ [] → Covering s shown choices root old outcomes 0 new
    none_covered outcomes new few is = record { trees = []; are = covers_none s shown outcomes lawful few; pushed = is }

    -- one tree more
    pub one_covered : (outcomes : List Outcome) (i : ℕ) (d : Choice) (now new : List Node) → i < length choices → Covering s shown choices root old outcomes i now
        → Pushes (IsCoverAfter s shown outcomes (get_or choices i d)) now new → Covering s shown choices root old outcomes (i + 1) new
    one_covered outcomes i d now new here so more = record {
      trees = so.trees ++ more.tree ∷ [];
      are = covers_more s shown outcomes lawful choices so.trees (so.trees ++ more.tree ∷ []) i d more.tree here refl so.are more.is;
      pushed = more.pushed ∙ ap (λ (xs : List Node). xs ++ spell more.tree) so.pushed
          ∙ append_assoc old (root ∷ spell_all so.trees) (spell more.tree)
          ∙ ap (λ (xs : List Node). old ++ root ∷ (spell_all so.trees ++ xs)) (sym (append-nil (spell more.tree)))
          ∙ ap (λ (xs : List Node). old ++ root ∷ xs) (sym (spelled_append so.trees (more.tree ∷ [])));
    }

    -- all are there
    pub all_covered : (outcomes : List Outcome) (next : OpenChoice) (i : ℕ) (new : List Node) → length choices ≤ i → root ≡ node_over next (length choices) → HaveAllRegisters s.program.threads → IsOpen s next → AreChoicesOf s next choices
        → Covering s shown choices root old outcomes i new → Pushes (IsCoverAt s shown outcomes) old new
    all_covered outcomes next i new le is six is_open are so =
        let covers : AreCoversAfter s shown outcomes choices so.trees = subst (λ (cs : List Choice). AreCoversAfter s shown outcomes cs so.trees) (take_all i choices le) so.are in
        record {
          tree = tree_over next so.trees;
          is = node_cover s shown outcomes lawful next choices so.trees six is_open are covers;
          pushed = so.pushed ∙ ap (λ (x : Node). old ++ x ∷ spell_all so.trees) is ∙ ap (λ (xs : List Node). old ++ xs) (sym (over_spelled outcomes next so.trees are covers));
        }

-- the nodes of the last child are those from its place on
module _ (now new : List Node) (P : Cover → Type 0) (at : ℕ) (place : at ≡ length now) (more : Pushes P now new) where
  from_place : drop at new ≡ spell more.tree
  from_place = ap (drop at) more.pushed ∙ ap (λ (n : ℕ). drop n (now ++ spell more.tree)) place ∙ dropped now (spell more.tree)
    where
      dropped : {A : Type 0} (xs ys : List A) → drop (length xs) (xs ++ ys) ≡ ys
      dropped [] ys = refl
      dropped (x ∷ xs) ys = dropped xs ys

  pub child_is_tree : IsTree (drop at new)
  child_is_tree = is_tree more.tree (drop at new) from_place

  pub child_is : tree_of (drop at new) ≡ more.tree
  child_is = ap tree_of from_place ∙ tree_again more.tree

  pub child_fits : at < length new
  child_fits = omega (arith, place, ap length more.pushed, length-append now (spell more.tree), spelled_some more.tree)

  -- the child in its parent's place
  pub child_placed : (s : ProgramSketch) (shown : Shown) (choices : List Choice) (root : Node) (old : List Node) (before : List Outcome) (i from : ℕ) (last : List Node) (Q : Cover → Type 0) → from ≡ length old → Covering s shown choices root old before i now → last ≡ remove_range new from at
      → Q more.tree → Pushes Q old last
  child_placed s shown choices root old before i from last Q start so is valid = record {
    tree = more.tree;
    is = valid;
    pushed = is ∙ ap (λ (xs : List Node). remove_range xs from at) (more.pushed ∙ ap (λ (xs : List Node). xs ++ spell more.tree) so.pushed)
        ∙ child_instead old root so.trees more.tree from at start (place ∙ ap length so.pushed);
  }
