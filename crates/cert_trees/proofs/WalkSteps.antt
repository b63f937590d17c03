-- Walks over nodes, step by step.
use Rattle.cert_trees.proofs.Vocabulary.{◌≡◌, ℕ, ◌+◌, ◌*◌, List, ◌∷◌, ◌++◌, Option, Some, None, refl, ap, sym, ◌∙◌, subst, same_Some, append_cancel_left, Kind, AccessId, NEAR_RUNS, Node, Cover, Value, Source, Cycle, Known, spell_all, trees_of, cycle_nodes}
use Rattle.cert_trees.proofs.Vocabulary.{events_of, cycle_end, AreTrees, BeginsCycle, BeginsKnown, root_of, children_of, IsNext}
use Rattle.cert_trees.specs.declared.node.Node.TheVariants as node
use Rattle.cert_trees.specs.declared.walk.CoverNode.TheVariants as n
use Rattle.cert_trees.proofs.NodeLaws.{Begun, begins, are_trees, trees_again, tree_first, events_first, end_first}

-- the trees after a first node follow from their nodes
next_by : (ts : List Cover) (t : Cover) (us : List Cover) (xs : List Node) → ts ≡ t ∷ us → xs ≡ spell_all (children_of t ++ us)
    → AreTrees xs × IsNext ts (root_of t) (trees_of xs)
next_by ts t us xs is e =
    let after : trees_of xs ≡ children_of t ++ us = ap trees_of e ∙ trees_again (children_of t ++ us) in
    (are_trees (children_of t ++ us) xs e, subst (λ (vs : List Cover). IsNext vs (root_of t) (trees_of xs)) (sym is) (refl, after))

others_are : (ts : List Cover) (x : Node) (xs : List Node) → Begun ts x xs
    → ((thread count : ℕ) → ¬ (x ≡ node.Value thread count)) → ((read : AccessId) (count : ℕ) → ¬ (x ≡ node.Source read count)) → ((first second : AccessId) → ¬ (x ≡ node.Order first second))
    → ((run : ℕ) → ¬ (x ≡ node.Known run)) → ((times : ℕ) → ¬ (x ≡ node.Far times)) → BeginsCycle (x ∷ xs)
others_are ts (node.Value thread count) xs b value source order known far = absurd (value thread count refl)
others_are ts (node.Source read count) xs b value source order known far = absurd (source read count refl)
others_are ts (node.Order first second) xs b value source order known far = absurd (order first second refl)
others_are ts (node.Known run) xs b value source order known far = absurd (known run refl)
others_are ts (node.Far times) xs b value source order known far = absurd (far times refl)
others_are ts x xs b value source order known far = b

module _ (nodes : List Node) (x : Node) (xs : List Node) (whole : nodes ≡ x ∷ xs) (are : AreTrees nodes) where
  pub value_shown : (thread count : ℕ) → x ≡ node.Value thread count → AreTrees xs × IsNext (trees_of nodes) (n.Value thread count) (trees_of xs)
  value_shown thread count is =
      let b = begins (trees_of nodes) (node.Value thread count) xs (are ∙ whole ∙ ap (λ (y : Node). y ∷ xs) is) in
      let next = next_by (trees_of nodes) (Value thread b.0) b.1 xs b.2 b.4 in
      (next.0, subst (λ (m : ℕ). IsNext (trees_of nodes) (n.Value thread m) (trees_of xs)) (sym b.3) next.1)

  pub source_shown : (read : AccessId) (count : ℕ) → x ≡ node.Source read count → AreTrees xs × IsNext (trees_of nodes) (n.Source read count) (trees_of xs)
  source_shown read count is =
      let b = begins (trees_of nodes) (node.Source read count) xs (are ∙ whole ∙ ap (λ (y : Node). y ∷ xs) is) in
      let next = next_by (trees_of nodes) (Source read b.0) b.1 xs b.2 b.4 in
      (next.0, subst (λ (m : ℕ). IsNext (trees_of nodes) (n.Source read m) (trees_of xs)) (sym b.3) next.1)

  -- what is neither a tree's root with children nor a run is a cycle
  pub cycle_begins : ((thread count : ℕ) → ¬ (x ≡ node.Value thread count)) → ((read : AccessId) (count : ℕ) → ¬ (x ≡ node.Source read count)) → ((first second : AccessId) → ¬ (x ≡ node.Order first second))
      → ((run : ℕ) → ¬ (x ≡ node.Known run)) → ((times : ℕ) → ¬ (x ≡ node.Far times)) → BeginsCycle nodes
  cycle_begins value source order known far = subst BeginsCycle (sym whole) (others_are (trees_of nodes) x xs (begins (trees_of nodes) x xs (are ∙ whole)) value source order known far)

  -- a number of a far run has two nodes
  pub far_goes_on : (times : ℕ) → x ≡ node.Far times → BeginsKnown xs
  far_goes_on times is =
      let b = begins (trees_of nodes) (node.Far times) xs (are ∙ whole ∙ ap (λ (y : Node). y ∷ xs) is) in
      record { run = b.0; others = spell_all b.1; is = b.3 }

  pub far_shown : (times near : ℕ) (more : List Node) → x ≡ node.Far times → xs ≡ node.Known near ∷ more
      → AreTrees more × IsNext (trees_of nodes) (n.Known (times * NEAR_RUNS + near)) (trees_of more)
  far_shown times near more is goes_on =
      let b = begins (trees_of nodes) (node.Far times) xs (are ∙ whole ∙ ap (λ (y : Node). y ∷ xs) is) in
      let same : node.Known b.0 ∷ spell_all b.1 ≡ node.Known near ∷ more = sym b.3 ∙ goes_on in
      let number : b.0 ≡ near = cc in
      let rest : more ≡ spell_all b.1 = cc in
      let next = next_by (trees_of nodes) (Known (times * NEAR_RUNS + b.0)) b.1 more b.2 rest in
      (next.0, subst (λ (m : ℕ). IsNext (trees_of nodes) (n.Known (times * NEAR_RUNS + m)) (trees_of more)) number next.1)

module _ (nodes : List Node) (begun : BeginsCycle nodes) where
  pub cycle_ends : None ≡ cycle_end nodes → ⊥
  cycle_ends none = let e : ◌≡◌ {A = Option (Kind × List Node)} None (Some (begun.kind, begun.others)) = none ∙ ap cycle_end begun.is ∙ end_first begun.kind begun.events begun.others in absurd cc

  pub cycle_shown : AreTrees nodes → (kind : Kind) (rest : List Node) → Some (kind, rest) ≡ cycle_end nodes → AreTrees rest × IsNext (trees_of nodes) (n.Cycle kind (events_of nodes)) (trees_of rest)
  cycle_shown are kind rest end =
      let same = same_Some (kind, rest) (begun.kind, begun.others) (end ∙ ap cycle_end begun.is ∙ end_first begun.kind begun.events begun.others) in
      let union : kind ≡ begun.kind = ap (λ y. y.0) same in
      let more : rest ≡ begun.others = ap (λ y. y.1) same in
      let events : events_of nodes ≡ begun.events = ap events_of begun.is ∙ events_first begun.kind begun.events begun.others in
      let trees : trees_of nodes ≡ Cycle begun.kind begun.events ∷ trees_of begun.others = ap trees_of begun.is ∙ tree_first (Cycle begun.kind begun.events) begun.others in
      let spelled : AreTrees begun.others =
      append_cancel_left (cycle_nodes begun.kind begun.events) (spell_all (trees_of begun.others)) begun.others (ap spell_all (sym trees) ∙ are ∙ begun.is) in (
        subst AreTrees (sym more) spelled,
        rw (trees, union, events, more) (refl, refl),
      )

pub only_known : (x : Node) (xs : List Node) → BeginsKnown (x ∷ xs) → ((run : ℕ) → ¬ (x ≡ node.Known run)) → ⊥
only_known x xs b none = let is = b.is in none b.run cc
