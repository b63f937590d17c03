-- Nodes give back the trees that they spell, where they give back the first one.
use Rattle.cert_trees.proofs.Vocabulary.{◌≡◌, List, [], ◌∷◌, ◌++◌, ap, sym, ◌∙◌, refl, append_assoc, append-nil, append_cancel_left, spell_each}

module _ {T N : Type 0} (spell : T → List N) where
  pub each_alone : (t : T) → spell_each spell (t ∷ []) ≡ spell t
  each_alone t = append-nil (spell t)

  pub each_append : (ts us : List T) → spell_each spell (ts ++ us) ≡ spell_each spell ts ++ spell_each spell us
  each_append [] us = refl
  each_append (t ∷ ts) us = ap (λ xs. spell t ++ xs) (each_append ts us) ∙ sym (append_assoc (spell t) (spell_each spell ts) (spell_each spell us))

-- the trees in nodes: of no node none, and of a tree's nodes, whatever follows, that tree first
pub record GivesBack {T N : Type 0} (spell : T → List N) (trees_in : List N → List T) : Type 0 where
  pub none : trees_in [] ≡ []
  pub first : (t : T) (xs : List N) → trees_in (spell t ++ xs) ≡ t ∷ trees_in xs

module _ {T N : Type 0} (spell : T → List N) (trees_in : List N → List T) (back : GivesBack spell trees_in) where
  pub each_again : (ts : List T) → trees_in (spell_each spell ts) ≡ ts
  each_again [] = back.none
  each_again (t ∷ ts) = back.first t (spell_each spell ts) ∙ ap (λ us. t ∷ us) (each_again ts)

  pub are_spelled : (ts : List T) (xs : List N) → xs ≡ spell_each spell ts → spell_each spell (trees_in xs) ≡ xs
  are_spelled ts xs e = ap (spell_each spell) (ap trees_in e ∙ each_again ts) ∙ sym e

  -- lists of trees with the same nodes are one
  pub one_list_each : (ts us : List T) → spell_each spell ts ≡ spell_each spell us → ts ≡ us
  one_list_each ts us e = sym (each_again ts) ∙ ap trees_in e ∙ each_again us

  pub alone_are : (t : T) (xs : List N) → xs ≡ spell t → spell_each spell (trees_in xs) ≡ xs
  alone_are t xs e = are_spelled (t ∷ []) xs (e ∙ sym (each_alone spell t))

  pub alone_is : (ts : List T) (t : T) (xs : List N) → spell_each spell ts ≡ xs → xs ≡ spell t → ts ≡ t ∷ []
  alone_is ts t xs all e = one_list_each ts (t ∷ []) (all ∙ e ∙ sym (each_alone spell t))

  -- where nodes begin with the nodes of two trees, the two are one
  pub one_tree_first : (t u : T) (xs ys : List N) → spell t ++ xs ≡ spell u ++ ys → (t ≡ u) × (xs ≡ ys)
  one_tree_first t u xs ys e =
      let trees : t ∷ trees_in xs ≡ u ∷ trees_in ys = sym (back.first t xs) ∙ ap trees_in e ∙ back.first u ys in
      let same : t ≡ u = cc in
      (same, append_cancel_left (spell t) xs ys (e ∙ ap (λ v. spell v ++ ys) (sym same)))
