-- Nodes give back the trees that they spell.
use Rattle.cert_trees.proofs.Vocabulary.{◌≡◌, ℕ, suc, ◌+◌, ◌*◌, ◌/◌, ◌%◌, ◌≤◌, List, [], ◌∷◌, ◌++◌, length, take, drop, refl, ap, sym, ◌∙◌, append_assoc, arith, inl, inr, subst, nat_lt, remove_range, cases_Bool, Kind, Some, AccessId, NEAR_RUNS, Node, Cover}
use Rattle.cert_trees.proofs.Vocabulary.{Value, Source, Order, Cycle, Known, Covers, NoCover, MoreCovers, covers_of, cover_list, count_covers, spell, spell_row, spell_all, known_nodes, cycle_nodes, lengthened, gathered, before, trees_of, events_of, cycle_end}
use Rattle.cert_trees.proofs.Vocabulary.{first_tree, tree_of, IsTree, AreTrees, BeginsCycle}
use Rattle.cert_trees.specs.declared.node.Node.TheVariants as node
use Rattle.cert_trees.proofs.Spelled.{each_alone, each_append, GivesBack, each_again, are_spelled, alone_are, alone_is, one_tree_first}

-- ---- as many as a count says

pub row_taken : (ts : Covers) (more : List Cover) → covers_of (take (count_covers ts) (cover_list ts ++ more)) ≡ ts
row_taken NoCover more = refl
row_taken (MoreCovers t ts) more = ap (MoreCovers t) (row_taken ts more)

pub row_dropped : (ts : Covers) (more : List Cover) → drop (count_covers ts) (cover_list ts ++ more) ≡ more
row_dropped NoCover more = refl
row_dropped (MoreCovers t ts) more = row_dropped ts more

pub covers_count : (ts : List Cover) → count_covers (covers_of ts) ≡ length ts
covers_count [] = refl
covers_count (t ∷ ts) = ap suc (covers_count ts)

taken : {A : Type 0} (xs more : List A) → take (length xs) (xs ++ more) ≡ xs
taken [] more = refl
taken (x ∷ xs) more = ap (λ ys. x ∷ ys) (taken xs more)

dropped : {A : Type 0} (xs more : List A) → drop (length xs) (xs ++ more) ≡ more
dropped [] more = refl
dropped (x ∷ xs) more = dropped xs more

-- ---- cycles

cycle_made : (kind : Kind) (es : List AccessId) (xs : List Node) → trees_of (cycle_nodes kind es ++ xs) ≡ Cycle kind es ∷ trees_of xs
cycle_made kind [] xs = refl
cycle_made kind (a ∷ []) xs = refl
cycle_made kind (a ∷ (b ∷ [])) xs = refl
cycle_made kind (a ∷ (b ∷ (c ∷ []))) xs = refl
cycle_made kind (a ∷ (b ∷ (c ∷ (d ∷ es)))) xs = ap (lengthened a b c) (cycle_made kind (d ∷ es) xs)

pub events_first : (kind : Kind) (es : List AccessId) (xs : List Node) → events_of (cycle_nodes kind es ++ xs) ≡ es
events_first kind [] xs = refl
events_first kind (a ∷ []) xs = refl
events_first kind (a ∷ (b ∷ [])) xs = refl
events_first kind (a ∷ (b ∷ (c ∷ []))) xs = refl
events_first kind (a ∷ (b ∷ (c ∷ (d ∷ es)))) xs = ap (gathered (node.Earlier a b c)) (events_first kind (d ∷ es) xs)

pub end_first : (kind : Kind) (es : List AccessId) (xs : List Node) → cycle_end (cycle_nodes kind es ++ xs) ≡ Some (kind, xs)
end_first kind [] xs = refl
end_first kind (a ∷ []) xs = refl
end_first kind (a ∷ (b ∷ [])) xs = refl
end_first kind (a ∷ (b ∷ (c ∷ []))) xs = refl
end_first kind (a ∷ (b ∷ (c ∷ (d ∷ es)))) xs = end_first kind (d ∷ es) xs

pub cycle_some : (kind : Kind) (es : List AccessId) → 1 ≤ length (cycle_nodes kind es)
cycle_some kind [] = omega arith
cycle_some kind (a ∷ []) = omega arith
cycle_some kind (a ∷ (b ∷ [])) = omega arith
cycle_some kind (a ∷ (b ∷ (c ∷ []))) = omega arith
cycle_some kind (a ∷ (b ∷ (c ∷ (d ∷ es)))) = omega arith

-- ---- numbers of runs

parts_add : (n : ℕ) → (n / NEAR_RUNS) * NEAR_RUNS + n % NEAR_RUNS ≡ n
parts_add n = omega arith

known_made : (run : ℕ) (xs : List Node) → trees_of (known_nodes run ++ xs) ≡ Known run ∷ trees_of xs
known_made run xs =
    elim (cases_Bool (nat_lt run NEAR_RUNS)) [
      | inl near ↦ rw near refl
      | inr far ↦ rw far (ap (λ (n : ℕ). Known n ∷ trees_of xs) (parts_add run))
    ]

pub known_some : (run : ℕ) → 1 ≤ length (known_nodes run)
known_some run = elim (cases_Bool (nat_lt run NEAR_RUNS)) [ inl near ↦ rw near (omega arith) | inr far ↦ rw far (omega arith) ]

-- ---- trees

mutual
  -- nodes that spell a tree, whatever follows, give it back first
  pub tree_first : (t : Cover) (xs : List Node) → trees_of (spell t ++ xs) ≡ t ∷ trees_of xs
  tree_first (Value thread ts) xs =
      ap (before (node.Value thread (count_covers ts))) (row_first ts xs)
      ∙ (λ i. Value thread (row_taken ts (trees_of xs) i) ∷ row_dropped ts (trees_of xs) i)
  tree_first (Source read ts) xs =
      ap (before (node.Source read (count_covers ts))) (row_first ts xs)
      ∙ (λ i. Source read (row_taken ts (trees_of xs) i) ∷ row_dropped ts (trees_of xs) i)
  tree_first (Order first second t u) xs =
      ap (λ (ys : List Node). trees_of (node.Order first second ∷ ys)) (append_assoc (spell t) (spell u) xs)
      ∙ ap (before (node.Order first second)) (tree_first t (spell u ++ xs) ∙ ap (λ ts. t ∷ ts) (tree_first u xs))
  tree_first (Cycle kind es) xs = cycle_made kind es xs
  tree_first (Known run) xs = known_made run xs

  row_first : (ts : Covers) (xs : List Node) → trees_of (spell_row ts ++ xs) ≡ cover_list ts ++ trees_of xs
  row_first NoCover xs = refl
  row_first (MoreCovers t ts) xs =
      ap trees_of (append_assoc (spell t) (spell_row ts) xs) ∙ tree_first t (spell_row ts ++ xs) ∙ ap (λ us. t ∷ us) (row_first ts xs)

abbrev gives_back : GivesBack spell trees_of
gives_back = record { none = refl; first = tree_first }

pub trees_again : (ts : List Cover) → trees_of (spell_all ts) ≡ ts
trees_again ts = each_again spell trees_of gives_back ts

pub tree_again : (t : Cover) → tree_of (spell t) ≡ t
tree_again t = ap tree_of (sym (each_alone spell t)) ∙ ap first_tree (trees_again (t ∷ []))

pub same_tree : (t u : Cover) → spell t ≡ spell u → t ≡ u
same_tree t u e = sym (tree_again t) ∙ ap tree_of e ∙ tree_again u

pub is_tree : (t : Cover) (xs : List Node) → xs ≡ spell t → IsTree xs
is_tree t xs e = ap spell (ap tree_of e ∙ tree_again t) ∙ sym e

pub are_trees : (ts : List Cover) (xs : List Node) → xs ≡ spell_all ts → AreTrees xs
are_trees ts xs e = are_spelled spell trees_of gives_back ts xs e

-- ---- one tree, and no more

-- where nodes begin with the nodes of two trees, the two are one
pub one_tree : (t u : Cover) (xs ys : List Node) → spell t ++ xs ≡ spell u ++ ys → (t ≡ u) × (xs ≡ ys)
one_tree t u xs ys e = one_tree_first spell trees_of gives_back t u xs ys e

-- ---- several trees

pub spelled_append : (ts us : List Cover) → spell_all (ts ++ us) ≡ spell_all ts ++ spell_all us
spelled_append ts us = each_append spell ts us

pub row_all : (ts : Covers) → spell_row ts ≡ spell_all (cover_list ts)
row_all NoCover = refl
row_all (MoreCovers t ts) = ap (λ xs. spell t ++ xs) (row_all ts)

pub below_row : (ts : Covers) (us : List Cover) → spell_row ts ++ spell_all us ≡ spell_all (cover_list ts ++ us)
below_row ts us = ap (λ xs. xs ++ spell_all us) (row_all ts) ∙ sym (spelled_append (cover_list ts) us)

-- the nodes of trees that come one after the other
pub listed : (ts : List Cover) → spell_row (covers_of ts) ≡ spell_all ts
listed [] = refl
listed (t ∷ ts) = ap (λ xs. spell t ++ xs) (listed ts)

-- ---- what a first node says of the trees

abbrev pub Begun : List Cover → Node → List Node → Type 0
Begun ts (node.Value thread count) xs = (children : Covers) × (us : List Cover) × (ts ≡ Value thread children ∷ us) × (count ≡ count_covers children) × (xs ≡ spell_all (cover_list children ++ us))
Begun ts (node.Source read count) xs = (children : Covers) × (us : List Cover) × (ts ≡ Source read children ∷ us) × (count ≡ count_covers children) × (xs ≡ spell_all (cover_list children ++ us))
Begun ts (node.Order first second) xs = (t : Cover) × (u : Cover) × (us : List Cover) × (ts ≡ Order first second t u ∷ us) × (xs ≡ spell_all (t ∷ (u ∷ us)))
Begun ts (node.Known run) xs = (us : List Cover) × (ts ≡ Known run ∷ us) × (xs ≡ spell_all us)
Begun ts (node.Far times) xs = (run : ℕ) × (us : List Cover) × (ts ≡ Known (times * NEAR_RUNS + run) ∷ us) × (xs ≡ node.Known run ∷ spell_all us)
Begun ts x xs = BeginsCycle (x ∷ xs)

moved : (ts : List Cover) (x y : Node) (xs ys : List Node) → Begun ts x xs → x ∷ xs ≡ y ∷ ys → Begun ts y ys
moved ts x y xs ys b e =
    let first : x ≡ y = cc in
    let others : xs ≡ ys = cc in
    subst (λ (z : Node). Begun ts z ys) first (subst (Begun ts x) others b)

known_begins : (run : ℕ) (us : List Cover) (x : Node) (xs : List Node) → known_nodes run ++ spell_all us ≡ x ∷ xs → Begun (Known run ∷ us) x xs
known_begins run us x xs e =
    elim (cases_Bool (nat_lt run NEAR_RUNS)) [
      | inl near ↦
          let here : known_nodes run ++ spell_all us ≡ node.Known run ∷ spell_all us = rw near refl in
          moved (Known run ∷ us) (node.Known run) x (spell_all us) xs (us, refl, refl) (sym here ∙ e)
      | inr far ↦
          let here : known_nodes run ++ spell_all us ≡ node.Far (run / NEAR_RUNS) ∷ (node.Known (run % NEAR_RUNS) ∷ spell_all us) = rw far refl in
          moved (Known run ∷ us) (node.Far (run / NEAR_RUNS)) x (node.Known (run % NEAR_RUNS) ∷ spell_all us) xs
          (run % NEAR_RUNS, us, ap (λ (n : ℕ). Known n ∷ us) (sym (parts_add run)), refl) (sym here ∙ e)
    ]

cycle_here : (kind : Kind) (es : List AccessId) (us : List Cover) → BeginsCycle (cycle_nodes kind es ++ spell_all us)
cycle_here kind es us = record { kind = kind; events = es; others = spell_all us; is = refl }

pub begins : (ts : List Cover) (x : Node) (xs : List Node) → spell_all ts ≡ x ∷ xs → Begun ts x xs
begins [] x xs e = absurd cc
begins (Value thread children ∷ us) x xs e =
    moved (Value thread children ∷ us) (node.Value thread (count_covers children)) x (spell_row children ++ spell_all us) xs (children, us, refl, refl, below_row children us) e
begins (Source read children ∷ us) x xs e =
    moved (Source read children ∷ us) (node.Source read (count_covers children)) x (spell_row children ++ spell_all us) xs (children, us, refl, refl, below_row children us) e
begins (Order first second t u ∷ us) x xs e =
    moved (Order first second t u ∷ us) (node.Order first second) x ((spell t ++ spell u) ++ spell_all us) xs (t, u, us, refl, append_assoc (spell t) (spell u) (spell_all us)) e
begins (Cycle kind [] ∷ us) x xs e = moved (Cycle kind [] ∷ us) (node.EmptyCycle kind) x (spell_all us) xs (cycle_here kind [] us) e
begins (Cycle kind (a ∷ []) ∷ us) x xs e = moved (Cycle kind (a ∷ []) ∷ us) (node.LastOne kind a) x (spell_all us) xs (cycle_here kind (a ∷ []) us) e
begins (Cycle kind (a ∷ (b ∷ [])) ∷ us) x xs e = moved (Cycle kind (a ∷ (b ∷ [])) ∷ us) (node.LastTwo kind a b) x (spell_all us) xs (cycle_here kind (a ∷ (b ∷ [])) us) e
begins (Cycle kind (a ∷ (b ∷ (c ∷ []))) ∷ us) x xs e =
    moved (Cycle kind (a ∷ (b ∷ (c ∷ []))) ∷ us) (node.LastThree kind a b c) x (spell_all us) xs (cycle_here kind (a ∷ (b ∷ (c ∷ []))) us) e
begins (Cycle kind (a ∷ (b ∷ (c ∷ (d ∷ es)))) ∷ us) x xs e =
    moved (Cycle kind (a ∷ (b ∷ (c ∷ (d ∷ es)))) ∷ us) (node.Earlier a b c) x (cycle_nodes kind (d ∷ es) ++ spell_all us) xs (cycle_here kind (a ∷ (b ∷ (c ∷ (d ∷ es)))) us) e
begins (Known run ∷ us) x xs e = known_begins run us x xs e

pub alone : (t : Cover) (xs : List Node) → xs ≡ spell t → AreTrees xs
alone t xs e = alone_are spell trees_of gives_back t xs e

pub alone_in : (ts : List Cover) (t : Cover) (xs : List Node) → spell_all ts ≡ xs → xs ≡ spell t → ts ≡ t ∷ []
alone_in ts t xs all e = alone_is spell trees_of gives_back ts t xs all e

-- ---- a child in its parent's place

-- nodes after so many others, without those between
pub moved_down : {A : Type 0} (old between more : List A) (from to : ℕ) → from ≡ length old → to ≡ length (old ++ between) → remove_range ((old ++ between) ++ more) from to ≡ old ++ more
moved_down old between more from to at end =
    (λ i. remove_range ((old ++ between) ++ more) (at i) (end i))
    ∙ (λ i. (ap (take (length old)) (append_assoc old between more) ∙ taken old (between ++ more)) i ++ dropped (old ++ between) more i)

-- the last child takes the place of its parent's root and of the earlier children
pub child_instead : (old : List Node) (root : Node) (earlier : List Cover) (t : Cover) (from to : ℕ) → from ≡ length old → to ≡ length (old ++ root ∷ spell_all earlier)
    → remove_range ((old ++ root ∷ spell_all earlier) ++ spell t) from to ≡ old ++ spell t
child_instead old root earlier t from to at end = moved_down old (root ∷ spell_all earlier) (spell t) from to at end
