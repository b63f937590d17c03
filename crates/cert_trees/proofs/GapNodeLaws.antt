-- Nodes give back the gap trees that they spell.
use Rattle.cert_trees.proofs.Vocabulary.{◌≡◌, ℕ, suc, ◌<◌, ◌≤◌, List, [], ◌∷◌, ◌++◌, length, take, drop, refl, ap, sym, ◌∙◌, subst, append_assoc, arith, length-append, GapNode, Gap, Split, Bound, GapTrees, NoGap, MoreGaps, gap_trees_of, gap_list, count_gaps}
use Rattle.cert_trees.proofs.Vocabulary.{runs_first, bound_len, gap_root_of, gap_children_of, IsNextGap, spell_gap, spell_gap_row, spell_gaps, bound_nodes, bounded_by, gap_before, gap_trees_in, first_gap, gap_tree_of, IsGapTree, AreGapTrees}
use Rattle.cert_trees.specs.declared.node.GapNode.TheVariants as node
use Rattle.cert_trees.proofs.Spelled.{each_alone, each_append, GivesBack, each_again, are_spelled}

-- ---- as many as a count says

row_taken : (ts : GapTrees) (more : List Gap) → gap_trees_of (take (count_gaps ts) (gap_list ts ++ more)) ≡ ts
row_taken NoGap more = refl
row_taken (MoreGaps t ts) more = ap (MoreGaps t) (row_taken ts more)

row_dropped : (ts : GapTrees) (more : List Gap) → drop (count_gaps ts) (gap_list ts ++ more) ≡ more
row_dropped NoGap more = refl
row_dropped (MoreGaps t ts) more = row_dropped ts more

row_fits : (ts : GapTrees) (more : List Gap) → count_gaps ts ≤ length (gap_list ts ++ more)
row_fits NoGap more = omega arith
row_fits (MoreGaps t ts) more = omega (arith, row_fits ts more)

pub gaps_count : (ts : List Gap) → count_gaps (gap_trees_of ts) ≡ length ts
gaps_count [] = refl
gaps_count (t ∷ ts) = ap suc (gaps_count ts)

-- ---- trees

bound_first : (runs : List ℕ) (xs : List GapNode) → gap_trees_in (bound_nodes runs ++ xs) ≡ Bound runs ∷ gap_trees_in xs
bound_first [] xs = refl
bound_first (run ∷ runs) xs = ap (bounded_by run) (bound_first runs xs)

mutual
  pub gap_first : (t : Gap) (xs : List GapNode) → gap_trees_in (spell_gap t ++ xs) ≡ t ∷ gap_trees_in xs
  gap_first (Split run ts) xs =
      ap (gap_before (node.Split (count_gaps ts) run)) (row_first ts xs)
      ∙ (λ i. Split run (row_taken ts (gap_trees_in xs) i) ∷ row_dropped ts (gap_trees_in xs) i)
  gap_first (Bound runs) xs = bound_first runs xs

  pub row_first : (ts : GapTrees) (xs : List GapNode) → gap_trees_in (spell_gap_row ts ++ xs) ≡ gap_list ts ++ gap_trees_in xs
  row_first NoGap xs = refl
  row_first (MoreGaps t ts) xs =
      ap gap_trees_in (append_assoc (spell_gap t) (spell_gap_row ts) xs) ∙ gap_first t (spell_gap_row ts ++ xs) ∙ ap (λ us. t ∷ us) (row_first ts xs)

abbrev pub gaps_back : GivesBack spell_gap gap_trees_in
gaps_back = record { none = refl; first = gap_first }

gap_again : (t : Gap) → gap_tree_of (spell_gap t) ≡ t
gap_again t = ap gap_tree_of (sym (each_alone spell_gap t)) ∙ ap first_gap (each_again spell_gap gap_trees_in gaps_back (t ∷ []))

pub same_gap : (t u : Gap) → spell_gap t ≡ spell_gap u → t ≡ u
same_gap t u e = sym (gap_again t) ∙ ap gap_tree_of e ∙ gap_again u

pub is_gap_tree : (t : Gap) (xs : List GapNode) → xs ≡ spell_gap t → IsGapTree xs
is_gap_tree t xs e = ap spell_gap (ap gap_tree_of e ∙ gap_again t) ∙ sym e

-- the nodes of trees that come one after the other
pub listed_gaps : (ts : List Gap) → spell_gap_row (gap_trees_of ts) ≡ spell_gaps ts
listed_gaps [] = refl
listed_gaps (t ∷ ts) = ap (λ xs. spell_gap t ++ xs) (listed_gaps ts)

row_all : (ts : GapTrees) → spell_gap_row ts ≡ spell_gaps (gap_list ts)
row_all NoGap = refl
row_all (MoreGaps t ts) = ap (λ xs. spell_gap t ++ xs) (row_all ts)

below_row : (ts : GapTrees) (us : List Gap) → spell_gap_row ts ++ spell_gaps us ≡ spell_gaps (gap_list ts ++ us)
below_row ts us = ap (λ xs. xs ++ spell_gaps us) (row_all ts) ∙ sym (each_append spell_gap (gap_list ts) us)

-- ---- walks

-- the first node is the root of the first tree, and the others are those of its children and of the trees after it
root_first : (ts : List Gap) (x : GapNode) (xs : List GapNode) → spell_gaps ts ≡ x ∷ xs → (t : Gap) × (us : List Gap) × (ts ≡ t ∷ us) × (x ≡ gap_root_of t) × (xs ≡ spell_gaps (gap_children_of t ++ us))
root_first [] x xs e = absurd cc
root_first (Split run children ∷ us) x xs e =
    let root : x ≡ node.Split (count_gaps children) run = cc in
    let others : xs ≡ spell_gap_row children ++ spell_gaps us = cc in
    (Split run children, us, refl, root, others ∙ below_row children us)
root_first (Bound [] ∷ us) x xs e =
    let root : x ≡ node.Bound = cc in
    let others : xs ≡ spell_gaps us = cc in
    (Bound [], us, refl, root, others)
root_first (Bound (run ∷ runs) ∷ us) x xs e =
    let root : x ≡ node.By run = cc in
    let others : xs ≡ bound_nodes runs ++ spell_gaps us = cc in
    (Bound (run ∷ runs), us, refl, root, others)

pub gap_shown : (x : GapNode) (xs : List GapNode) → AreGapTrees (x ∷ xs) → AreGapTrees xs × IsNextGap (gap_trees_in (x ∷ xs)) x (gap_trees_in xs)
gap_shown x xs are =
    let (t, us, is, root, e) = root_first (gap_trees_in (x ∷ xs)) x xs are in
    let after : gap_trees_in xs ≡ gap_children_of t ++ us = ap gap_trees_in e ∙ each_again spell_gap gap_trees_in gaps_back (gap_children_of t ++ us) in
    (are_spelled spell_gap gap_trees_in gaps_back (gap_children_of t ++ us) xs e, subst (λ (vs : List Gap). IsNextGap vs x (gap_trees_in xs)) (sym is) (root, after))

shorter : (t : Gap) (ts : List Gap) → length (spell_gaps (gap_children_of t ++ ts)) < length (spell_gap t ++ spell_gaps ts)
shorter (Split run children) ts = omega (arith, ap length (below_row children ts))
shorter (Bound []) ts = omega arith
shorter (Bound (run ∷ runs)) ts = omega arith

pub next_gap_is_shorter : (ts after : List Gap) (x : GapNode) → IsNextGap ts x after → length (spell_gaps after) < length (spell_gaps ts)
next_gap_is_shorter [] after x next = absurd next
next_gap_is_shorter (t ∷ ts) after x (is, e) = subst (λ (us : List Gap). length (spell_gaps us) < length (spell_gaps (t ∷ ts))) (sym e) (shorter t ts)

-- the next trees are a split's children, as many as the node says
pub record IsSplitFirst (run count : ℕ) (ts after : List Gap) : Type 0 where
  pub first : first_gap ts ≡ Split run (gap_trees_of (take count after))
  pub rest : drop count after ≡ drop 1 ts
  pub fits : count ≤ length after

split_of : (run : ℕ) (cs : GapTrees) (us : List Gap) → IsSplitFirst run (count_gaps cs) (Split run cs ∷ us) (gap_list cs ++ us)
split_of run cs us = record { first = ap (Split run) (sym (row_taken cs us)); rest = row_dropped cs us; fits = row_fits cs us }

pub split_next : (ts : List Gap) (run count : ℕ) (after : List Gap) → IsNextGap ts (node.Split count run) after → IsSplitFirst run count ts after
split_next [] run count after next = absurd next
split_next (Split r cs ∷ us) run count after (is, e) =
    let same : run ≡ r = cc in
    let many : count ≡ count_gaps cs = cc in
    subst (IsSplitFirst run count (Split r cs ∷ us)) (sym e)
    (subst (λ (n : ℕ). IsSplitFirst run n (Split r cs ∷ us) (gap_list cs ++ us)) (sym many)
    (subst (λ (n : ℕ). IsSplitFirst n (count_gaps cs) (Split r cs ∷ us) (gap_list cs ++ us)) (sym same) (split_of r cs us)))
split_next (Bound [] ∷ us) run count after (is, e) = absurd cc
split_next (Bound (r ∷ rs) ∷ us) run count after (is, e) = absurd cc

pub bound_next : (ts : List Gap) (after : List Gap) → IsNextGap ts node.Bound after → (first_gap ts ≡ Bound []) × (after ≡ drop 1 ts)
bound_next [] after next = absurd next
bound_next (Split r cs ∷ us) after (is, e) = absurd cc
bound_next (Bound [] ∷ us) after (is, e) = (refl, e)
bound_next (Bound (run ∷ runs) ∷ us) after (is, e) = absurd cc

-- the next tree is the rest of a bound, after one of its runs
pub record IsBoundFirst (run : ℕ) (ts after : List Gap) : Type 0 where
  pub runs : List ℕ
  pub first : first_gap ts ≡ Bound (run ∷ runs)
  pub next : first_gap after ≡ Bound runs
  pub rest : drop 1 after ≡ drop 1 ts
  pub fits : 1 ≤ length after

pub by_next : (ts : List Gap) (run : ℕ) (after : List Gap) → IsNextGap ts (node.By run) after → IsBoundFirst run ts after
by_next [] run after next = absurd next
by_next (Split r cs ∷ us) run after (is, e) = absurd cc
by_next (Bound [] ∷ us) run after (is, e) = absurd cc
by_next (Bound (r ∷ rs) ∷ us) run after (is, e) =
    let same : run ≡ r = cc in
    subst (IsBoundFirst run (Bound (r ∷ rs) ∷ us)) (sym e)
    (subst (λ (n : ℕ). IsBoundFirst n (Bound (r ∷ rs) ∷ us) (Bound rs ∷ us)) (sym same) (record { runs = rs; first = refl; next = refl; rest = refl; fits = omega arith }))

-- trees that were walked over
pub gaps_no_longer : (k : ℕ) (ts : List Gap) → length (spell_gaps (drop k ts)) ≤ length (spell_gaps ts)
gaps_no_longer (suc k) (t ∷ ts) = omega (arith, gaps_no_longer k ts, length-append (spell_gap t) (spell_gaps ts))
gaps_no_longer k ts = omega arith

-- ---- how many runs a bound names

bound_runs_first : (runs : List ℕ) (xs : List GapNode) → runs_first (bound_nodes runs ++ xs) ≡ length runs
bound_runs_first [] xs = refl
bound_runs_first (run ∷ runs) xs = ap suc (bound_runs_first runs xs)

first_runs : (ts : List Gap) → runs_first (spell_gaps ts) ≡ bound_len ts
first_runs [] = refl
first_runs (Split run children ∷ ts) = refl
first_runs (Bound runs ∷ ts) = bound_runs_first runs (spell_gaps ts)

-- the first tree names the runs that the nodes begin with
pub runs_are_first : (xs : List GapNode) → AreGapTrees xs → runs_first xs ≡ bound_len (gap_trees_in xs)
runs_are_first xs are = ap runs_first (sym are) ∙ first_runs (gap_trees_in xs)
