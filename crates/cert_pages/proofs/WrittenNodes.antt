-- Trees that are written node by node.
use Rattle.cert_pages.proofs.Vocabulary.{◌≡◌, ℕ, List, [], ◌∷◌, ◌++◌, refl, ap, sym, ◌∙◌, append_assoc, append-nil, texts_of, spaced, GapNode, Cover, Value, Source, Order, Covers, NoCover, MoreCovers, cover_list, Gap, Split, Bound, GapTrees, NoGap, MoreGaps}
use Rattle.cert_pages.proofs.Vocabulary.{gap_list, cover_words, covers_words, gap_words, gaps_words, CoverNode, root_of, children_of, gap_root_of, gap_children_of, IsNextBy, IsNext, IsNextGap, texts_append, cover_text, gap_text}
use Rattle.cert_pages.proofs.Vocabulary.{Bool, true, false, suc, length, map, decimal, codes, bound_len, is_run, Whole, Early}
use Rattle.cert_forest.specs.Rule.{Rule}
use Rattle.cert_forest.specs.GapNode.TheVariants as g
use Rattle.cert_pages.specs.NodeWords.{node_words, gap_node_words, early_node_words}

-- ---- one node more, where a tree's text is that of its root, and then those of its children
module _ {T N : Type 0} (root : T → N) (children : T → List T) (text : T → List ℕ) (shown : N → List ℕ) (is_text : (t : T) → text t ≡ shown (root t) ++ texts_of text (children t)) where
  trees_next : (ts : List T) (node : N) (after : List T) → IsNextBy root children ts node after → texts_of text ts ≡ shown node ++ texts_of text after
  trees_next [] node after next = absurd next
  trees_next (t ∷ ts) node after (is, e) =
      ap (λ (w : List ℕ). w ++ texts_of text ts) (is_text t) ∙ append_assoc (shown (root t)) (texts_of text (children t)) (texts_of text ts)
      ∙ ap (λ (w : List ℕ). shown (root t) ++ w) (sym (texts_append text (children t) ts))
      ∙ (λ i. shown (sym is i) ++ texts_of text (sym e i))

  one_written : (ts after : List T) (node : N) (a b whole : List ℕ) → IsNextBy root children ts node after → b ≡ a ++ shown node → a ++ texts_of text ts ≡ whole → b ++ texts_of text after ≡ whole
  one_written ts after node a b whole next e so =
      ap (λ (w : List ℕ). w ++ texts_of text after) e ∙ append_assoc a (shown node) (texts_of text after) ∙ ap (λ (w : List ℕ). a ++ w) (sym (trees_next ts node after next)) ∙ so

-- ---- cover trees

abbrev pub node_text : CoverNode → List ℕ
node_text node = texts_of spaced (node_words node)

abbrev pub trees_text : List Cover → List ℕ
trees_text ts = texts_of cover_text ts

row_text : (ts : Covers) → texts_of spaced (covers_words ts) ≡ trees_text (cover_list ts)
row_text NoCover = refl
row_text (MoreCovers t ts) = texts_append spaced (cover_words t) (covers_words ts) ∙ ap (λ (w : List ℕ). cover_text t ++ w) (row_text ts)

-- a tree's text is that of its root, and then those of its children
root_text : (t : Cover) → cover_text t ≡ node_text (root_of t) ++ trees_text (children_of t)
root_text (Value thread children) =
    let root = root_of (Value thread children) in
    texts_append spaced (node_words root) (covers_words children) ∙ ap (λ (w : List ℕ). node_text root ++ w) (row_text children)
root_text (Source read children) =
    let root = root_of (Source read children) in
    texts_append spaced (node_words root) (covers_words children) ∙ ap (λ (w : List ℕ). node_text root ++ w) (row_text children)
root_text (Order first second t u) =
    let root = root_of (Order first second t u) in
    texts_append spaced (node_words root) (cover_words t ++ cover_words u)
    ∙ ap (λ (w : List ℕ). node_text root ++ w) (texts_append spaced (cover_words t) (cover_words u) ∙ ap (λ (w : List ℕ). cover_text t ++ w) (sym (append-nil (cover_text u))))
root_text t = sym (append-nil (cover_text t))

pub node_written : (ts after : List Cover) (node : CoverNode) (a b whole : List ℕ) → IsNext ts node after → b ≡ a ++ node_text node → a ++ trees_text ts ≡ whole → b ++ trees_text after ≡ whole
node_written ts after node a b whole next e so = one_written root_of children_of cover_text node_text root_text ts after node a b whole next e so

-- ---- gap trees

abbrev pub gap_node_text : GapNode → List ℕ
gap_node_text node = texts_of spaced (gap_node_words node)

gap_row_text : (rule : Rule) (ts : GapTrees) → texts_of spaced (gaps_words rule ts) ≡ texts_of (gap_text rule) (gap_list ts)
gap_row_text rule NoGap = refl
gap_row_text rule (MoreGaps t ts) = texts_append spaced (gap_words rule t) (gaps_words rule ts) ∙ ap (λ (w : List ℕ). gap_text rule t ++ w) (gap_row_text rule ts)

split_root_text : (rule : Rule) (run : ℕ) (children : GapTrees) → gap_text rule (Split run children) ≡ gap_node_text (gap_root_of (Split run children)) ++ texts_of (gap_text rule) (gap_list children)
split_root_text rule run children =
    let root = gap_root_of (Split run children) in
    texts_append spaced (gap_node_words root) (gaps_words rule children) ∙ ap (λ (w : List ℕ). gap_node_text root ++ w) (gap_row_text rule children)

gap_root_text : (t : Gap) → gap_text Whole t ≡ gap_node_text (gap_root_of t) ++ texts_of (gap_text Whole) (gap_children_of t)
gap_root_text (Split run children) = split_root_text Whole run children
gap_root_text (Bound []) = sym (append-nil (gap_text Whole (Bound [])))
gap_root_text (Bound (run ∷ runs)) = sym (append-nil (gap_text Whole (Bound runs)))

pub gap_node_written : (ts after : List Gap) (node : GapNode) (a b whole : List ℕ) → IsNextGap ts node after → b ≡ a ++ gap_node_text node → a ++ texts_of (gap_text Whole) ts ≡ whole → b ++ texts_of (gap_text Whole) after ≡ whole
gap_node_written ts after node a b whole next e so = one_written gap_root_of gap_children_of (gap_text Whole) gap_node_text gap_root_text ts after node a b whole next e so

-- ---- gap trees whose bounds name runs

abbrev early_texts : List Gap → List ℕ
early_texts ts = texts_of (gap_text Early) ts

-- what is left to be written of trees: inside a bound its letter and the number of its runs are written
abbrev pub left_text : Bool → List Gap → List ℕ
left_text false ts = early_texts ts
left_text true [] = []
left_text true (Split run children ∷ ts) = early_texts (Split run children ∷ ts)
left_text true (Bound runs ∷ ts) = texts_of spaced (map decimal runs) ++ early_texts ts

abbrev early_node_text : Bool → ℕ → GapNode → List ℕ
early_node_text inside runs node = texts_of spaced (early_node_words inside runs node)

split_left : (inside : Bool) (following run : ℕ) (children : GapTrees) (ts : List Gap)
    → left_text inside (Split run children ∷ ts) ≡ early_node_text inside following (gap_root_of (Split run children)) ++ early_texts (gap_list children ++ ts)
split_left inside following run children ts = by_inside inside
  where
    here : early_texts (Split run children ∷ ts) ≡ gap_node_text (gap_root_of (Split run children)) ++ early_texts (gap_list children ++ ts)
    here =
        ap (λ (w : List ℕ). w ++ early_texts ts) (split_root_text Early run children)
        ∙ append_assoc (gap_node_text (gap_root_of (Split run children))) (early_texts (gap_list children)) (early_texts ts)
        ∙ ap (λ (w : List ℕ). gap_node_text (gap_root_of (Split run children)) ++ w) (sym (texts_append (gap_text Early) (gap_list children) ts))

    by_inside : (inside : Bool) → left_text inside (Split run children ∷ ts) ≡ early_node_text inside following (gap_root_of (Split run children)) ++ early_texts (gap_list children ++ ts)
    by_inside false = here
    by_inside true = here

run_left : (inside : Bool) (run : ℕ) (runs : List ℕ) (ts : List Gap)
    → left_text inside (Bound (run ∷ runs) ∷ ts) ≡ early_node_text inside (suc (length runs)) (g.By run) ++ (texts_of spaced (map decimal runs) ++ early_texts ts)
run_left false run runs ts = grouped (spaced (codes "B")) (spaced (decimal (suc (length runs)))) (spaced (decimal run)) (texts_of spaced (map decimal runs)) (early_texts ts)
  where
    grouped : (a b c w rest : List ℕ) → (a ++ (b ++ (c ++ w))) ++ rest ≡ (a ++ (b ++ (c ++ []))) ++ (w ++ rest)
    grouped a b c w rest = simp (append_assoc, append-nil)
run_left true run runs ts = grouped (spaced (decimal run)) (texts_of spaced (map decimal runs)) (early_texts ts)
  where
    grouped : (c w rest : List ℕ) → (c ++ w) ++ rest ≡ (c ++ []) ++ (w ++ rest)
    grouped c w rest = simp (append_assoc, append-nil)

left_next : (inside : Bool) (ts : List Gap) (node : GapNode) (after : List Gap) → IsNextGap ts node after → left_text inside ts ≡ early_node_text inside (bound_len ts) node ++ left_text (is_run node) after
left_next inside [] node after next = absurd next
left_next inside (Split run children ∷ ts) node after (is, e) =
    split_left inside 0 run children ts
    ∙ ap (λ (us : List Gap). early_node_text inside 0 (gap_root_of (Split run children)) ++ early_texts us) (sym e)
    ∙ ap (λ (n : GapNode). early_node_text inside 0 n ++ left_text (is_run n) after) (sym is)
left_next inside (Bound [] ∷ ts) node after (is, e) =
    by_inside inside
    ∙ ap (λ (us : List Gap). early_node_text inside 0 g.Bound ++ early_texts us) (sym e)
    ∙ ap (λ (n : GapNode). early_node_text inside 0 n ++ left_text (is_run n) after) (sym is)
  where
    by_inside : (inside : Bool) → left_text inside (Bound [] ∷ ts) ≡ early_node_text inside 0 g.Bound ++ early_texts ts
    by_inside false = refl
    by_inside true = refl
left_next inside (Bound (run ∷ runs) ∷ ts) node after (is, e) =
    run_left inside run runs ts
    ∙ ap (λ (us : List Gap). early_node_text inside (suc (length runs)) (g.By run) ++ left_text true us) (sym e)
    ∙ ap (λ (n : GapNode). early_node_text inside (suc (length runs)) n ++ left_text (is_run n) after) (sym is)

pub early_node_written : (inside next_inside : Bool) (runs : ℕ) (ts after : List Gap) (node : GapNode) (a b whole : List ℕ) → runs ≡ bound_len ts → next_inside ≡ is_run node → IsNextGap ts node after
    → b ≡ a ++ early_node_text inside runs node → a ++ left_text inside ts ≡ whole → b ++ left_text next_inside after ≡ whole
early_node_written inside next_inside runs ts after node a b whole many goes next e so =
    (λ i. (e ∙ ap (λ (n : ℕ). a ++ early_node_text inside n node) many) i ++ left_text (goes i) after)
    ∙ append_assoc a (early_node_text inside (bound_len ts) node) (left_text (is_run node) after)
    ∙ ap (λ (w : List ℕ). a ++ w) (sym (left_next inside ts node after next)) ∙ so
