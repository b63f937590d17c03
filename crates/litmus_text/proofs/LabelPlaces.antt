-- Labels of a position, and where they lie among fenced instructions.
use Rattle.litmus_text.proofs.Vocabulary.{◌≡◌, ◌≢◌, ℕ, zero, suc, ◌+◌, ◌<◌, ◌≤◌, ◌==◌, Bool, true, false, List, [], ◌∷◌, ◌++◌, length, take, get_or, map, Option, Some, None, refl, sym, ap, ◌∙◌, inl, inr, arith, if◌then◌else◌, cons_option, option_to_list}
use Rattle.litmus_text.proofs.Vocabulary.{cases_lt, append-nil, take_more, filter_map-append, Gaps, place_of, rises, CodeLabel, named_at, label_names_at, own_labels, moved_label, moved_labels, Decides-eqb, same_from_decides, false_from_ne_true as not_true}
use Rattle.std.specs.Bool.{Decides}

-- ---- places of a fenced thread

step_up : (b : Bool) (n : ℕ) → n < n + (if b then 2 else 1)
step_up true n = omega arith
step_up false n = omega arith

-- a later position lies at a later place
pub places_rise : (gap : ℕ → Bool) (j k : ℕ) → j < k → place_of gap j < place_of gap k
places_rise gap j k lt =
    let up = step_up (gap j) (place_of gap j) in
    let so_far : place_of gap (suc j) ≤ place_of gap k = rises gap (suc j) k (omega arith) in
    omega (arith, up, so_far)

-- so each place has one position
pub place_alone : (gap : ℕ → Bool) (j k : ℕ) → place_of gap j ≡ place_of gap k → j ≡ k
place_alone gap j k e =
    elim (cases_lt j k) [
      | inl lt ↦ let h = places_rise gap j k lt in absurd (omega (arith, e, h))
      | inr le ↦ elim (cases_lt k j) [ inl lt ↦ let h = places_rise gap k j lt in absurd (omega (arith, e, h)) | inr ge ↦ let same : j ≡ k = omega arith in same ]
    ]

-- a place that lies between those of two positions that follow each other has none
pub place_between : (gap : ℕ → Bool) (k place : ℕ) → ((j : ℕ) → j < k → place_of gap j < place) → place < place_of gap k → (j : ℕ) → place_of gap j ≢ place
place_between gap k place before after j e =
    elim (cases_lt j k) [
      | inl lt ↦ let h = before j lt in absurd (omega (arith, e, h))
      | inr le ↦ let h : place_of gap k ≤ place_of gap j = rises gap k j le in absurd (omega (arith, e, h, after))
    ]

-- ---- labels of a position

pub labels_more : (labels : List CodeLabel) (i k : ℕ) (d : CodeLabel) → i < length labels → label_names_at (take (i + 1) labels) k ≡ label_names_at (take i labels) k ++ option_to_list (named_at k (get_or labels i d))
labels_more labels i k d lt =
    ap (λ (ls : List CodeLabel). label_names_at ls k) (take_more labels i d lt)
    ∙ filter_map-append (named_at k) (take i labels) (get_or labels i d ∷ [])
    ∙ ap (λ (ns : List (List ℕ)). label_names_at (take i labels) k ++ ns) (alone (named_at k (get_or labels i d)))
  where
    alone : (o : Option (List ℕ)) → cons_option o [] ≡ option_to_list o
    alone (Some x) = refl
    alone None = refl

pub here : (k : ℕ) (l : CodeLabel) → l.position ≡ k → named_at k l ≡ Some l.name
here k l e = ap (λ (b : Bool). if b then Some l.name else None) ((Decides-eqb l.position k).1 e)

pub elsewhere : (k : ℕ) (l : CodeLabel) → (l.position ≡ k → ⊥) → named_at k l ≡ None
elsewhere k l other = ap (λ (b : Bool). if b then Some l.name else None) (not_true (l.position == k) (λ t. other ((Decides-eqb l.position k).0 t)))

-- one more label, and another's
pub label_here : (labels : List CodeLabel) (i k : ℕ) (l : CodeLabel) → i < length labels → l ≡ get_or labels i l → l.position ≡ k → label_names_at (take (i + 1) labels) k ≡ label_names_at (take i labels) k ++ l.name ∷ []
label_here labels i k l lt is e =
    labels_more labels i k l lt ∙ ap (λ (m : CodeLabel). label_names_at (take i labels) k ++ option_to_list (named_at k m)) (sym is)
    ∙ ap (λ (o : Option (List ℕ)). label_names_at (take i labels) k ++ option_to_list o) (here k l e)

pub label_elsewhere : (labels : List CodeLabel) (i k : ℕ) (l : CodeLabel) → i < length labels → l ≡ get_or labels i l → (l.position ≡ k → ⊥) → label_names_at (take (i + 1) labels) k ≡ label_names_at (take i labels) k
label_elsewhere labels i k l lt is other =
    labels_more labels i k l lt ∙ ap (λ (m : CodeLabel). label_names_at (take i labels) k ++ option_to_list (named_at k m)) (sym is)
    ∙ ap (λ (o : Option (List ℕ)). label_names_at (take i labels) k ++ option_to_list o) (elsewhere k l other) ∙ append-nil (label_names_at (take i labels) k)

-- ---- labels that are moved

-- the labels of a position are those of its place
pub labels_moved : (gap : ℕ → Bool) (labels : List CodeLabel) (k place : ℕ) → place_of gap k ≡ place → label_names_at (map (moved_label gap) labels) place ≡ label_names_at labels k
labels_moved gap [] k place e = refl
labels_moved gap (l ∷ labels) k place e =
    let decides : Decides (place_of gap l.position == place) (l.position ≡ k) = (
      λ t. place_alone gap l.position k ((Decides-eqb (place_of gap l.position) place).0 t ∙ sym e),
      λ same. (Decides-eqb (place_of gap l.position) place).1 (ap (place_of gap) same ∙ e),
    ) in
    let test : (place_of gap l.position == place) ≡ (l.position == k) = same_from_decides (place_of gap l.position == place) (l.position == k) decides (Decides-eqb l.position k) in
    ap (λ (b : Bool). cons_option (if b then Some l.name else None) (label_names_at (map (moved_label gap) labels) place)) test
    ∙ ap (λ (ns : List (List ℕ)). cons_option (named_at k l) ns) (labels_moved gap labels k place e)

-- a place without a position has none
pub labels_nowhere : (gap : ℕ → Bool) (labels : List CodeLabel) (place : ℕ) → ((k : ℕ) → place_of gap k ≢ place) → label_names_at (map (moved_label gap) labels) place ≡ []
labels_nowhere gap [] place none = refl
labels_nowhere gap (l ∷ labels) place none =
    ap (λ (o : Option (List ℕ)). cons_option o (label_names_at (map (moved_label gap) labels) place)) (elsewhere place (moved_label gap l) (none l.position)) ∙ labels_nowhere gap labels place none

moved_from : (gaps : Gaps) (n t : ℕ) (labels : List (List CodeLabel)) → own_labels (moved_labels gaps n labels) t ≡ map (moved_label (gaps (n + t))) (own_labels labels t)
moved_from gaps n t [] = refl
moved_from gaps n zero (ls ∷ labels) = let e : n ≡ n + 0 = omega arith in ap (λ (m : ℕ). map (moved_label (gaps m)) ls) e
moved_from gaps n (suc t) (ls ∷ labels) = let e : (n + 1) + t ≡ n + suc t = omega arith in moved_from gaps (n + 1) t labels ∙ ap (λ (m : ℕ). map (moved_label (gaps m)) (own_labels labels t)) e

-- thread t's labels, moved
pub moved_of : (gaps : Gaps) (t : ℕ) (labels : List (List CodeLabel)) → own_labels (moved_labels gaps 0 labels) t ≡ map (moved_label (gaps t)) (own_labels labels t)
moved_of gaps t labels = let e : 0 + t ≡ t = omega arith in moved_from gaps 0 t labels ∙ ap (λ (m : ℕ). map (moved_label (gaps m)) (own_labels labels t)) e

-- the labels at a place of thread t are those that a thread's own labels have at its position
pub moved_at : (gaps : Gaps) (t k place : ℕ) (labels given : List (List CodeLabel)) (own : List CodeLabel) → own ≡ own_labels given t → given ≡ labels → place_of (gaps t) k ≡ place
    → label_names_at own k ≡ label_names_at (own_labels (moved_labels gaps 0 labels) t) place
moved_at gaps t k place labels given own is same e =
    ap (λ (ls : List CodeLabel). label_names_at ls k) (is ∙ ap (λ (ls : List (List CodeLabel)). own_labels ls t) same)
    ∙ sym (ap (λ (ls : List CodeLabel). label_names_at ls place) (moved_of gaps t labels) ∙ labels_moved (gaps t) (own_labels labels t) k place e)

pub moved_nowhere : (gaps : Gaps) (t place : ℕ) (labels : List (List CodeLabel)) → ((k : ℕ) → place_of (gaps t) k ≢ place) → label_names_at (own_labels (moved_labels gaps 0 labels) t) place ≡ []
moved_nowhere gaps t place labels none = ap (λ (ls : List CodeLabel). label_names_at ls place) (moved_of gaps t labels) ∙ labels_nowhere (gaps t) (own_labels labels t) place none
