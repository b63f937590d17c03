-- Labels that stand in their thread already.
use Rattle.litmus_syntax.proofs.Vocabulary.{◌≡◌, ◌∙◌, ◌+◌, ◌<◌, ◌==◌, ◌&&◌, ℕ, Bool, true, false, append_assoc, List, [], ◌∷◌, ◌++◌, map, length, take, drop, get_or, refl, sym, ap, subst, take_more, map_push, map-append, take-append-drop, list_any, bytes_eq}
use Rattle.litmus_syntax.proofs.Vocabulary.{Vec, eqb-true, bytes_eq-Decides, label_view, NoneTwice, and_parts as both, eq-eqb}
use Rattle.litmus_syntax.specs.declared.label.LabelAt.{LabelAt}
use Rattle.litmus_syntax.proofs.Repetitions.{fresh, twice}

abbrev same_label : ℕ × List ℕ → ℕ × List ℕ → Bool
same_label a b = a.0 == b.0 && bytes_eq a.1 b.1

label_of : ℕ → List ℕ → ℕ × List ℕ
label_of t l = (t, l)

same_label_is : (a b : ℕ × List ℕ) → same_label a b ≡ true → a ≡ b
unfolding label_of
same_label_is a b e =
    let h = both (a.0 == b.0) (bytes_eq a.1 b.1) e in
    ap (λ (t : ℕ). label_of t a.1) (eqb-true a.0 b.0 h.0) ∙ ap (label_of b.0) ((bytes_eq-Decides a.1 b.1).0 h.1)

same_label_itself : (a : ℕ × List ℕ) → same_label a a ≡ true
same_label_itself a = rw (eq-eqb a.0 a.0 refl) ((bytes_eq-Decides a.1 a.1).1 refl)

-- what a key of the set stands for
abbrev pub key_view : ℕ × Vec ℕ → ℕ × List ℕ
key_view k = (k.0, k.1.items)

abbrev pub views : List LabelAt → List (ℕ × List ℕ)
views labels = map label_view labels

among_keys : (keys : List (ℕ × Vec ℕ)) (t : ℕ) (l : List ℕ) → list_any (λ k. t == k.0 && bytes_eq l k.1.items) keys ≡ list_any (same_label (t, l)) (map key_view keys)
among_keys [] t l = refl
among_keys (k ∷ keys) t l = rw (among_keys keys t l) refl

-- none of the labels so far stands twice, and they are the keys
pub record LabelsOnce (labels : List LabelAt) (index : ℕ) (keys : List (ℕ × Vec ℕ)) : Type 0 where
  pub known : map key_view keys ≡ views (take index labels)
  pub once : NoneTwice (views (take index labels))

-- whether the label is among those before
label_known : (labels : List LabelAt) (i t : ℕ) (own name : List ℕ) (keys : List (ℕ × Vec ℕ)) → LabelsOnce labels i keys → own ≡ name → list_any (same_label (t, name)) (views (take i labels)) ≡ list_any (λ k. t == k.0 && bytes_eq own k.1.items) keys
label_known labels i t own name keys s is =
    ap (λ (z : List ℕ). list_any (same_label (t, z)) (views (take i labels))) (sym is) ∙ ap (list_any (same_label (t, own))) (sym s.known) ∙ sym (among_keys keys t own)

views_more : (labels : List LabelAt) (i : ℕ) (d : LabelAt) → i < length labels → views (take (i + 1) labels) ≡ views (take i labels) ++ label_view (get_or labels i d) ∷ []
views_more labels i d lt = ap views (take_more labels i d lt) ∙ map_push label_view (take i labels) (get_or labels i d)

views_split : (labels : List LabelAt) (i : ℕ) (d : LabelAt) → i < length labels → views labels ≡ views (take i labels) ++ label_view (get_or labels i d) ∷ views (drop (i + 1) labels)
views_split labels i d lt =
    ap views (sym (take-append-drop (i + 1) labels)) ∙ map-append label_view (take (i + 1) labels) (drop (i + 1) labels) ∙ ap (λ (z : List (ℕ × List ℕ)). z ++ views (drop (i + 1) labels)) (views_more labels i d lt)
    ∙ append_assoc (views (take i labels)) (label_view (get_or labels i d) ∷ []) (views (drop (i + 1) labels))

pub label_twice : (labels : List LabelAt) (i : ℕ) (d : LabelAt) (own : Vec ℕ) (keys : List (ℕ × Vec ℕ)) → LabelsOnce labels i keys → i < length labels → own.items ≡ (get_or labels i d).name.now
    → list_any (λ k. (get_or labels i d).thread == k.0 && bytes_eq own.items k.1.items) keys ≡ true → NoneTwice (views labels) → ⊥
label_twice labels i d own keys s lt is among h =
    let l = get_or labels i d in
    twice same_label same_label_is same_label_itself (views (take i labels)) (views (drop (i + 1) labels)) (label_view l) (label_known labels i l.thread own.items l.name.now keys s is ∙ among) (subst NoneTwice (views_split labels i d lt) h)

pub next_label : (labels : List LabelAt) (i : ℕ) (d : LabelAt) (own : Vec ℕ) (keys new : List (ℕ × Vec ℕ)) → LabelsOnce labels i keys → i < length labels → own.items ≡ (get_or labels i d).name.now
    → list_any (λ k. (get_or labels i d).thread == k.0 && bytes_eq own.items k.1.items) keys ≡ false → new ≡ keys ++ ((get_or labels i d).thread, own) ∷ [] → LabelsOnce labels (i + 1) new
next_label labels i d own keys new s lt is apart added =
    let l = get_or labels i d in
    let key : ℕ × Vec ℕ = (l.thread, own) in
    record {
      known = ap (map key_view) added ∙ map_push key_view keys key ∙ ap (λ (z : List (ℕ × List ℕ)). z ++ (l.thread, own.items) ∷ []) s.known ∙ ap (λ (z : List ℕ). views (take i labels) ++ (l.thread, z) ∷ []) is ∙ sym (views_more labels i d lt);
      once = subst NoneTwice (sym (views_more labels i d lt)) (fresh same_label same_label_is same_label_itself (views (take i labels)) (label_view l) s.once (label_known labels i l.thread own.items l.name.now keys s is ∙ apart));
    }
