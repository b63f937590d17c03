-- What a node's children are for is determined: two lists in order with the same elements are the same.
use Rattle.tree_laws.proofs.Vocabulary.{◌≡◌, ◌↔◌, ℕ, suc, ◌<◌, List, [], ◌∷◌, Contains, map, refl, sym, ap, ◌∙◌, subst, inl, inr, arith, AllPairs, IsStrictlyIncreasing, same_Some, Event, Initial, At, IsSourceOf, ComesBefore, AllPairs-from_increasing}
use Rattle.tree_laws.proofs.Vocabulary.{IsOpenGap, Rule, Whole, IsValueBy, event_of, TheValuesAreOneList, TheSourcesAreOneList, TheChoicesAreOneList, TheGapsAreOneList}
use Rattle.tree_laws.specs.declared.choice.Choice.TheVariants as choice
use Rattle.tree_laws.specs.declared.choice.OpenChoice.TheVariants as left
use Rattle.tree_laws.proofs.Lists.{none_here, first_or_later, first_is_here, later_is_here}

module _ {A : Type 0} (R : A → A → Type 0) (one_way : (x y : A) → R x y → R y x → ⊥) where
  -- the first comes before each later one
  before_later : (x : A) (xs : List A) (z : A) → AllPairs R (x ∷ xs) → Contains xs z → R x z
  before_later x xs z pairs (k, h, e) = subst (R x) e (pairs 0 (suc k) z (omega arith) (omega arith))

  others : (x : A) (xs : List A) → AllPairs R (x ∷ xs) → AllPairs R xs
  others x xs pairs i j d h l = pairs (suc i) (suc j) d (omega arith) (omega arith)

  same_first : (x y : A) (xs ys : List A) → AllPairs R (x ∷ xs) → AllPairs R (y ∷ ys) → Contains (y ∷ ys) x → Contains (x ∷ xs) y → x ≡ y
  same_first x y xs ys left right there back = elim (first_or_later y ys x there) [
    | inl e ↦ sym e
    | inr later ↦ elim (first_or_later x xs y back) [
      | inl e ↦ e
      | inr after ↦ absurd (one_way x y (before_later x xs y left after) (before_later y ys x right later))
    ]
  ]

  -- an element after the first of one list is after the first of the other
  still_later : (x : A) (xs ys : List A) → AllPairs R (x ∷ xs) → ((z : A) → Contains (x ∷ xs) z → Contains (x ∷ ys) z) → (z : A) → Contains xs z → Contains ys z
  still_later x xs ys pairs within z here = elim (first_or_later x ys z (within z (later_is_here x xs z here))) [
    | inl e ↦ (let itself : R x x = subst (R x) (sym e) (before_later x xs z pairs here) in absurd (one_way x x itself itself))
    | inr later ↦ later
  ]

  pub one_list : (xs ys : List A) → AllPairs R xs → AllPairs R ys → ((z : A) → Contains xs z → Contains ys z) → ((z : A) → Contains ys z → Contains xs z) → xs ≡ ys
  one_list [] [] left right there back = refl
  one_list [] (y ∷ ys) left right there back = absurd (none_here y (back y (first_is_here y ys)))
  one_list (x ∷ xs) [] left right there back = absurd (none_here x (there x (first_is_here x xs)))
  one_list (x ∷ xs) (y ∷ ys) left right there back =
      let first : x ≡ y = same_first x y xs ys left right (there x (first_is_here x xs)) (back y (first_is_here y ys)) in
      let rest : xs ≡ ys = one_list xs ys (others x xs left) (others y ys right)
      (still_later x xs ys left (λ z here. subst (λ (w : A). Contains (w ∷ ys) z) (sym first) (there z here)))
      (still_later y ys xs right (λ z here. subst (λ (w : A). Contains (w ∷ xs) z) first (back z here))) in
      λ i. first i ∷ rest i

  -- lists of what has a property
  one_list_of : (P : A → Type 0) (xs ys : List A) → AllPairs R xs → AllPairs R ys → ((z : A) → Contains xs z ↔ P z) → ((z : A) → Contains ys z ↔ P z) → xs ≡ ys
  one_list_of P xs ys left right there back = one_list xs ys left right (λ z here. (back z).1 ((there z).0 here)) (λ z here. (there z).1 ((back z).0 here))

one_list_of_numbers : (P : ℕ → Type 0) (xs ys : List ℕ) → IsStrictlyIncreasing xs → IsStrictlyIncreasing ys → ((n : ℕ) → Contains xs n ↔ P n) → ((n : ℕ) → Contains ys n ↔ P n) → xs ≡ ys
one_list_of_numbers P xs ys left right = one_list_of (λ (m n : ℕ). m < n) (λ m n h back. omega arith) P xs ys (AllPairs-from_increasing xs left) (AllPairs-from_increasing ys right)

comes_one_way : (d e : Event) → ComesBefore d e → ComesBefore e d → ⊥
comes_one_way (Initial l) (At t i) h back = back
comes_one_way (At t i) (Initial l) h back = h
comes_one_way (At t i) (At u j) (inl h) (inr back) = let same = back.0 in omega arith
comes_one_way (At t i) (At u j) (inr h) (inl back) = let same = h.0 in omega arith
comes_one_way (At t i) (At u j) (inr h) (inr back) = let before = h.1 in let after = back.1 in omega arith
comes_one_way d e g k = omega arith

pub one_list_of_values_by : (rule : Rule) → TheValuesAreOneList rule
one_list_of_values_by rule p mode k t xs ys left right = one_list_of_numbers (IsValueBy rule p left.location) xs ys left.ascending right.ascending left.exact
    (subst (λ (l : ℕ). (v : ℕ) → Contains ys v ↔ IsValueBy rule p l v) (same_Some right.location left.location (sym right.next ∙ left.next)) right.exact)

pub one_list_of_sources_by : (rule : Rule) → TheSourcesAreOneList rule
one_list_of_sources_by rule p mode k e xs ys left right = one_list_of ComesBefore comes_one_way (λ s. IsSourceOf p mode k s e) xs ys left.in_order right.in_order left.exact right.exact

-- so the choices of what is open are one list
pub one_list_of_choices_by : (rule : Rule) → TheChoicesAreOneList rule
one_list_of_choices_by rule p mode k (left.Value t) xs ys one other =
    one.each ∙ ap (map (choice.Value t)) (one_list_of_values_by rule p mode k t one.values other.values one.next other.next) ∙ sym other.each
one_list_of_choices_by rule p mode k (left.Source read) xs ys one other =
    one.each ∙ ap (map (choice.Source read)) (one_list_of_sources_by rule p mode k (event_of read) one.sources other.sources one.next other.next) ∙ sym other.each
one_list_of_choices_by rule p mode k (left.Order first second) xs ys one other = one.both ∙ sym other.both

pub one_list_of_choices : TheChoicesAreOneList Whole
one_list_of_choices = one_list_of_choices_by Whole

pub one_list_of_gaps : TheGapsAreOneList
one_list_of_gaps q runs n number xs ys left right = one_list_of_numbers (IsOpenGap q left.labels n.never) xs ys left.ascending right.ascending left.exact
    (subst (λ labels. (gap : ℕ) → Contains ys gap ↔ IsOpenGap q labels n.never gap) (same_Some right.labels left.labels (sym right.is_run ∙ left.is_run)) right.exact)
