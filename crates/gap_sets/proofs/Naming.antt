-- What the names of a set are.
use Rattle.gap_sets.proofs.Vocabulary.{◌≡◌, ℕ, ◌==◌, ◌↔◌, ◌||◌, inl, inr, Bool, true, false, List, [], ◌∷◌, nat_eq, refl, sym, ap, ◌∙◌, arith, list_any, nat_cmp, eq_by_cmp, nat_cmp_total, nat_tests, eqb_tells, numbers_of_set, SetOfGaps}
use Rattle.std.proofs.Common.{map}
use Rattle.std.specs.FinSet as set
use Rattle.gap_sets.specs.Ties.{name_of, names_in}
use Rattle.gap_sets.specs.TieLaws.{TheNamesOfASetAreThoseOfItsGaps}
use Rattle.gap_sets.specs.SameGaps.{alike}

-- whether a list has a number
abbrev pub has : List ℕ → ℕ → Bool
has xs q = list_any (λ y. nat_eq y q) xs

-- the order of numbers holds equal numbers alone for the same
same_test : (xs : List ℕ) (q : ℕ) → list_any (eq_by_cmp nat_cmp q) xs ≡ has xs q
same_test [] q = refl
same_test (x ∷ xs) q = let one : eq_by_cmp nat_cmp q x ≡ nat_eq x q = grind (arith, nat_tests) in rw (one, same_test xs q) refl

-- the set has what its items have
pub items_have : (s : SetOfGaps) (q : ℕ) → set.contains s q ≡ has (set.items s) q
items_have s q = set.contains-items s q ∙ same_test (set.items s) q

-- what is in a list that is mapped comes from something there
pub found : (f : ℕ → ℕ) (xs : List ℕ) (n : ℕ) → has (map f xs) n ≡ true → (x : ℕ) × (has xs x ≡ true) × (f x ≡ n)
found f [] n there = cc
found f (x ∷ xs) n there = elim (eqb_tells (f x) n) [
  | inl is ↦ (x, (let here : nat_eq x x ≡ true = grind (arith, nat_tests) in rw here refl), is.1)
  | inr other ↦
      let later = found f xs n (ap (λ v. v || has (map f xs) n) (sym other.0) ∙ there) in
      (later.0, (grind (arith, nat_tests, later.1)), later.2)
]

pub mapped : (f : ℕ → ℕ) (xs : List ℕ) (x : ℕ) → has xs x ≡ true → has (map f xs) (f x) ≡ true
mapped f [] x there = cc
mapped f (y ∷ xs) x there = elim (eqb_tells y x) [
  | inl is ↦ let here : nat_eq (f y) (f x) ≡ true = rw is.1 (grind (arith, nat_tests)) in rw here refl
  | inr other ↦
      let later = mapped f xs x (ap (λ v. v || has xs x) (sym other.0) ∙ there) in
      rw later (grind (arith, nat_tests))
]

-- the names of a set are those of its gaps
pub names_contain : TheNamesOfASetAreThoseOfItsGaps
names_contain ties gaps name = (
  (λ there.
      let at = found (name_of ties) (set.items gaps) name (sym (set.contains-from_list_nat (map (name_of ties) (set.items gaps)) name) ∙ there) in
      (at.0, items_have gaps at.0 ∙ at.1, at.2)),
  (λ at.
      set.contains-from_list_nat (map (name_of ties) (set.items gaps)) name
      ∙ (ap (has (map (name_of ties) (set.items gaps))) (sym at.2) ∙ mapped (name_of ties) (set.items gaps) at.0 (sym (items_have gaps at.0) ∙ at.1))),
)

-- lists with the same numbers have the same ones when they are mapped
pub mapped_alike : (f : ℕ → ℕ) (xs ys : List ℕ) → ((x : ℕ) → has xs x ≡ has ys x) → (n : ℕ) → has (map f xs) n ≡ has (map f ys) n
mapped_alike f xs ys same n = alike _ _ (moved xs ys same) (moved ys xs (λ x. sym (same x)))
  where
    moved : (first second : List ℕ) → ((x : ℕ) → has first x ≡ has second x) → has (map f first) n ≡ true → has (map f second) n ≡ true
    moved first second equal there =
        let at = found f first n there in
        ap (has (map f second)) (sym at.2) ∙ mapped f second at.0 (sym (equal at.0) ∙ at.1)

-- a list that is mapped onto itself
onto_itself : (f : ℕ → ℕ) (xs : List ℕ) → ((x : ℕ) → f x ≡ x) → (n : ℕ) → has (map f xs) n ≡ has xs n
onto_itself f [] same n = refl
onto_itself f (x ∷ xs) same n = (λ i. nat_eq (same x i) n || onto_itself f xs same n i)

-- a set that has the names of the gaps of a list, which are a set's, is that of the names of the set
pub are_names : (ties xs : List ℕ) (gaps names : SetOfGaps) → ((x : ℕ) → has xs x ≡ set.contains gaps x) → ((n : ℕ) → set.contains names n ≡ has (map (name_of ties) xs) n)
    → names ≡ names_in ties gaps
are_names ties xs gaps names of_set each =
    set.same_set nat_cmp_total set.nat_cmp-IsAntisymmetric names (names_in ties gaps)
    (λ n.
    each n ∙ mapped_alike (name_of ties) xs (set.items gaps) (λ x. of_set x ∙ items_have gaps x) n
    ∙ sym (set.contains-from_list_nat (map (name_of ties) (set.items gaps)) n))

-- without ties they are its gaps
pub own_names : (gaps : SetOfGaps) → names_in [] gaps ≡ gaps
own_names gaps =
    sym (are_names [] (set.items gaps) gaps gaps (λ x. sym (items_have gaps x)) (λ n. items_have gaps n ∙ sym (onto_itself (name_of []) (set.items gaps) (λ x. refl) n)))

-- one name more of a list
pub one_more : (s : SetOfGaps) (name : ℕ) (rest : List ℕ) (n : ℕ) → (set.contains (set.insert s name) n || has rest n) ≡ (set.contains s n || has (name ∷ rest) n)
one_more s name rest n =
    let added : set.contains (set.insert s name) n ≡ (eq_by_cmp nat_cmp n name || set.contains s n) = set.contains-insert nat_cmp_total s name n in
    let one : eq_by_cmp nat_cmp n name ≡ nat_eq name n = grind (arith, nat_tests) in
    rw (added, one) (by_cases (nat_eq name n) (set.contains s n) (has rest n))
  where
    by_cases : (v w x : Bool) → ((v || w) || x) ≡ (w || (v || x))
    by_cases true true x = refl
    by_cases true false x = refl
    by_cases false true x = refl
    by_cases false false x = refl

-- no name more
pub nothing_more : (v : Bool) → v ≡ (v || false)
nothing_more true = refl
nothing_more false = refl
