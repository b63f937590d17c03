-- The elements of a list that pass a test, and whether a number is in a list.
use Rattle.tree_laws.proofs.Vocabulary.{◌≡◌, ℕ, zero, suc, Bool, true, List, [], ◌∷◌, nat_eq, Contains, ap, ◌∙◌, inl, inr, arith, filter, list_any, cases_Bool, nat_tests, All-contains, All-contains_itself, All-filter, filter_passes}
use Rattle.std.proofs.lemmas.List.Folds.{list_any_at}
use Rattle.std.proofs.lemmas.Map.Views.{Contains-from_any}
use Rattle.tree_laws.proofs.Lists.{later_is_here}

module _ (p : ℕ → Bool) where
  -- what is left by a test is an element that passes it
  pub of_filter : (xs : List ℕ) (x : ℕ) → Contains (filter p xs) x → Contains xs x × (p x ≡ true)
  of_filter xs x here =
      (All-contains (Contains xs) (filter p xs) x (All-filter p (Contains xs) xs (All-contains_itself xs)) here, All-contains (λ y. p y ≡ true) (filter p xs) x (filter_passes p xs) here)

  -- and an element that passes is left
  pub to_filter : (xs : List ℕ) (x : ℕ) → Contains xs x → p x ≡ true → Contains (filter p xs) x
  to_filter [] x (k, h, same) e = absurd (omega arith)
  to_filter (y ∷ ys) x (zero, h, same) e = rw (ap p same ∙ e) (zero, omega arith, same)
  to_filter (y ∷ ys) x (suc k, h, same) e =
      let rest = to_filter ys x (k, omega arith, same) e in
      elim (cases_Bool (p y)) [ inl passes ↦ rw passes (later_is_here y (filter p ys) x rest) | inr fails ↦ rw fails rest ]

-- a number that is found is in the list
pub has_any : (xs : List ℕ) (g : ℕ) → list_any (λ y. nat_eq y g) xs ≡ true → Contains xs g
has_any xs g e = Contains-from_any {eq = λ q y. nat_eq y q} (λ x y same. grind (arith, nat_tests)) g xs e

-- and one that is in the list is found
pub any_has : (xs : List ℕ) (g : ℕ) → Contains xs g → list_any (λ y. nat_eq y g) xs ≡ true
any_has xs g (k, h, same) = list_any_at (λ y. nat_eq y g) xs k g h (grind (arith, nat_tests))
