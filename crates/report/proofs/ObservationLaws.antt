-- What the observations say, outcome by outcome.
use Rattle.std.proofs.Common.{◌≡◌, ℕ, Bool, true, false, List, [], ◌∷◌, length, get_or, refl, ap, ◌∙◌, arith, inl, inr}
use Rattle.std.specs.Prelude.{codes, not, All, Any, if◌then◌else◌}
use Rattle.std.specs.List.{list_all, list_any}
use Rattle.std.proofs.lemmas.Bool.{cases_Bool, both_ways, false_from_ne_true, not-true as not_true}
use Rattle.std.proofs.lemmas.List.Folds.{Any-from_list_any, list_any-from_Any, list_any_at, list_any_none, list_all_at}
use Rattle.std.proofs.lemmas.List.Sums.{AllPass-from_list_all, list_all-from_AllPass}
use Rattle.tso_program.specs.{declared.outcome.Outcome.Outcome, declared.atom.Atom.Atom, Tree.Tree, Truth.truth}
use Rattle.report.specs.{Observations.some_meets, Observations.all_meet, Laws.ObservationsAreTold}

-- ---- tests of a list

module _ {X : Type 0} (p : X → Bool) where
  none_passes : (xs : List X) → list_any p xs ≡ false → All (λ x. p x ≡ false) xs
  none_passes xs none k d lt = false_from_ne_true (p (get_or xs k d)) (λ passes. both_ways (list_any p xs) none (list_any_at p xs k d lt passes))

  some_or_all : (xs : List X) → list_any (λ x. not (p x)) xs ≡ not (list_all p xs)
  some_or_all [] = refl
  some_or_all (x ∷ xs) = elim (cases_Bool (p x)) [ inl passes ↦ rw passes (some_or_all xs) | inr fails ↦ rw fails refl ]

  some_fails : (xs : List X) → list_all p xs ≡ false → Any (λ x. p x ≡ false) xs
  some_fails xs not_all =
      let a = Any-from_list_any (λ x. not (p x)) xs (some_or_all xs ∙ ap not not_all) in
      (a.0, a.1, a.2, a.3, not_true (p a.1) a.4)

  not_all_pass : (xs : List X) → Any (λ x. p x ≡ false) xs → list_all p xs ≡ false
  not_all_pass xs a = list_all_at p xs a.0 a.1 a.2 (ap p a.3 ∙ a.4)

-- ---- the words

abbrev word : Bool → Bool → List ℕ
word some all = if not some then codes "Never" else if all then codes "Always" else codes "Sometimes"

never_is : (some all : Bool) → word some all ≡ codes "Never" → some ≡ false
never_is false all e = refl
never_is true true e = absurd (omega (arith, ap length e))
never_is some all e = absurd (omega (arith, ap length e))

always_is : (some all : Bool) → word some all ≡ codes "Always" → (some ≡ true) × (all ≡ true)
always_is true true e = (refl, refl)
always_is some all e = absurd (omega (arith, ap length e))

sometimes_is : (some all : Bool) → word some all ≡ codes "Sometimes" → (some ≡ true) × (all ≡ false)
sometimes_is true false e = (refl, refl)
sometimes_is some all e = absurd (omega (arith, ap length e))

abbrev meets : Tree Atom → Outcome → Bool
meets f outcome = truth outcome f

pub observations_are_told : ObservationsAreTold
observations_are_told = record {
  never = λ f outcomes. (
    (λ e. none_passes (meets f) outcomes (never_is (some_meets f outcomes) (all_meet f outcomes) e)),
    (λ none. λ i. word (list_any_none (meets f) outcomes none i) (all_meet f outcomes)),
  );
  always = λ f outcomes. (
    (λ e. let a = always_is (some_meets f outcomes) (all_meet f outcomes) e in (Any-from_list_any (meets f) outcomes a.0, AllPass-from_list_all (meets f) outcomes a.1)),
    (λ h. λ i. word (list_any-from_Any (meets f) outcomes h.0 i) (list_all-from_AllPass (meets f) outcomes h.1 i)),
  );
  sometimes = λ f outcomes. (
    (λ e. let a = sometimes_is (some_meets f outcomes) (all_meet f outcomes) e in (Any-from_list_any (meets f) outcomes a.0, some_fails (meets f) outcomes a.1)),
    (λ h. λ i. word (list_any-from_Any (meets f) outcomes h.0 i) (not_all_pass (meets f) outcomes h.1 i)),
  );
  exists_holds = λ f outcomes. (Any-from_list_any (meets f) outcomes, list_any-from_Any (meets f) outcomes);
  not_exists_holds = λ f outcomes. ((λ e. none_passes (meets f) outcomes (not_true (some_meets f outcomes) e)), (λ none. ap not (list_any_none (meets f) outcomes none)));
  forall_holds = λ f outcomes. (AllPass-from_list_all (meets f) outcomes, list_all-from_AllPass (meets f) outcomes);
  no_outcomes = λ f. (refl, refl, refl, refl);
}
