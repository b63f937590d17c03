-- The definitions on four gaps of which the first and the third are tied.
use Rattle.gap_sets.proofs.Vocabulary.{◌≡◌, ℕ, zero, suc, ◌||◌, false, List, [], ◌∷◌, nat_eq, refl, sym, ap, ◌∙◌, arith, list_any, nat_cmp_total, nat_tests, total, ones, these}
use Rattle.std.proofs.Common.{map}
use Rattle.std.specs.FinSet as set
use Rattle.gap_sets.specs.Ties.{name_of, names_in, spread}
use Rattle.gap_sets.specs.TieLaws.{FirstAndThirdAreTied}
use Rattle.gap_sets.proofs.{Examples.total-these, Naming.has, Naming.are_names, Spreading.spread_contains}

abbrev tied : List ℕ
tied = 0 ∷ 1 ∷ 0 ∷ []

-- the names of a listed set, by their list
names_listed : (gaps names : List ℕ) → names ≡ map (name_of tied) gaps → names_in tied (these gaps) ≡ these names
names_listed gaps names is =
    sym (are_names tied gaps (these gaps) (these names) (λ x. sym (set.contains-from_list_nat gaps x)) (λ n. set.contains-from_list_nat names n ∙ ap (λ xs. has xs n) is))

-- the third gap is there with the first
third_too : (gap : ℕ) → has (0 ∷ 3 ∷ []) (name_of tied gap) ≡ has (0 ∷ 2 ∷ 3 ∷ []) gap
third_too zero = refl
third_too (suc zero) = refl
third_too (suc (suc zero)) = refl
third_too (suc (suc (suc gap))) =
    let other : nat_eq 2 (suc (suc (suc gap))) ≡ false = grind (arith, nat_tests) in
    ap (λ b. nat_eq 0 (suc (suc (suc gap))) || (b || (nat_eq 3 (suc (suc (suc gap))) || false))) (sym other)

-- each part, by the lists
pub first_and_third : FirstAndThirdAreTied
first_and_third = record {
  name = refl;
  other_name = refl;
  spread_name = set.same_set nat_cmp_total set.nat_cmp-IsAntisymmetric (spread tied (these (0 ∷ 3 ∷ []))) (these (0 ∷ 2 ∷ 3 ∷ []))
      (λ gap. spread_contains tied (these (0 ∷ 3 ∷ [])) gap ∙ set.contains-from_list_nat (0 ∷ 3 ∷ []) (name_of tied gap) ∙ third_too gap ∙ sym (set.contains-from_list_nat (0 ∷ 2 ∷ 3 ∷ []) gap));
  half = names_listed (2 ∷ []) (0 ∷ []) refl;
  once = ap (total ones) (names_listed (0 ∷ 2 ∷ []) (0 ∷ 0 ∷ []) refl) ∙ total-these ones (0 ∷ 0 ∷ []);
}
