-- A set has one of some gaps or none; and of gaps of which a set has one, one is the cheapest.
use Rattle.std.specs.Prelude.{All}
use Rattle.std.proofs.lemmas.List.Elements.{All-head, All-tail}
use Rattle.std.proofs.lemmas.Bool.{cases_lt}
use Rattle.std.specs.List.{AllZip}
use Rattle.tree_laws.proofs.Vocabulary.{◌≡◌, ◌⊎◌, ℕ, ◌<◌, ◌≤◌, false, List, [], ◌∷◌, Contains, sym, ◌∙◌, inl, inr, arith, SetOfGaps, HasNoneOf}
use Rattle.std.specs.FinSet as set
use Rattle.gap_sets.specs.Order.{cost_of}
use Rattle.tree_laws.specs.Packings.{IsCheapestOf, HasOneOf}
use Rattle.tree_laws.proofs.{Lists.none_here, Lists.first_is_here, Lists.later_is_here, Lists.each_more, Regions.true_or_false}

-- a set has one of the gaps or none of them
pub one_or_none : (s : SetOfGaps) (gaps : List ℕ) → HasOneOf s gaps ⊎ HasNoneOf s gaps
one_or_none s [] = inr (λ gap here. absurd (none_here gap here))
one_or_none s (gap ∷ gaps) = elim (true_or_false (set.contains s gap)) [
  | inl there ↦ inl (gap, first_is_here gap gaps, there)
  | inr missing ↦ elim (one_or_none s gaps) [
    | inl (other, here, there) ↦ inl (other, later_is_here gap gaps other here, there)
    | inr none ↦ inr (each_more (λ (g : ℕ). set.contains s g ≡ false) gap gaps missing none)
  ]
]

module _ (costs : List ℕ) where
  pub first_alone : (gap : ℕ) → IsCheapestOf costs (gap ∷ []) gap
  first_alone gap = record {
    is_one = first_is_here gap [];
    none_cheaper = each_more (λ (g : ℕ). cost_of costs gap ≤ cost_of costs g) gap [] (omega arith) (λ g here. absurd (none_here g here));
    first = each_more (λ (g : ℕ). cost_of costs g ≡ cost_of costs gap → gap ≤ g) gap [] (λ e. omega arith) (λ g here. absurd (none_here g here));
  }

  -- of the first gap and the cheapest of the others one is the cheapest
  pub or_first : (gap best : ℕ) (gaps : List ℕ) → IsCheapestOf costs gaps best → (cost_of costs gap < cost_of costs best) ⊎ ((cost_of costs gap ≡ cost_of costs best) × (gap ≤ best)) →
      IsCheapestOf costs (gap ∷ gaps) gap
  or_first gap best gaps is before = record {
    is_one = first_is_here gap gaps;
    none_cheaper = each_more (λ (g : ℕ). cost_of costs gap ≤ cost_of costs g) gap gaps (omega arith) (λ g here. let no_less = is.none_cheaper g here in grind (arith, before));
    first = each_more (λ (g : ℕ). cost_of costs g ≡ cost_of costs gap → gap ≤ g) gap gaps (λ e. omega arith) (λ g here e. let no_less = is.none_cheaper g here in by_before g here e before);
  }
    where
      by_before : (g : ℕ) → Contains gaps g → cost_of costs g ≡ cost_of costs gap → (cost_of costs gap < cost_of costs best) ⊎ ((cost_of costs gap ≡ cost_of costs best) × (gap ≤ best)) → gap ≤ g
      by_before g here e (inl less) = let no_less = is.none_cheaper g here in absurd (omega arith)
      by_before g here e (inr both) = let same = both.0 in let up_to = both.1 in let later = is.first g here (e ∙ same) in omega arith

  pub or_later : (gap best : ℕ) (gaps : List ℕ) → IsCheapestOf costs gaps best → (cost_of costs best < cost_of costs gap) ⊎ ((cost_of costs best ≡ cost_of costs gap) × (best ≤ gap)) →
      IsCheapestOf costs (gap ∷ gaps) best
  or_later gap best gaps is before = record {
    is_one = later_is_here gap gaps best is.is_one;
    none_cheaper = each_more (λ (g : ℕ). cost_of costs best ≤ cost_of costs g) gap gaps (no_dearer before) is.none_cheaper;
    first = each_more (λ (g : ℕ). cost_of costs g ≡ cost_of costs best → best ≤ g) gap gaps (no_later before) is.first;
  }
    where
      no_dearer : (cost_of costs best < cost_of costs gap) ⊎ ((cost_of costs best ≡ cost_of costs gap) × (best ≤ gap)) → cost_of costs best ≤ cost_of costs gap
      no_dearer (inl less) = omega arith
      no_dearer (inr both) = let same = both.0 in omega arith

      no_later : (cost_of costs best < cost_of costs gap) ⊎ ((cost_of costs best ≡ cost_of costs gap) × (best ≤ gap)) → cost_of costs gap ≡ cost_of costs best → best ≤ gap
      no_later (inl less) e = absurd (omega arith)
      no_later (inr both) e = both.1

  -- some gap of a list that has any is the cheapest
  cheapest_of : (gap : ℕ) (gaps : List ℕ) → (best : ℕ) × IsCheapestOf costs (gap ∷ gaps) best
  cheapest_of gap [] = (gap, first_alone gap)
  cheapest_of gap (other ∷ gaps) =
      let (best, is) = cheapest_of other gaps in
      elim (cases_lt (cost_of costs gap) (cost_of costs best)) [
        | inl less ↦ (gap, or_first gap best (other ∷ gaps) is (inl less))
        | inr no_less ↦ elim (cases_lt (cost_of costs best) (cost_of costs gap)) [
          | inl more ↦ (best, or_later gap best (other ∷ gaps) is (inl more))
          | inr no_more ↦
              let same : cost_of costs gap ≡ cost_of costs best = omega arith in
              elim (cases_lt best gap) [
                | inl before ↦ (best, or_later gap best (other ∷ gaps) is (inr (sym same, omega arith)))
                | inr not_before ↦ (gap, or_first gap best (other ∷ gaps) is (inr (same, omega arith)))
              ]
        ]
      ]

  cheapest_where_one : (s : SetOfGaps) (gaps : List ℕ) → HasOneOf s gaps → (best : ℕ) × IsCheapestOf costs gaps best
  cheapest_where_one s [] (gap, here, there) = absurd (none_here gap here)
  cheapest_where_one s (gap ∷ gaps) has = cheapest_of gap gaps

  pub cheapest_of_each : (s : SetOfGaps) (lists : List (List ℕ)) → All (HasOneOf s) lists → (cheapest : List ℕ) × AllZip (IsCheapestOf costs) lists cheapest
  cheapest_of_each s [] meets = ([], tt)
  cheapest_of_each s (gaps ∷ lists) meets =
      let (best, is) = cheapest_where_one s gaps (All-head (HasOneOf s) gaps lists meets) in
      let (others, are) = cheapest_of_each s lists (All-tail (HasOneOf s) gaps lists meets) in
      (best ∷ others, (is, are))
