-- A bound by runs is judged run by run.
use Rattle.cert_check.proofs.Vocabulary.{◌≡◌, ◌↔◌, ℕ, Bool, true, false, List, [], ◌∷◌, Contains, All, refl, sym, ◌∙◌, subst, inl, inr, AllZip, nat_cmp, SetOfGaps, Better, Region, Question, Label, IsSplitBy, one_list_of_gaps}
use Rattle.std.specs.FinSet as set
use Rattle.std.proofs.lemmas.Bool.{cases_Bool}
use Rattle.std.proofs.lemmas.List.Elements.{All-nil, All-cons, All-head, All-tail, All-contains, All-weaker, All-contains_itself}
use Rattle.gap_sets.specs.Regions.{HasNoneOf}
use Rattle.tree_laws.specs.Packings.{IsPacking, IsCheapestOf, with_gaps}
use Rattle.tree_laws.specs.GapTrees.{IsBoundBy}
use Rattle.tree_laws.proofs.Lists.{none_here}
use Rattle.tree_laws.proofs.DecidedBounds.{one_cheapest}
use Rattle.cert_check.specs.declared.packing.Packing.{Packing}
use Rattle.cert_check.specs.Internal.Packed.{IsPackedWith, IsBoundWith}

-- what each element has
from_each : {A : Type 0} (P : A → Type 0) (xs : List A) → ((x : A) → Contains xs x → P x) → All P xs
from_each P xs each = All-weaker (Contains xs) P each xs (All-contains_itself xs)

no_true : (b : Bool) → b ≡ true → b ≡ false → ⊥
no_true b is_true is_false = let way : true ≡ false = sym is_true ∙ is_false in absurd cc

pub false_from : (b : Bool) → (b ≡ true → ⊥) → b ≡ false
false_from true not = absurd (not refl)
false_from false not = refl

module _ (q : Question) (costs : List ℕ) (answer : SetOfGaps) (runs : List (List Label)) (region : Region) where
  abbrev Bound : List ℕ → Type 0
  Bound numbers = IsBoundBy q costs answer runs region numbers

  abbrev With : Packing → List ℕ → Type 0
  With packing numbers = IsBoundWith q costs answer runs region packing numbers

  -- no run is packed
  pub none_packed : (gaps : SetOfGaps) → gaps ≡ set.empty → (numbers : List ℕ) → Bound numbers ↔ With (record { least = region.must; gaps = gaps; has_none = false }) numbers
  none_packed gaps empty numbers = (
    (λ bound. record { gaps = bound.gaps; each = bound.each; apart = bound.apart; beside = from_each (HasNoneOf gaps) bound.gaps (λ list here gap there. free gap); not_better = λ e. bound.not_better }),
    (λ bound. record { gaps = bound.gaps; each = bound.each; apart = bound.apart; not_better = bound.not_better refl }),
  )
    where
      free : (gap : ℕ) → set.contains gaps gap ≡ false
      free gap = subst (λ (s : SetOfGaps). set.contains s gap ≡ false) (sym empty) (set.contains-empty nat_cmp gap)

  -- a run that doesn't split the region
  pub no_run_more : (packing : Packing) (number : ℕ) (left : List ℕ) → ((gaps : List ℕ) → ¬ IsSplitBy q runs region number gaps) → ¬ With packing (number ∷ left)
  no_run_more packing number left none bound = by_lists bound.gaps bound.each
    where
      by_lists : (lists : List (List ℕ)) → AllZip (IsSplitBy q runs region) (number ∷ left) lists → ⊥
      by_lists [] each = each
      by_lists (gaps ∷ lists) each = none gaps each.0

  module _ (packing : Packing) (number : ℕ) (left gaps : List ℕ) (split : IsSplitBy q runs region number gaps) where
    -- a run with a packed gap
    pub meets_packed : (gap : ℕ) → Contains gaps gap → set.contains packing.gaps gap ≡ true → ¬ With packing (number ∷ left)
    meets_packed gap here there bound = by_lists bound.gaps bound.each bound.beside
      where
        by_lists : (lists : List (List ℕ)) → AllZip (IsSplitBy q runs region) (number ∷ left) lists → All (HasNoneOf packing.gaps) lists → ⊥
        by_lists [] each beside = each
        by_lists (others ∷ lists) each beside =
            let same = one_list_of_gaps q runs region number gaps others split each.0 in
            no_true (set.contains packing.gaps gap) there (All-head (HasNoneOf packing.gaps) others lists beside gap (subst (λ (gs : List ℕ). Contains gs gap) same here))

    module _ (new : Packing) (is : IsPackedWith costs packing gaps new) where
      -- the others, where a bound begins with this run
      others_bound : With packing (number ∷ left) → With new left
      others_bound bound = by_lists bound.gaps bound.each bound.apart bound.beside bound.not_better
        where
          by_lists : (lists : List (List ℕ)) → AllZip (IsSplitBy q runs region) (number ∷ left) lists → IsPacking lists → All (HasNoneOf packing.gaps) lists →
              (packing.has_none ≡ false → (cheapest : List ℕ) → AllZip (IsCheapestOf costs) lists cheapest → ¬ Better costs (with_gaps packing.least cheapest) answer) → With new left
          by_lists [] each apart beside not_better = absurd each
          by_lists (first ∷ lists) each apart beside not_better = record {
            gaps = lists;
            each = each.1;
            apart = apart.1;
            beside = from_each (HasNoneOf new.gaps) lists none;
            not_better = λ some cheapest are. (let (still, (gap, best, least)) = is.cheapest some in
                subst (λ (s : SetOfGaps). ¬ Better costs (with_gaps s cheapest) answer) (sym least) (not_better still (gap ∷ cheapest) (subst (λ (gs : List ℕ). IsCheapestOf costs gs gap) same best, are)));
          }
            where
              same : gaps ≡ first
              same = one_list_of_gaps q runs region number gaps first split each.0

              none : (list : List ℕ) → Contains lists list → HasNoneOf new.gaps list
              none list here gap there = false_from (set.contains new.gaps gap) (λ packed. elim ((is.packed gap).0 packed) [
                | inl old ↦ no_true (set.contains packing.gaps gap) old (All-contains (HasNoneOf packing.gaps) lists list (All-tail (HasNoneOf packing.gaps) first lists beside) here gap there)
                | inr now ↦ All-contains (λ (other : List ℕ). ¬ Contains other gap) lists list (apart.0 gap (subst (λ (gs : List ℕ). Contains gs gap) same now)) here there
              ])

      -- and back, where this run has no packed gap
      with_others : HasNoneOf packing.gaps gaps → With new left → With packing (number ∷ left)
      with_others free bound = record {
        gaps = gaps ∷ bound.gaps;
        each = (split, bound.each);
        apart = (
          λ gap here. from_each (λ (other : List ℕ). ¬ Contains other gap) bound.gaps (λ list in_lists there.
              no_true (set.contains new.gaps gap) ((is.packed gap).1 (inr here)) (All-contains (HasNoneOf new.gaps) bound.gaps list bound.beside in_lists gap there)),
          bound.apart,
        );
        beside = All-cons (HasNoneOf packing.gaps) gaps bound.gaps free (from_each (HasNoneOf packing.gaps) bound.gaps (λ list in_lists gap there.
            false_from (set.contains packing.gaps gap) (λ old. no_true (set.contains new.gaps gap) ((is.packed gap).1 (inl old)) (All-contains (HasNoneOf new.gaps) bound.gaps list bound.beside in_lists gap there))));
        not_better = by_cheapest;
      }
        where
          by_cheapest : packing.has_none ≡ false → (cheapest : List ℕ) → AllZip (IsCheapestOf costs) (gaps ∷ bound.gaps) cheapest → ¬ Better costs (with_gaps packing.least cheapest) answer
          by_cheapest some [] are better = are
          by_cheapest some (gap ∷ cheapest) (best, are) better = elim (cases_Bool new.has_none) [
            | inl none ↦ elim (is.none none) [
              | inl old ↦ no_true packing.has_none old some
              | inr empty ↦ none_here gap (subst (λ (gs : List ℕ). Contains gs gap) empty best.is_one)
            ]
            | inr still ↦
                let (old, (other, best_too, least)) = is.cheapest still in
                let same : other ≡ gap = one_cheapest costs gaps other gap best_too best in
                bound.not_better still cheapest are (subst (λ (s : SetOfGaps). Better costs (with_gaps s cheapest) answer) (sym least) (subst (λ (g : ℕ). Better costs (with_gaps (set.insert packing.least g) cheapest) answer) (sym same) better))
          ]

      pub one_run_more : HasNoneOf packing.gaps gaps → With packing (number ∷ left) ↔ With new left
      one_run_more free = (others_bound, with_others free)

  -- no run is left
  pub all_packed : (packing : Packing) → With packing [] ↔ (packing.has_none ≡ false → ¬ Better costs packing.least answer)
  all_packed packing = (
    (λ bound some. bound.not_better some [] (subst (λ (lists : List (List ℕ)). AllZip (IsCheapestOf costs) lists []) (sym (no_lists bound.gaps bound.each)) tt)),
    (λ not_better. record { gaps = []; each = tt; apart = tt; beside = All-nil (HasNoneOf packing.gaps); not_better = still not_better }),
  )
    where
      no_lists : (lists : List (List ℕ)) → AllZip (IsSplitBy q runs region) [] lists → lists ≡ []
      no_lists [] each = refl
      no_lists (gaps ∷ lists) each = absurd each

      still : (packing.has_none ≡ false → ¬ Better costs packing.least answer) → packing.has_none ≡ false → (cheapest : List ℕ) → AllZip (IsCheapestOf costs) [] cheapest → ¬ Better costs (with_gaps packing.least cheapest) answer
      still not_better some [] are better = not_better some better
      still not_better some (gap ∷ gaps) are better = are
