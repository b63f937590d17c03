-- Of the sets that hold `must` and have a gap of each list of a packing, `must` with the cheapest gap of each is the best.
use Rattle.std.proofs.Common.{sum_by}
use Rattle.std.proofs.lemmas.List.Sums.{sum_by-cons}
use Rattle.tree_laws.proofs.Vocabulary.{◌≡◌, ◌≢◌, ◌⊎◌, ℕ, ◌+◌, ◌<◌, ◌≤◌, true, false, List, [], ◌∷◌, length, Contains, sym, ap, ◌∙◌, subst, inl, inr, arith, All-contains, cases_Bool, SetOfGaps, Better, HasNoneOf, MAX_GAPS}
use Rattle.std.specs.Prelude.{All}
use Rattle.std.proofs.lemmas.Bool.Decides.{eqb_tells}
use Rattle.std.proofs.lemmas.List.Elements.{All-head, All-tail}
use Rattle.std.specs.List.{AllZip}
use Rattle.std.specs.FinSet as set
use Rattle.gap_sets.specs.Order.{cost_of, total}
use Rattle.tree_laws.specs.Packings.{IsPacking, IsCheapestOf, with_gaps, HasOneOf, MeetsEach}
use Rattle.tree_laws.specs.Laws.{TheCheapestOfEachAreTheBest, EachCostsAtLeastTheSum}
use Rattle.tree_laws.proofs.{BetterSets.no_worse, BetterSets.better_still, MovedGaps.one_more, MovedGaps.put_in, MovedGaps.put_in_beside, MovedGaps.in_place_of, MovedGaps.in_place, MovedGaps.beside_both, MovedGaps.better_in_place}

-- gaps of which one is in a list and the other is not
apart : (gaps : List ℕ) (g h : ℕ) → Contains gaps g → ¬ Contains gaps h → g ≢ h
apart gaps g h here not_here e = not_here (subst (Contains gaps) e here)

unlike : (s : SetOfGaps) (g h : ℕ) → set.contains s g ≡ true → set.contains s h ≡ false → g ≢ h
unlike s g h there missing e = let no : true ≡ false = sym there ∙ ap (set.contains s) e ∙ missing in cc

module _ (costs : List ℕ) (gaps : List ℕ) (lists : List (List ℕ)) (t : ℕ) (here : Contains gaps t) (others : (gap : ℕ) → Contains gaps gap → All (λ other. ¬ Contains other gap) lists) where
  -- what has no gap of the other lists has none of them with this gap either
  still_beside : (must : SetOfGaps) → All (HasNoneOf must) lists → All (HasNoneOf (set.insert must t)) lists
  still_beside must beside k d h gap there = put_in_beside must t gap (λ e. others t here k d h (subst (Contains _) e there)) ∙ beside k d h gap there

  -- the set has the gap already
  there_already : (must s : SetOfGaps) → set.contains s t ≡ true → ((gap : ℕ) → set.contains must gap ≡ true → set.contains s gap ≡ true) →
      (gap : ℕ) → set.contains (set.insert must t) gap ≡ true → set.contains s gap ≡ true
  there_already must s has holds gap there = elim (eqb_tells gap t) [
    | inl same ↦ subst (λ (g : ℕ). set.contains s g ≡ true) (sym same.1) has
    | inr differ ↦ holds gap (sym (put_in_beside must t gap differ.1) ∙ there)
  ]

  -- or has it in place of another of the first list
  module _ (must s : SetOfGaps) (g : ℕ) (g_here : Contains gaps g) where
    held_in_place : HasNoneOf must gaps → ((gap : ℕ) → set.contains must gap ≡ true → set.contains s gap ≡ true) →
        (gap : ℕ) → set.contains (set.insert must t) gap ≡ true → set.contains (in_place_of s g t) gap ≡ true
    held_in_place none holds gap there = elim (eqb_tells gap t) [
      | inl same ↦ subst (λ (g' : ℕ). set.contains (in_place_of s g t) g' ≡ true) (sym same.1) (in_place s g t)
      | inr differ ↦ (let old : set.contains must gap ≡ true = sym (put_in_beside must t gap differ.1) ∙ there in
          beside_both s g t gap (unlike must gap g old (none g g_here)) differ.1 ∙ holds gap old)
    ]

    met_in_place : All (HasOneOf s) lists → All (HasOneOf (in_place_of s g t)) lists
    met_in_place meets k d h =
        let (one, there, has) = meets k d h in
        (one, there, beside_both s g t one (apart _ one g there (others g g_here k d h)) (apart _ one t there (others t here k d h)) ∙ has)

    below_in_place : (n : ℕ) → t < n → set.contains s g ≡ true → ((gap : ℕ) → set.contains s gap ≡ true → gap < n) → (gap : ℕ) → set.contains (in_place_of s g t) gap ≡ true → gap < n
    below_in_place n low has below gap there = elim (eqb_tells gap t) [
      | inl same ↦ (let is = same.1 in omega arith)
      | inr differ ↦ elim (eqb_tells gap g) [
        | inl old ↦ below gap (subst (λ (h : ℕ). set.contains s h ≡ true) (sym old.1) has)
        | inr neither ↦ below gap (sym (beside_both s g t gap neither.1 differ.1) ∙ there)
      ]
    ]

module _ (costs : List ℕ) (few : length costs ≤ MAX_GAPS) (positive : All (λ cost. 1 ≤ cost) costs) where
  best : (lists : List (List ℕ)) (cheapest : List ℕ) (must s : SetOfGaps) →
      All (All (λ gap. gap < length costs)) lists → IsPacking lists → MeetsEach costs must lists s → AllZip (IsCheapestOf costs) lists cheapest →
      (with_gaps must cheapest ≡ s) ⊎ Better costs (with_gaps must cheapest) s
  best [] [] must s each packing meets picked = no_worse costs must s few positive meets.have_costs meets.holds
  best (gaps ∷ lists) (t ∷ cheapest) must s each (others, packing) meets (is_cheapest, picked) =
      let here : Contains gaps t = is_cheapest.is_one in
      let low : t < length costs = All-contains (λ gap. gap < length costs) gaps t (All-head (All (λ gap. gap < length costs)) gaps lists each) here in
      let each_later = All-tail (All (λ gap. gap < length costs)) gaps lists each in
      let beside = All-tail (HasNoneOf must) gaps lists meets.beside in
      let none : HasNoneOf must gaps = All-head (HasNoneOf must) gaps lists meets.beside in
      let later = All-tail (HasOneOf s) gaps lists meets.meets in
      let (g, g_here, has) = All-head (HasOneOf s) gaps lists meets.meets in
      elim (cases_Bool (set.contains s t)) [
        | inl there ↦ best lists cheapest (set.insert must t) s each_later packing (record {
          have_costs = meets.have_costs;
          holds = there_already costs gaps lists t here others must s there meets.holds;
          beside = still_beside costs gaps lists t here others must beside;
          meets = later;
        }) picked
        | inr missing ↦
            let swapped : SetOfGaps = in_place_of s g t in
            let rest = best lists cheapest (set.insert must t) swapped each_later packing (record {
              have_costs = below_in_place costs gaps lists t here others must s g g_here (length costs) low has meets.have_costs;
              holds = held_in_place costs gaps lists t here others must s g g_here none meets.holds;
              beside = still_beside costs gaps lists t here others must beside;
              meets = met_in_place costs gaps lists t here others must s g g_here later;
            }) picked in
            inr (better_still costs (with_gaps (set.insert must t) cheapest) swapped s rest
            (better_in_place costs s g t has missing (omega (arith, meets.have_costs g has)) (omega arith) (is_cheapest.none_cheaper g g_here) (λ same. is_cheapest.first g g_here same)))
      ]
  best lists cheapest must s each packing meets picked = absurd picked

  -- a list's gap is not in `must`, so it adds its cost
  sums : (lists : List (List ℕ)) (cheapest : List ℕ) (must : SetOfGaps) → All (All (λ gap. gap < length costs)) lists → IsPacking lists → All (HasNoneOf must) lists →
      AllZip (IsCheapestOf costs) lists cheapest → total costs must + sum_by (cost_of costs) cheapest ≡ total costs (with_gaps must cheapest)
  sums [] [] must each packing beside picked = omega arith
  sums (gaps ∷ lists) (t ∷ cheapest) must each (others, packing) beside (is_cheapest, picked) =
      let here : Contains gaps t = is_cheapest.is_one in
      let low : t < length costs = All-contains (λ gap. gap < length costs) gaps t (All-head (All (λ gap. gap < length costs)) gaps lists each) here in
      let more = one_more costs must (set.insert must t) t (λ q differ. sym (put_in_beside must t q differ)) (omega arith) (All-head (HasNoneOf must) gaps lists beside t here) (put_in must t) in
      let rest = sums lists cheapest (set.insert must t) (All-tail (All (λ gap. gap < length costs)) gaps lists each) packing
      (still_beside costs gaps lists t here others must (All-tail (HasNoneOf must) gaps lists beside)) picked in
      omega (arith, sum_by-cons (cost_of costs) t cheapest)
  sums lists cheapest must each packing beside picked = absurd picked

pub the_best_of_each : TheCheapestOfEachAreTheBest
the_best_of_each costs must other lists cheapest have packing meets picked = best costs have.few have.positive lists cheapest must other have.each packing meets picked

pub at_least_the_sum : EachCostsAtLeastTheSum
at_least_the_sum costs must other lists cheapest have packing meets picked =
    let sum = sums costs have.few have.positive lists cheapest must have.each packing meets.beside picked in
    elim (the_best_of_each costs must other lists cheapest have packing meets picked) [
      | inl same ↦ (let alike : total costs (with_gaps must cheapest) ≡ total costs other = ap (total costs) same in omega arith)
      | inr (inl cheaper) ↦ omega arith
      | inr (inr as_cheap) ↦ (let alike = as_cheap.0 in omega arith)
    ]
