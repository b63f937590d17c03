-- The entries that a cost file has: one for each tie.
use Rattle.gap_list.proofs.Vocabulary.{◌≡◌, ◌≢◌, ◌==◌, ◌||◌, ◌+◌, ◌<◌, ◌≤◌, ℕ, zero, suc, Bool, true, false, List, [], ◌∷◌, ◌++◌, length, get_or, map, nat_cmp, Option, Some, refl, sym, ap, ◌∙◌, subst, arith, inl, inr, unwrap_or, filter, range_with_len, list_all, option_map, option_map_or, unwrap_or-slice_get}
use Rattle.gap_list.proofs.Vocabulary.{Entry, NoGapTwice, entry_of, gaps_of, least_of, name_said, costs_of, ties_of, as_read, cost_read}
use Rattle.std.specs.FinSet as set
use Rattle.std.proofs.lemmas.Bool.{cases_Bool, cases_lt, eq-eqb, eqb-true, lt-ltb, ltb-true, or_cases, or_right}
use Rattle.std.proofs.lemmas.List.Folds.{list_any-append, list_any_at}
use Rattle.std.proofs.lemmas.List.FromFn.{fill_by_all, length-range_with_len, get_or-range_with_len, length-map-range_with_len, get_or-map-range_with_len}
use Rattle.std.proofs.lemmas.List.Kept.{AllPairs-cons, AllPairs-filter}
use Rattle.gap_sets.specs.Gaps.{SetOfGaps}
unfoldable use Rattle.gap_sets.specs.Gaps.{numbers_of_set}
use Rattle.gap_sets.specs.CostLists.{IsCostList}
use Rattle.gap_sets.specs.Order.{cost_of}
use Rattle.gap_sets.specs.Ties.{AreTies, name_of, spread}
use Rattle.gap_sets.specs.declared.gap_set.TheConstants.{MAX_GAPS}
use Rattle.gap_sets.specs.declared.ties.TiedCosts.{TiedCosts}
use Rattle.gap_sets.proofs.{Spreading.spread_contains, Spreading.no_greater, Allowed.named_by_itself}
use Rattle.tso_program.specs.declared.listing.Thread.{Thread}
use Rattle.tso_program.specs.Listings.{gap_count}
use Rattle.cost_text.proofs.Once.{NoneTwice, has, apart, back, itself, least_below, least_there}
use Rattle.cost_text.proofs.Kept.{all_alike}
use Rattle.gap_list.proofs.SpelledPlaces.{is_gap}

-- ---- lists of numbers

has_filter : (p : ℕ → Bool) (xs : List ℕ) (k : ℕ) → has (filter p xs) k ≡ true → (p k ≡ true) × (has xs k ≡ true)
has_filter p [] k there = absurd cc
has_filter p (x ∷ xs) k there = elim (cases_Bool (p x)) [
  | inl passes ↦ elim (or_cases (x == k) (has (filter p xs) k) (rw passes at there)) [
    | inl same ↦ (ap p (sym (eqb-true x k same)) ∙ passes, ap (λ (v : Bool). v || has xs k) same)
    | inr later ↦ let both = has_filter p xs k later in (both.0, or_right (x == k) (has xs k) both.1)
  ]
  | inr fails ↦ let both = has_filter p xs k (rw fails at there) in (both.0, or_right (x == k) (has xs k) both.1)
]

filter_has : (p : ℕ → Bool) (xs : List ℕ) (k : ℕ) → p k ≡ true → has xs k ≡ true → has (filter p xs) k ≡ true
filter_has p [] k passes there = there
filter_has p (x ∷ xs) k passes there = elim (or_cases (x == k) (has xs k) there) [
  | inl same ↦ let here : p x ≡ true = ap p (eqb-true x k same) ∙ passes in rw (here, same) refl
  | inr later ↦
      let kept = filter_has p xs k passes later in
      elim (cases_Bool (p x)) [ inl here ↦ rw here (or_right (x == k) (has (filter p xs) k) kept) | inr fails ↦ rw fails kept ]
]

in_range : (a n k : ℕ) → a ≤ k → k < a + n → has (range_with_len a n) k ≡ true
in_range a zero k low high = absurd (omega (arith, low, high))
in_range a (suc n) k low high = elim (cases_lt a k) [
  | inl less ↦ or_right (a == k) (has (range_with_len (a + 1) n) k) (in_range (a + 1) n k (omega (arith, less)) (omega (arith, high)))
  | inr not_less ↦ ap (λ (v : Bool). v || has (range_with_len (a + 1) n) k) (eq-eqb a k (omega (arith, low, not_less)))
]

range_once : (n : ℕ) → NoneTwice (range_with_len 0 n)
range_once n i j d lt within same =
    let short : j < n = omega (arith, within, length-range_with_len 0 n) in
    let shorter : i < n = omega (arith, lt, short) in
    absurd (omega (arith, lt, same, get_or-range_with_len 0 n i d shorter, get_or-range_with_len 0 n j d short))

-- lists that have no number in common
joined : (xs ys : List ℕ) → NoneTwice xs → NoneTwice ys → ((k : ℕ) → has xs k ≡ true → has ys k ≡ true → ⊥) → NoneTwice (xs ++ ys)
joined [] ys once others apart_from = others
joined (x ∷ xs) ys once others apart_from =
    AllPairs-cons (λ a b. a ≢ b) x (xs ++ ys)
    (λ k d lt same.
    let there : has (xs ++ ys) x ≡ true = list_any_at (λ other. other == x) (xs ++ ys) k d lt (eq-eqb (get_or (xs ++ ys) k d) x (sym same)) in
    elim (or_cases (has xs x) (has ys x) (sym (list_any-append (λ other. other == x) xs ys) ∙ there)) [
      | inl mine ↦ apart (x ∷ []) xs x once (itself x []) mine
      | inr yours ↦ apart_from x (itself x xs) yours
    ])
    (joined xs ys (back (x ∷ []) xs once) others (λ k here there. apart_from k (or_right (x == k) (has xs k) here) there))

-- ---- ties

module _ (threads : List Thread) (costs : TiedCosts) (few : gap_count threads ≤ MAX_GAPS) (are : AreTies costs.ties) (one_each : length costs.costs ≡ gap_count threads) (within : IsCostList costs.costs) where
  -- the gaps that a name stands for
  abbrev pub tie_set : ℕ → SetOfGaps
  tie_set name = spread costs.ties (set.insert set.empty name)

  abbrev pub tie : ℕ → List ℕ
  tie name = filter (is_gap threads) (numbers_of_set (tie_set name))

  abbrev pub entry_at : ℕ → Entry
  entry_at name = record { gaps = tie name; cost = cost_of costs.costs name }

  -- whether a gap is its own name
  abbrev pub is_name : ℕ → Bool
  is_name gap = name_of costs.ties gap == gap

  -- the entries of the names among some gaps
  abbrev pub entries_at : List ℕ → List Entry
  entries_at gaps = map entry_at (filter is_name gaps)

  single : (name gap : ℕ) → set.contains {R = nat_cmp} (set.insert set.empty name) gap ≡ (name == gap)
  single name gap = set.contains-from_list_nat (name ∷ []) gap ∙ last (name == gap)
    where
      last : (v : Bool) → (v || false) ≡ v
      last true = refl
      last false = refl

  in_set : (name gap : ℕ) → set.contains (tie_set name) gap ≡ (name == name_of costs.ties gap)
  in_set name gap = spread_contains costs.ties (set.insert set.empty name) gap ∙ single name (name_of costs.ties gap)

  -- a gap is in the tie of its name alone
  in_tie : (name gap : ℕ) → has (tie name) gap ≡ true → (name ≡ name_of costs.ties gap) × (gap < gap_count threads)
  unfolding numbers_of_set
  in_tie name gap there =
      let one = has_filter (is_gap threads) (numbers_of_set (tie_set name)) gap there in
      let two = has_filter (set.contains (tie_set name)) (range_with_len 0 MAX_GAPS) gap one.1 in
      (eqb-true name (name_of costs.ties gap) (sym (in_set name gap) ∙ two.0), ltb-true gap (gap_count threads) one.0)

  tie_has : (name gap : ℕ) → name ≡ name_of costs.ties gap → gap < gap_count threads → has (tie name) gap ≡ true
  unfolding numbers_of_set
  tie_has name gap same below =
      filter_has (is_gap threads) (numbers_of_set (tie_set name)) gap (lt-ltb gap (gap_count threads) below)
      (filter_has (set.contains (tie_set name)) (range_with_len 0 MAX_GAPS) gap (in_set name gap ∙ eq-eqb name (name_of costs.ties gap) same) (in_range 0 MAX_GAPS gap (omega arith) (omega (arith, few, below))))

  pub tie_has_name : (name : ℕ) → is_name name ≡ true → name < gap_count threads → has (tie name) name ≡ true
  tie_has_name name own below = tie_has name name (sym (eqb-true (name_of costs.ties name) name own)) below

  tie_once : (name : ℕ) → NoneTwice (tie name)
  unfolding numbers_of_set
  tie_once name =
      AllPairs-filter (λ a b. a ≢ b) (is_gap threads) (numbers_of_set (tie_set name)) (AllPairs-filter (λ a b. a ≢ b) (set.contains (tie_set name)) (range_with_len 0 MAX_GAPS) (range_once MAX_GAPS))

  -- ---- no gap twice

  of_names : (names : List ℕ) (gap : ℕ) → has (gaps_of (map entry_at names)) gap ≡ true → has names (name_of costs.ties gap) ≡ true
  of_names [] gap there = absurd cc
  of_names (name ∷ names) gap there =
      elim (or_cases (has (tie name) gap) (has (gaps_of (map entry_at names)) gap) (sym (list_any-append (λ other. other == gap) (tie name) (gaps_of (map entry_at names))) ∙ there)) [
        | inl here ↦ ap (λ (v : Bool). v || has names (name_of costs.ties gap)) (eq-eqb name (name_of costs.ties gap) (in_tie name gap here).0)
        | inr later ↦ or_right (name == name_of costs.ties gap) (has names (name_of costs.ties gap)) (of_names names gap later)
      ]

  once_each : (names : List ℕ) → NoneTwice names → NoGapTwice (map entry_at names)
  once_each [] once = λ i j d lt within. absurd (omega (arith, within))
  once_each (name ∷ names) once =
      joined (tie name) (gaps_of (map entry_at names)) (tie_once name) (once_each names (back (name ∷ []) names once))
      (λ gap here there.
      let mine : name ≡ name_of costs.ties gap = (in_tie name gap here).0 in
      let yours : has names name ≡ true = ap (has names) mine ∙ of_names names gap there in
      apart (name ∷ []) names name once (itself name []) yours)

  pub once : NoGapTwice (entries_at (range_with_len 0 (gap_count threads)))
  once = once_each (filter is_name (range_with_len 0 (gap_count threads))) (AllPairs-filter (λ a b. a ≢ b) is_name (range_with_len 0 (gap_count threads)) (range_once (gap_count threads)))

  -- ---- what the entries say

  found_among : (names : List ℕ) (gap : ℕ) → gap < gap_count threads → has names (name_of costs.ties gap) ≡ true → entry_of (map entry_at names) gap ≡ Some (entry_at (name_of costs.ties gap))
  found_among [] gap below there = absurd cc
  found_among (name ∷ names) gap below there = elim (cases_Bool (has (tie name) gap)) [
    | inl here ↦ rw here (ap (λ (n : ℕ). Some (entry_at n)) (in_tie name gap here).0)
    | inr other ↦ elim (or_cases (name == name_of costs.ties gap) (has names (name_of costs.ties gap)) there) [
      | inl same ↦ let bad = sym other ∙ tie_has name gap (eqb-true name (name_of costs.ties gap) same) below in absurd cc
      | inr later ↦ rw other (found_among names gap below later)
    ]
  ]

  name_small : (gap : ℕ) → gap < gap_count threads → name_of costs.ties gap < gap_count threads
  name_small gap below = omega (arith, below, no_greater costs.ties gap)

  own_name : (gap : ℕ) → is_name (name_of costs.ties gap) ≡ true
  own_name gap = eq-eqb (name_of costs.ties (name_of costs.ties gap)) (name_of costs.ties gap) (named_by_itself costs.ties are gap)

  found : (gap : ℕ) → gap < gap_count threads → entry_of (entries_at (range_with_len 0 (gap_count threads))) gap ≡ Some (entry_at (name_of costs.ties gap))
  found gap below =
      found_among (filter is_name (range_with_len 0 (gap_count threads))) gap below
      (filter_has is_name (range_with_len 0 (gap_count threads)) (name_of costs.ties gap) (own_name gap) (in_range 0 (gap_count threads) (name_of costs.ties gap) (omega arith) (omega (arith, name_small gap below))))

  pub costs_are : (as_read (gap_count threads) costs).costs ≡ costs_of (gap_count threads) (entries_at (range_with_len 0 (gap_count threads)))
  costs_are =
      fill_by_all (λ gap. unwrap_or (option_map (λ (e : Entry). e.cost) (entry_of (entries_at (range_with_len 0 (gap_count threads))) gap)) 1) (map (cost_read costs) (range_with_len 0 (gap_count threads))) (gap_count threads) 0
      (length-map-range_with_len (cost_read costs) 0 (gap_count threads))
      (λ k lt. get_or-map-range_with_len (cost_read costs) 0 (gap_count threads) k k 0 lt (omega arith)
      ∙ ap (λ (o : Option Entry). unwrap_or (option_map (λ (e : Entry). e.cost) o) 1) (sym (found k lt)))

  -- the least gap of a tie is its name
  least_is_name : (gap : ℕ) → gap < gap_count threads → least_of (tie (name_of costs.ties gap)) gap ≡ name_of costs.ties gap
  least_is_name gap below =
      let name = name_of costs.ties gap in
      let mine : has (tie name) gap ≡ true = tie_has name gap refl below in
      let own : has (tie name) name ≡ true = tie_has_name name (own_name gap) (name_small gap below) in
      let least : has (tie name) (least_of (tie name) gap) ≡ true = least_there (tie name) gap gap mine (omega arith) in
      let one : least_of (tie name) gap ≤ name = least_below (tie name) gap name own in
      let of_least : name ≡ name_of costs.ties (least_of (tie name) gap) = (in_tie name (least_of (tie name) gap) least).0 in
      let two : name ≤ least_of (tie name) gap = omega (arith, of_least, no_greater costs.ties (least_of (tie name) gap)) in
      omega (arith, one, two)

  named : (gap : ℕ) → gap < gap_count threads → name_said (entries_at (range_with_len 0 (gap_count threads))) gap ≡ name_of costs.ties gap
  named gap below = ap (λ (o : Option Entry). option_map_or (λ (e : Entry). least_of e.gaps gap) o gap) (found gap below) ∙ least_is_name gap below

  pub ties_are : (as_read (gap_count threads) costs).ties ≡ ties_of (gap_count threads) (entries_at (range_with_len 0 (gap_count threads)))
  ties_are =
      let names : map (name_of costs.ties) (range_with_len 0 (gap_count threads)) ≡ map (name_said (entries_at (range_with_len 0 (gap_count threads)))) (range_with_len 0 (gap_count threads)) =
      fill_by_all (name_said (entries_at (range_with_len 0 (gap_count threads)))) (map (name_of costs.ties) (range_with_len 0 (gap_count threads))) (gap_count threads) 0 (length-map-range_with_len (name_of costs.ties) 0 (gap_count threads))
      (λ k lt. get_or-map-range_with_len (name_of costs.ties) 0 (gap_count threads) k k 0 lt (omega arith) ∙ sym (named k lt)) in
      let own : list_all (λ gap. name_of costs.ties gap == gap) (range_with_len 0 (gap_count threads)) ≡ list_all (λ gap. name_said (entries_at (range_with_len 0 (gap_count threads))) gap == gap) (range_with_len 0 (gap_count threads)) =
      all_alike (λ gap. name_of costs.ties gap == gap) (λ gap. name_said (entries_at (range_with_len 0 (gap_count threads))) gap == gap) 0 (gap_count threads) (λ k lt. ap (λ (n : ℕ). n == k) (sym (named k (omega (arith, lt))))) in
      rw (own, names) refl

  -- they are within the limits
  pub costs_within : IsCostList (as_read (gap_count threads) costs).costs
  costs_within = record {
    few = omega (arith, few, length-map-range_with_len (cost_read costs) 0 (gap_count threads));
    each = λ k d lt.
        let below : k < gap_count threads = omega (arith, lt, length-map-range_with_len (cost_read costs) 0 (gap_count threads)) in
        let name : name_of costs.ties k < length costs.costs = omega (arith, one_each, name_small k below) in
        let is : get_or (map (cost_read costs) (range_with_len 0 (gap_count threads))) k d ≡ get_or costs.costs (name_of costs.ties k) 0 =
        get_or-map-range_with_len (cost_read costs) 0 (gap_count threads) k k d below (omega arith) ∙ unwrap_or-slice_get costs.costs (name_of costs.ties k) 0 in
        subst (λ (c : ℕ). (1 ≤ c) × (c ≤ 1000000)) (sym is) (within.each (name_of costs.ties k) 0 name);
  }
