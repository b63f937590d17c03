-- Gaps cost no more than their names, where each name costs as much as its gaps.
use Rattle.gap_sets.proofs.Vocabulary.{◌≡◌, ◌≢◌, ℕ, zero, suc, ◌+◌, ◌<◌, ◌≤◌, ◌⊎◌, inl, inr, Bool, true, false, not, ◌&&◌, ◌||◌, List, [], ◌∷◌, cond, nat_eq, nat_lt, sum_by, refl, sym, ap, ◌∙◌, arith, eqb-true, eqb_tells, nat_tests}
use Rattle.gap_sets.proofs.Vocabulary.{SetOfGaps, numbers_of_set, total, cost_of, filter, range_with_len, these, MAX_GAPS}
use Rattle.std.proofs.lemmas.Bool.{and_from, and_parts}
use Rattle.std.specs.FinSet as set
use Rattle.gap_sets.specs.Ties.{name_of, spread}
use Rattle.gap_sets.specs.TieLaws.{GapsCostNoMoreThanTheirNames}
use Rattle.gap_sets.proofs.{Ranges.sum-cond, Ranges.sum-le, Spreading.no_greater, Spreading.spread_contains}

-- a term that is taken by one test is taken by one of two others
by_either : (v w u : Bool) (x : ℕ) → (v ≡ true → (w ≡ true) ⊎ (u ≡ true)) → cond v x 0 ≤ cond w x 0 + cond u x 0
by_either true w u x h = elim (h refl) [
  | inl first ↦ (let is : cond w x 0 ≡ x = ap (λ t. cond t x 0) first in omega (arith, is))
  | inr second ↦ (let is : cond u x 0 ≡ x = ap (λ t. cond t x 0) second in omega (arith, is))
]
by_either false w u x h = omega arith

-- so the sum is at most theirs
split_sum : (f : ℕ → ℕ) (p r t : ℕ → Bool) (a n : ℕ) → ((q : ℕ) → p q ≡ true → (r q ≡ true) ⊎ (t q ≡ true)) →
    sum_by f (filter p (range_with_len a n)) ≤ sum_by f (filter r (range_with_len a n)) + sum_by f (filter t (range_with_len a n))
split_sum f p r t a zero each = omega arith
split_sum f p r t a (suc n) each =
    let rest = split_sum f p r t (a + 1) n each in
    let here = by_either (p a) (r a) (t a) (f a) (each a) in
    let whole = sum-cond f (p a) a (filter p (range_with_len (a + 1) n)) in
    let first = sum-cond f (r a) a (filter r (range_with_len (a + 1) n)) in
    let second = sum-cond f (t a) a (filter t (range_with_len (a + 1) n)) in
    omega arith

-- a test that none passes
none_sum : (f : ℕ → ℕ) (p : ℕ → Bool) (a n : ℕ) → ((q : ℕ) → q < a + n → p q ≡ false) → sum_by f (filter p (range_with_len a n)) ≡ 0
none_sum f p a zero none = omega arith
none_sum f p a (suc n) none =
    let rest = none_sum f p (a + 1) n (λ q low. none q (omega (arith, low))) in
    let here : cond (p a) (f a) 0 ≡ 0 = ap (λ t. cond t (f a) 0) (none a (omega arith)) in
    let whole = sum-cond f (p a) a (filter p (range_with_len (a + 1) n)) in
    omega arith

fails : (v w : Bool) → w ≡ true → (v && not w) ≡ false
fails true w e = ap not e
fails false w e = refl

later : (name a : ℕ) → not (nat_lt name a) ≡ true → name ≢ a → not (nat_lt name (a + 1)) ≡ true
later name a low differs = grind (arith, nat_tests)

below : (name a : ℕ) → name < a → nat_lt name a ≡ true
below name a less = grind (arith, nat_tests)

not_below : (name : ℕ) → not (nat_lt name 0) ≡ true
not_below name = grind (arith, nat_tests)

found_alone : (a : ℕ) → (nat_eq a a || false) ≡ true
found_alone a = let one : nat_eq a a ≡ true = grind (arith, nat_tests) in rw one refl

module _ (ties costs tied : List ℕ) (names : SetOfGaps) (each : (name : ℕ) → set.contains names name ≡ true → total costs (spread ties (these (name ∷ []))) ≤ cost_of tied name) where
  -- the gap's name is one of the names, and no less than this
  abbrev from_name : ℕ → ℕ → Bool
  from_name a gap = set.contains names (name_of ties gap) && not (nat_lt (name_of ties gap) a)

  -- it is this one
  abbrev at_name : ℕ → ℕ → Bool
  at_name a gap = set.contains names a && nat_eq (name_of ties gap) a

  at_or_later : (a gap : ℕ) → from_name a gap ≡ true → (at_name a gap ≡ true) ⊎ (from_name (a + 1) gap ≡ true)
  at_or_later a gap h =
      let both = and_parts (set.contains names (name_of ties gap)) (not (nat_lt (name_of ties gap) a)) h in
      elim (eqb_tells (name_of ties gap) a) [
        | inl same ↦ inl (and_from (set.contains names a) (nat_eq (name_of ties gap) a) (ap (set.contains names) (sym same.1) ∙ both.0) same.0)
        | inr other ↦ inr (and_from (set.contains names (name_of ties gap)) (not (nat_lt (name_of ties gap) (a + 1))) both.0 (later (name_of ties gap) a both.1 other.1))
      ]

  -- the gaps of one tie
  stands : (a gap : ℕ) → at_name a gap ≡ true → set.contains (spread ties (these (a ∷ []))) gap ≡ true
  stands a gap h =
      let is : name_of ties gap ≡ a = eqb-true (name_of ties gap) a (and_parts (set.contains names a) (nat_eq (name_of ties gap) a) h).1 in
      spread_contains ties (these (a ∷ [])) gap ∙ ap (set.contains (these (a ∷ []))) is ∙ set.contains-from_list_nat (a ∷ []) a ∙ found_alone a

  one_tie : (a : ℕ) → sum_by (cost_of costs) (filter (at_name a) (range_with_len 0 MAX_GAPS)) ≤ cond (set.contains names a) (cost_of tied a) 0
  unfolding total numbers_of_set
  one_tie a = by_test (set.contains names a) refl
    where
      by_test : (v : Bool) → set.contains names a ≡ v → sum_by (cost_of costs) (filter (at_name a) (range_with_len 0 MAX_GAPS)) ≤ cond (set.contains names a) (cost_of tied a) 0
      by_test true e =
          let fewer = sum-le (cost_of costs) (at_name a) (set.contains (spread ties (these (a ∷ [])))) 0 MAX_GAPS (stands a) in
          let small : sum_by (cost_of costs) (filter (set.contains (spread ties (these (a ∷ [])))) (range_with_len 0 MAX_GAPS)) ≤ cost_of tied a = each a e in
          let is : cond (set.contains names a) (cost_of tied a) 0 ≡ cost_of tied a = ap (λ t. cond t (cost_of tied a) 0) e in
          omega (arith, fewer, small, is)
      by_test false e =
          let none = none_sum (cost_of costs) (at_name a) 0 MAX_GAPS (λ q low. ap (λ t. t && nat_eq (name_of ties q) a) e) in
          omega (arith, none)

  up_to : (a n : ℕ) → a + n ≡ MAX_GAPS → sum_by (cost_of costs) (filter (from_name a) (range_with_len 0 MAX_GAPS)) ≤ sum_by (cost_of tied) (filter (set.contains names) (range_with_len a n))
  up_to a zero e =
      let none = none_sum (cost_of costs) (from_name a) 0 MAX_GAPS
      (λ q low. fails (set.contains names (name_of ties q)) (nat_lt (name_of ties q) a) (below (name_of ties q) a (omega (arith, low, e, no_greater ties q)))) in
      omega (arith, none)
  up_to a (suc n) e =
      let parts = split_sum (cost_of costs) (from_name a) (at_name a) (from_name (a + 1)) 0 MAX_GAPS (at_or_later a) in
      let rest = up_to (a + 1) n (omega (arith, e)) in
      let here = one_tie a in
      let right = sum-cond (cost_of tied) (set.contains names a) a (filter (set.contains names) (range_with_len (a + 1) n)) in
      omega (arith, parts, rest, here, right)

  spread_total : total costs (spread ties names) ≤ total tied names
  unfolding total numbers_of_set
  spread_total =
      let all = sum-le (cost_of costs) (set.contains (spread ties names)) (from_name 0) 0 MAX_GAPS
      (λ q h. and_from (set.contains names (name_of ties q)) (not (nat_lt (name_of ties q) 0)) (sym (spread_contains ties names q) ∙ h) (not_below (name_of ties q))) in
      let up = up_to 0 MAX_GAPS refl in
      omega (arith, all, up)

pub spread_costs_no_more : GapsCostNoMoreThanTheirNames
spread_costs_no_more ties costs tied names each = spread_total ties costs tied names each
