-- The children of a node decide more gaps, and all their sets together are fewer.
use Rattle.search_core.proofs.Vocabulary.{◌≡◌, ◌≢◌, ℕ, zero, suc, ◌+◌, ◌*◌, ◌^◌, ◌<◌, ◌≤◌, Bool, true, false, ◌&&◌, not, List, [], ◌∷◌, Contains, sum_by, refl, sym, ap, ◌∙◌, if◌then◌else◌, subst, inl, inr, arith, length, get_or, set as set_at, and_parts}
use Rattle.search_core.proofs.Vocabulary.{and_from, and_left, and_right, or_left, or_right, not-true, not_from_true, not_from_false, false_from_ne_true, true≢false, nat_cmp, eq_by_cmp, same_Some, none-some, slice_get_within, get_or_from_slice_get, AllPairs}
use Rattle.search_core.proofs.Vocabulary.{one-le-pow, two-pow-succ, sum_by-cons, sum_by-le, length-filter, count_by-le-length, sum_by-set, sum_by-append, filter, range_with_len, nat_cmp_total, nat_tests, length-range_with_len, SetOfGaps, IsGapSet, with_gap}
use Rattle.search_core.proofs.Vocabulary.{without_gap, child_regions, open_gaps, Region, MAX_GAPS, new_or_old, true_or_false, first_is_here, later_is_here, Entry, Open, children, entry, open_entries, is_undecided, undecided, work_of, live_work, work_left}
use Rattle.search_core.proofs.Vocabulary.{open_exact, open_ascending}
use Rattle.std.specs.FinSet as set
use Rattle.std.proofs.lemmas.List.Kept.{AllPairs-from_increasing}
use Rattle.std.proofs.Math.Pow.{pow_mono}
use Rattle.gap_sets.proofs.Ranges.{sum-lt}
use Rattle.search_core.proofs.{Places.Each, Changes.Change, Changes.changed}

-- a set has what it had, and the new gap
pub kept_old : (s : SetOfGaps) (gap q : ℕ) → set.contains s q ≡ true → set.contains (set.insert s gap) q ≡ true
kept_old s gap q h = set.contains-insert nat_cmp_total s gap q ∙ or_right (eq_by_cmp nat_cmp q gap) (set.contains s q) h

pub has_new : (s : SetOfGaps) (gap : ℕ) → set.contains (set.insert s gap) gap ≡ true
has_new s gap = set.contains-insert nat_cmp_total s gap gap ∙ or_left (eq_by_cmp nat_cmp gap gap) (set.contains s gap) (grind (arith, nat_tests))

-- what is undecided is in neither set
both : (a b : Bool) → (not a && not b) ≡ true → (a ≡ false) × (b ≡ false)
both a b h = (let parts = and_parts (not a) (not b) h in (not-true a parts.0, not-true b parts.1))

neither : (a b : Bool) → a ≡ false → b ≡ false → (not a && not b) ≡ true
neither a b e f = and_from (not a) (not b) (not_from_false a e) (not_from_false b f)

outside : (a b : Bool) → (a ≡ true → b ≡ true) → b ≡ false → a ≡ false
outside a b h e = false_from_ne_true a (λ is. true≢false (sym (h is) ∙ e))

module _ (n : Region) (gap : ℕ) (low : gap < MAX_GAPS) (open_gap : is_undecided n gap ≡ true) where
  abbrev with_it : Region
  with_it = with_gap n gap

  abbrev without_it : Region
  without_it = without_gap n gap

  with_less : undecided with_it < undecided n
  with_less = sum-lt (λ (q : ℕ). 1) (is_undecided with_it) (is_undecided n) 0 MAX_GAPS gap
      (λ q h. let p = both (set.contains with_it.must q) (set.contains with_it.never q) h in
      neither (set.contains n.must q) (set.contains n.never q) (outside (set.contains n.must q) (set.contains with_it.must q) (kept_old n.must gap q) p.0) p.1)
      (omega arith) (omega arith) (and_left (not (set.contains with_it.must gap)) (not (set.contains with_it.never gap)) (not_from_true _ (has_new n.must gap))) open_gap (omega arith)

  without_less : undecided without_it < undecided n
  without_less = sum-lt (λ (q : ℕ). 1) (is_undecided without_it) (is_undecided n) 0 MAX_GAPS gap
      (λ q h. let p = both (set.contains without_it.must q) (set.contains without_it.never q) h in
      neither (set.contains n.must q) (set.contains n.never q) p.0 (outside (set.contains n.never q) (set.contains without_it.never q) (kept_old n.never gap q) p.1))
      (omega arith) (omega arith) (and_right (not (set.contains without_it.must gap)) (not (set.contains without_it.never gap)) (not_from_true _ (has_new n.never gap))) open_gap (omega arith)

  -- another gap stays undecided
  still_open : (q : ℕ) → gap ≢ q → is_undecided n q ≡ true → is_undecided without_it q ≡ true
  still_open q differ h =
      let p = both (set.contains n.must q) (set.contains n.never q) h in
      neither (set.contains n.must q) (set.contains without_it.never q) p.0
      (elim (true_or_false (set.contains without_it.never q)) [
        | inr missing ↦ missing
        | inl there ↦ elim (new_or_old n.never gap q there) [ inl same ↦ absurd (differ same) | inr old ↦ (let bad : true ≡ false = sym old ∙ p.1 in absurd cc) ]
      ])

-- two halves
halves : (a b c : ℕ) → a < c → b < c → 2 ^ a + 2 ^ b ≤ 2 ^ c
halves a b zero h i = absurd (omega arith)
halves a b (suc d) h i =
    let p : 2 ^ a ≤ 2 ^ d = pow_mono (omega arith) in
    let q : 2 ^ b ≤ 2 ^ d = pow_mono (omega arith) in
    let e : 2 ^ suc d ≡ 2 ^ d + 2 ^ d = two-pow-succ d in
    omega arith

-- each is a gap's number, and undecided
abbrev pub AreUndecided : Region → List ℕ → Type 0
AreUndecided n gaps = (gap : ℕ) → Contains gaps gap → (gap < MAX_GAPS) × (is_undecided n gap ≡ true)

-- the first of ascending numbers is not among the others
pub not_again : (x : ℕ) (xs : List ℕ) → AllPairs (λ a b. a < b) (x ∷ xs) → (q : ℕ) → Contains xs q → x ≢ q
not_again x xs up q here same =
    let less : x < get_or xs here.0 q = up 0 (suc here.0) q (omega arith) (let h = here.1 in omega arith) in
    let is : get_or xs here.0 q ≡ q = here.2 in omega arith

pub later : (x : ℕ) (xs : List ℕ) → AllPairs (λ a b. a < b) (x ∷ xs) → AllPairs (λ a b. a < b) xs
later x xs up i j d h l = up (suc i) (suc j) d (omega arith) (omega arith)

-- of the others
after_first : (n : Region) (gap : ℕ) (gaps : List ℕ) → AllPairs (λ a b. a < b) (gap ∷ gaps) → AreUndecided n (gap ∷ gaps) → AreUndecided (without_gap n gap) gaps
after_first n gap gaps up each q here =
    let first = each gap (first_is_here gap gaps) in
    let old = each q (later_is_here gap gaps q here) in
    (old.0, still_open n gap first.0 first.1 q (not_again gap gaps up q here) old.1)

-- the children's work together is less
pub kids_work : (n : Region) (gaps : List ℕ) → AllPairs (λ a b. a < b) gaps → AreUndecided n gaps → sum_by work_of (child_regions n gaps) < work_of n
kids_work n [] up each = one-le-pow (undecided n) 2 (omega arith)
kids_work n (gap ∷ gaps) up each =
    let first = each gap (first_is_here gap gaps) in
    let child = with_gap n gap in
    let rest = without_gap n gap in
    let others : sum_by work_of (child_regions rest gaps) < work_of rest = kids_work rest gaps (later gap gaps up) (after_first n gap gaps up each) in
    let parts : sum_by work_of (child ∷ child_regions rest gaps) ≡ work_of child + sum_by work_of (child_regions rest gaps) = sum_by-cons work_of child (child_regions rest gaps) in
    let two : work_of child + work_of rest ≤ work_of n = halves (undecided child) (undecided rest) (undecided n) (with_less n gap first.0 first.1) (without_less n gap first.0 first.1) in
    omega arith

-- and each decides more
pub kids_less : (n : Region) (gaps : List ℕ) → AllPairs (λ a b. a < b) gaps → AreUndecided n gaps → Each (λ (c : Region). undecided c < undecided n) (child_regions n gaps)
kids_less n [] up each k c e = absurd (none-some c e)
kids_less n (gap ∷ gaps) up each zero c e =
    let first = each gap (first_is_here gap gaps) in
    subst (λ (d : Region). undecided d < undecided n) (same_Some (with_gap n gap) c e) (with_less n gap first.0 first.1)
kids_less n (gap ∷ gaps) up each (suc k) c e =
    let first = each gap (first_is_here gap gaps) in
    let rest = without_gap n gap in
    let below : undecided c < undecided rest = kids_less rest gaps (later gap gaps up) (after_first n gap gaps up each) k c e in
    let less : undecided rest < undecided n = without_less n gap first.0 first.1 in
    omega arith

-- at most `MAX_GAPS` gaps are undecided
few : (p : ℕ → Bool) → sum_by (λ (gap : ℕ). 1) (filter p (range_with_len 0 MAX_GAPS)) ≤ MAX_GAPS
few p =
    let a : sum_by (λ (gap : ℕ). 1) (filter p (range_with_len 0 MAX_GAPS)) ≤ length (filter p (range_with_len 0 MAX_GAPS)) * 1 = sum_by-le (λ (gap : ℕ). 1) 1 (filter p (range_with_len 0 MAX_GAPS)) (λ k d h. omega arith) in
    omega (arith, length-filter p (range_with_len 0 MAX_GAPS), count_by-le-length p (range_with_len 0 MAX_GAPS), length-range_with_len 0 MAX_GAPS)

pub few_undecided : (n : Region) → undecided n ≤ MAX_GAPS
few_undecided n = few (is_undecided n)

-- no gap is in both sets
abbrev pub AreApart : SetOfGaps → SetOfGaps → Type 0
AreApart passed must = (gap : ℕ) → set.contains passed gap ≡ true → set.contains must gap ≡ true → ⊥

-- what is open for a split is undecided
pub open_undecided : (passed : SetOfGaps) (n : Region) → IsGapSet passed → AreApart passed n.must → AreUndecided n (open_gaps passed n.never)
open_undecided passed n small apart gap here =
    let both = (open_exact passed n.never small gap).0 here in
    (small gap both.0, neither (set.contains n.must gap) (set.contains n.never gap) (not_there (set.contains n.must gap) refl both.0) both.1)
  where
    not_there : (b : Bool) → set.contains n.must gap ≡ b → set.contains passed gap ≡ true → b ≡ false
    not_there true e there = absurd (apart gap there e)
    not_there false e there = refl

-- and all children together leave less work
pub split_work : (passed : SetOfGaps) (n : Region) → IsGapSet passed → AreApart passed n.must → sum_by work_of (children n passed) < work_of n
split_work passed n small apart =
    let gaps = open_gaps passed n.never in
    kids_work n gaps (AllPairs-from_increasing gaps (open_ascending passed n.never)) (open_undecided passed n small apart)

-- the work of nodes that are opened
opened_work : (seat : ℕ) (cs : List Region) → work_left (open_entries seat cs) ≡ sum_by work_of cs
opened_work seat [] = refl
opened_work seat (c ∷ cs) =
    let e = entry c seat Open in
    sum_by-cons live_work e (open_entries seat cs) ∙ ap (λ (k : ℕ). work_of c + k) (opened_work seat cs) ∙ sym (sum_by-cons work_of c cs)

-- a live node changes, and others are opened
pub change_work : (es : List Entry) (c : Change es) → work_left (changed es c) + work_of c.now.node ≡ work_left es + live_work c.now + sum_by work_of c.opened
change_work es c =
    let a : sum_by live_work (set_at es c.place c.now) + live_work (get_or es c.place c.before) ≡ work_left es + live_work c.now = sum_by-set live_work es c.place c.now c.before (slice_get_within es c.place c.before c.there) in
    let b : live_work (get_or es c.place c.before) ≡ work_of c.now.node = ap live_work (get_or_from_slice_get es c.place c.before c.before c.there) ∙ ap (λ (b : Bool). if b then work_of c.before.node else 0) c.live ∙ ap work_of (sym c.same) in
    let d : work_left (changed es c) ≡ sum_by live_work (set_at es c.place c.now) + work_left (open_entries c.seat c.opened) = sum_by-append live_work (set_at es c.place c.now) (open_entries c.seat c.opened) in
    let e : work_left (open_entries c.seat c.opened) ≡ sum_by work_of c.opened = opened_work c.seat c.opened in
    omega arith
