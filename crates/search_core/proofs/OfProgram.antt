-- The gaps of a set that are a program's: they serve where the set does, and cost no more.
use Rattle.search_core.proofs.Vocabulary.{◌≡◌, ◌↔◌, ℕ, ◌+◌, ◌<◌, ◌≤◌, Bool, true, false, List, [], ◌∷◌, Option, Some, None, Contains, cond, sum_by, refl, sym, ◌∙◌, subst, arith, zero-add, option_map_or, filter, range_with_len, sum_by-cons}
use Rattle.search_core.proofs.Vocabulary.{length-range_with_len, get_or-range_with_len, MAX_GAPS, Listing, Question, gap_below, alike, gap_count, gap_number, Serves, AreGapsOf, IsStoreBufferOutcome, IsSequentialOutcome, has_any, any_has, of_filter, to_filter}
use Rattle.search_core.proofs.Vocabulary.{SetOfGaps, numbers_of_set, total, cost_of}
use mathlib.Core.Path.{fun_ext}
use Rattle.std.specs.FinSet as set
use Rattle.gap_sets.specs.Ties.{name_of, spread}
use Rattle.gap_sets.proofs.Spreading.{no_greater, spread_contains}
use Rattle.tso_program.specs.Fences as fences

-- one term more, where a test passes
one_more : (f : ℕ → ℕ) (v w : Bool) (x : ℕ) (xs ys : List ℕ) → (v ≡ true → w ≡ true) → sum_by f xs ≤ sum_by f ys → sum_by f (cond v (x ∷ xs) xs) ≤ sum_by f (cond w (x ∷ ys) ys)
one_more f true true x xs ys h less = omega (arith, sum_by-cons f x xs, sum_by-cons f x ys)
one_more f true false x xs ys h less = let no = h refl in cc
one_more f false true x xs ys h less = omega (arith, sum_by-cons f x ys)
one_more f false false x xs ys h less = less

-- fewer terms come to no more
fewer_terms : (f : ℕ → ℕ) (p r : ℕ → Bool) (xs : List ℕ) → ((q : ℕ) → p q ≡ true → r q ≡ true) → sum_by f (filter p xs) ≤ sum_by f (filter r xs)
fewer_terms f p r [] within = omega arith
fewer_terms f p r (x ∷ xs) within = one_more f (p x) (r x) x (filter p xs) (filter r xs) (within x) (fewer_terms f p r xs within)

module _ (p : Listing) (gaps : SetOfGaps) where
  listed : List ℕ
  listed = filter (set.contains gaps) (range_with_len 0 (gap_count p.threads))

  -- the set's gaps that are the program's
  pub part : SetOfGaps
  part = set.from_list listed

  in_part : (gap : ℕ) → set.contains part gap ≡ true → Contains (range_with_len 0 (gap_count p.threads)) gap × (set.contains gaps gap ≡ true)
  unfolding part listed
  in_part gap h = of_filter (set.contains gaps) (range_with_len 0 (gap_count p.threads)) gap (has_any listed gap (sym (set.contains-from_list_nat listed gap) ∙ h))

  to_part : (gap : ℕ) → gap < gap_count p.threads → set.contains gaps gap ≡ true → set.contains part gap ≡ true
  unfolding part listed
  to_part gap below h =
      let long = length-range_with_len 0 (gap_count p.threads) in
      set.contains-from_list_nat listed gap ∙ any_has listed gap (to_filter (set.contains gaps) (range_with_len 0 (gap_count p.threads)) gap
      (gap, omega arith, get_or-range_with_len 0 (gap_count p.threads) gap gap below ∙ zero-add gap) h)

  pub part_of_program : AreGapsOf p part
  part_of_program gap h =
      let here = (in_part gap h).0 in
      let long = length-range_with_len 0 (gap_count p.threads) in
      let at : here.0 < gap_count p.threads = omega (arith, here.1) in
      let is : 0 + here.0 ≡ gap = sym (get_or-range_with_len 0 (gap_count p.threads) here.0 gap at) ∙ here.2 in
      omega arith

  -- they stand for the same gaps of the program
  same_fences : (ties : List ℕ) (t k : ℕ) → fences.gaps_in p (spread ties part) t k ≡ fences.gaps_in p (spread ties gaps) t k
  same_fences ties t k = by_number (gap_number p.threads t k) refl
    where
      by_number : (o : Option ℕ) → gap_number p.threads t k ≡ o → option_map_or (set.contains (spread ties part)) o false ≡ option_map_or (set.contains (spread ties gaps)) o false
      by_number None e = refl
      by_number (Some gap) e =
          let name = name_of ties gap in
          let below : name < gap_count p.threads = omega (arith, no_greater ties gap, gap_below p.threads t k gap e) in
          spread_contains ties part gap ∙ alike (set.contains part name) (set.contains gaps name) (λ h. (in_part name h).1) (to_part name below) ∙ sym (spread_contains ties gaps gap)

  pub part_costs_less : (costs : List ℕ) → total costs part ≤ total costs gaps
  unfolding total numbers_of_set
  part_costs_less costs = fewer_terms (cost_of costs) (set.contains part) (set.contains gaps) (range_with_len 0 MAX_GAPS) (λ gap h. (in_part gap h).1)

pub part_serves : (q : Question) (gaps : SetOfGaps) → Serves q gaps → Serves q (part q.program gaps)
part_serves q gaps serves o = subst (λ (fenced : fences.Gaps). IsStoreBufferOutcome q fenced o ↔ IsSequentialOutcome q o) (sym (fun_ext (λ t. fun_ext (λ k. same_fences q.program gaps q.ties t k)))) (serves o)
