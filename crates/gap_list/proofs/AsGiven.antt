-- Costs that are given are written and read as they are.
use Rattle.gap_list.proofs.Vocabulary.{◌≡◌, ◌==◌, ◌∙◌, ℕ, zero, suc, ◌+◌, ◌<◌, Bool, true, List, [], get_or, slice_get, map, min, Option, Some, None, refl, sym, ap, arith, inl, inr, unwrap_or, option_map, if◌then◌else◌, list_all, range_with_len, unwrap_or-slice_get, replicate}
use Rattle.gap_list.proofs.Vocabulary.{Entry, NoGapTwice, IsCostText, costs_of, ties_of, entry_of, least_of, name_said, as_read, ties_read}
use Rattle.std.proofs.lemmas.Bool.{cases_Bool, eq-eqb, eqb-true}
use Rattle.std.proofs.lemmas.List.{length-replicate}
use Rattle.std.proofs.lemmas.List.FromFn.{fill_by_all, get_or-map-range_with_len, length-map-range_with_len, get_or-range_with_len, length-range_with_len}
use Rattle.std.proofs.lemmas.List.Sums.{AllPass-from_list_all}
use Rattle.std.proofs.lemmas.Option.{slice_get-get_or}
use Rattle.gap_sets.specs.Order.{cost_of}
use Rattle.gap_sets.specs.Ties.{name_of}
use Rattle.gap_sets.specs.declared.ties.TiedCosts.{TiedCosts}
use Rattle.tso_program.specs.declared.listing.Thread.{Thread}
use Rattle.tso_program.specs.declared.listing.Listing.{Listing}
use Rattle.tso_program.specs.Listings.{gap_count}
use Rattle.cost_text.specs.GivenCosts.{AreGiven}
use Rattle.cost_text.proofs.Once.{least_there}
use Rattle.cost_text.proofs.EntryLaws.{found_is, name_by, no_greater, same_entry}
use Rattle.cost_text.proofs.Kept.{all_alike}

module _ (n : ℕ) (entries : List Entry) (once : NoGapTwice entries) where
  -- the list of names has the name of each gap
  name_given : (gap : ℕ) → gap < n → name_of (ties_of n entries) gap ≡ name_said entries gap
  name_given gap below = elim (cases_Bool (list_all (λ gap. name_said entries gap == gap) (range_with_len 0 n))) [
    | inl single ↦
        let at : get_or (range_with_len 0 n) gap 0 ≡ gap = get_or-range_with_len 0 n gap 0 below ∙ omega arith in
        let own = AllPass-from_list_all (λ gap. name_said entries gap == gap) (range_with_len 0 n) single gap 0 (omega (arith, below, length-range_with_len 0 n)) in
        let is : name_said entries gap ≡ gap = eqb-true (name_said entries gap) gap (ap (λ (g : ℕ). name_said entries g == g) (sym at) ∙ own) in
        rw single (sym is)
    | inr tied ↦
        let there : slice_get (map (name_said entries) (range_with_len 0 n)) gap ≡ Some (name_said entries gap) =
        slice_get-get_or (map (name_said entries) (range_with_len 0 n)) gap 0 (omega (arith, below, length-map-range_with_len (name_said entries) 0 n))
        ∙ ap (λ (g : ℕ). Some g) (get_or-map-range_with_len (name_said entries) 0 n gap gap 0 below (omega arith)) in
        let least : min gap (name_said entries gap) ≡ name_said entries gap = omega (arith, no_greater entries gap) in
        rw (tied, there) least
  ]

  said_by_name : (gap : ℕ) → (o : Option Entry) → entry_of entries gap ≡ o → entry_of entries (name_said entries gap) ≡ entry_of entries gap
  said_by_name gap None is = ap (entry_of entries) (name_by entries gap None is)
  said_by_name gap (Some e) is =
      let of_name = least_there e.gaps gap gap (found_is entries gap e is) (omega arith) in
      ap (entry_of entries) (name_by entries gap (Some e) is) ∙ same_entry entries gap (least_of e.gaps gap) e once is of_name ∙ sym is

  abbrev cost_said : ℕ → ℕ
  cost_said gap = unwrap_or (option_map (λ (e : Entry). e.cost) (entry_of entries gap)) 1

  cost_given : (gap : ℕ) → gap < n → cost_of (costs_of n entries) gap ≡ cost_said gap
  cost_given gap below = unwrap_or-slice_get (costs_of n entries) gap 0 ∙ get_or-map-range_with_len cost_said 0 n gap gap 0 below (omega arith)

  -- a gap costs what its name costs
  cost_by_name : (gap : ℕ) → gap < n → cost_of (costs_of n entries) (name_of (ties_of n entries) gap) ≡ cost_said gap
  cost_by_name gap below =
      ap (cost_of (costs_of n entries)) (name_given gap below)
      ∙ cost_given (name_said entries gap) (omega (arith, below, no_greater entries gap))
      ∙ ap (λ (o : Option Entry). unwrap_or (option_map (λ (e : Entry). e.cost) o) 1) (said_by_name gap (entry_of entries gap) refl)

  costs_given : map (λ gap. cost_of (costs_of n entries) (name_of (ties_of n entries) gap)) (range_with_len 0 n) ≡ costs_of n entries
  costs_given =
      fill_by_all cost_said (map (λ gap. cost_of (costs_of n entries) (name_of (ties_of n entries) gap)) (range_with_len 0 n)) n 0 (length-map-range_with_len (λ gap. cost_of (costs_of n entries) (name_of (ties_of n entries) gap)) 0 n)
      (λ k lt. get_or-map-range_with_len (λ gap. cost_of (costs_of n entries) (name_of (ties_of n entries) gap)) 0 n k k 0 lt (omega arith) ∙ cost_by_name k lt)

  ties_given : ties_read n (ties_of n entries) ≡ ties_of n entries
  ties_given =
      let names : map (name_of (ties_of n entries)) (range_with_len 0 n) ≡ map (name_said entries) (range_with_len 0 n) =
      fill_by_all (name_said entries) (map (name_of (ties_of n entries)) (range_with_len 0 n)) n 0 (length-map-range_with_len (name_of (ties_of n entries)) 0 n)
      (λ k lt. get_or-map-range_with_len (name_of (ties_of n entries)) 0 n k k 0 lt (omega arith) ∙ name_given k lt) in
      let own : list_all (λ gap. name_of (ties_of n entries) gap == gap) (range_with_len 0 n) ≡ list_all (λ gap. name_said entries gap == gap) (range_with_len 0 n) =
      all_alike (λ gap. name_of (ties_of n entries) gap == gap) (λ gap. name_said entries gap == gap) 0 n (λ k lt. ap (λ (g : ℕ). g == k) (name_given k (omega (arith, lt)))) in
      ap (λ (b : Bool). if b then [] else map (name_of (ties_of n entries)) (range_with_len 0 n)) own
      ∙ ap (λ (xs : List ℕ). if list_all (λ gap. name_said entries gap == gap) (range_with_len 0 n) then [] else xs) names

-- what a text gives is read as it is
text_as_read : (text : List ℕ) (threads : List Thread) (costs : TiedCosts) → IsCostText text threads costs → as_read (gap_count threads) costs ≡ costs
text_as_read text threads costs is =
    let same : costs ≡ record { costs = costs_of (gap_count threads) is.entries; ties = ties_of (gap_count threads) is.entries } = λ i. record { costs = is.costs_are i; ties = is.ties_are i } in
    let again : as_read (gap_count threads) (record { costs = costs_of (gap_count threads) is.entries; ties = ties_of (gap_count threads) is.entries }) ≡ record { costs = costs_of (gap_count threads) is.entries; ties = ties_of (gap_count threads) is.entries } =
    λ i. record { costs = costs_given (gap_count threads) is.entries is.given.once i; ties = ties_given (gap_count threads) is.entries is.given.once i } in
    ap (as_read (gap_count threads)) same ∙ again ∙ sym same

all_own : (a n : ℕ) → list_all (λ gap. gap == gap) (range_with_len a n) ≡ true
all_own a zero = refl
all_own a (suc n) = rw (eq-eqb a a refl) (all_own (a + 1) n)

-- without a text too
equal_as_read : (n : ℕ) (costs : TiedCosts) → costs.costs ≡ replicate n 1 → costs.ties ≡ [] → as_read n costs ≡ costs
equal_as_read n costs ones single =
    let again : map (λ gap. cost_of (replicate n 1) gap) (range_with_len 0 n) ≡ replicate n 1 =
    sym (fill_by_all (λ gap. cost_of (replicate n 1) gap) (replicate n 1) n 0 (length-replicate n 1) (λ k lt. sym (unwrap_or-slice_get (replicate n 1) k 0))) in
    let none : ties_read n [] ≡ [] = rw (all_own 0 n) refl in
    let same : costs ≡ record { costs = replicate n 1; ties = [] } = λ i. record { costs = ones i; ties = single i } in
    ap (as_read n) same ∙ (λ i. record { costs = again i; ties = none i }) ∙ sym same

-- costs that are given are read as they are
pub given_as_read : (p : Listing) (text : Option (List ℕ)) (costs : TiedCosts) → AreGiven p text costs → as_read (gap_count p.threads) costs ≡ costs
given_as_read p None costs given = equal_as_read (gap_count p.threads) costs given.0 given.1
given_as_read p (Some text) costs given = text_as_read text p.threads costs given
