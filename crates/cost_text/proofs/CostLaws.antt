-- The costs that entries give, also with one more.
use Rattle.cost_text.proofs.Vocabulary.{◌≡◌, ◌∙◌, ℕ, ◌<◌, ◌≤◌, true, false, List, [], ◌∷◌, ◌++◌, length, get_or, Option, option_map, unwrap_or, sym, ap, subst, arith, inl, inr, cases_Bool, IsCostList, MAX_GAPS}
use Rattle.cost_text.proofs.Vocabulary.{get_or-map-range_with_len, length-map-range_with_len, Entry, NoGapTwice, is_of, said_of, costs_of}
use Rattle.cost_text.proofs.EntryLaws.{found_there, found_elsewhere}

pub costs_at : (gaps : ℕ) (entries : List Entry) (gap d : ℕ) → gap < gaps → get_or (costs_of gaps entries) gap d ≡ unwrap_or (said_of entries gap) 1
costs_at gaps entries gap d below = get_or-map-range_with_len (λ gap. unwrap_or (said_of entries gap) 1) 0 gaps gap gap d below (omega arith)

pub length-costs_of : (gaps : ℕ) (entries : List Entry) → length (costs_of gaps entries) ≡ gaps
length-costs_of gaps entries = length-map-range_with_len (λ gap. unwrap_or (said_of entries gap) 1) 0 gaps

-- a cost within the limits
abbrev pub IsCost : ℕ → Type 0
IsCost cost = (1 ≤ cost) × (cost ≤ 1000000)

pub no_costs : (gaps : ℕ) → gaps ≤ MAX_GAPS → IsCostList (costs_of gaps [])
no_costs gaps few = record {
  few = omega (arith, few, length-costs_of gaps []);
  each = λ k d lt. subst IsCost (sym (costs_at gaps [] k d (omega (arith, lt, length-costs_of gaps [])))) (omega arith, omega arith);
}

-- the cost of a gap of an entry
pub cost_of_entry : (gaps : ℕ) (entries more : List Entry) (e : Entry) (gap d : ℕ) → NoGapTwice (entries ++ e ∷ more) → is_of gap e ≡ true → gap < gaps → get_or (costs_of gaps (entries ++ e ∷ more)) gap d ≡ e.cost
cost_of_entry gaps entries more e gap d once of_gap below =
    costs_at gaps (entries ++ e ∷ more) gap d below ∙ ap (λ (o : Option Entry). unwrap_or (option_map (λ (x : Entry). x.cost) o) 1) (found_there entries more e gap once of_gap)

module _ (gaps : ℕ) (entries : List Entry) (e : Entry) (once : NoGapTwice (entries ++ e ∷ [])) (within : IsCostList (costs_of gaps entries)) where
  -- the costs with one more entry: at its gaps
  pub cost_there : (k d : ℕ) → k < gaps → is_of k e ≡ true → get_or (costs_of gaps (entries ++ e ∷ [])) k d ≡ e.cost
  cost_there k d lt of_gap = cost_of_entry gaps entries [] e k d once of_gap lt

  -- and at the others
  pub others_within : (k d : ℕ) → k < gaps → is_of k e ≡ false → IsCost (get_or (costs_of gaps (entries ++ e ∷ [])) k d)
  others_within k d lt other =
      let same : get_or (costs_of gaps (entries ++ e ∷ [])) k d ≡ get_or (costs_of gaps entries) k d =
      costs_at gaps (entries ++ e ∷ []) k d lt
      ∙ ap (λ (o : Option Entry). unwrap_or (option_map (λ (x : Entry). x.cost) o) 1) (found_elsewhere entries e k other)
      ∙ sym (costs_at gaps entries k d lt) in
      subst IsCost (sym same) (within.each k d (omega (arith, lt, length-costs_of gaps entries)))

  pub same_length : length (costs_of gaps (entries ++ e ∷ [])) ≡ gaps
  same_length = length-costs_of gaps (entries ++ e ∷ [])

  pub few_gaps : gaps ≤ MAX_GAPS
  few_gaps = omega (arith, within.few, length-costs_of gaps entries)

  pub within_more : 1 ≤ e.cost → e.cost ≤ 1000000 → IsCostList (costs_of gaps (entries ++ e ∷ []))
  within_more some small = record {
    few = omega (arith, same_length, few_gaps);
    each = λ k d lt.
        let below : k < gaps = omega (arith, lt, same_length) in
        elim (cases_Bool (is_of k e)) [
          | inl of_gap ↦ subst IsCost (sym (cost_there k d below of_gap)) (some, small)
          | inr other ↦ others_within k d below other
        ];
  }
