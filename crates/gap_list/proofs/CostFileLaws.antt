-- The cost file of all gaps is read as their costs and ties.
use Rattle.gap_list.proofs.Vocabulary.{◌≡◌, ◌==◌, ◌+◌, ◌^◌, ◌<◌, ◌≤◌, ℕ, zero, suc, true, false, List, [], ◌∷◌, ◌++◌, length, Some, refl, sym, ap, ◌∙◌, subst, arith, inl, inr, slice_get, flat_map, range_with_len, append-nil, append_assoc, unwrap_or-slice_get}
use Rattle.gap_list.proofs.Vocabulary.{Entry, IsCostEntry, IsCostText, ListsEntries, none, blank, entry, lines_of, as_read, cost_file_text, entry_text, places_text, tie_text}
use Rattle.std.specs.Fmt.{decimal}
use Rattle.std.specs.FinSet as set
use Rattle.std.proofs.lemmas.Bool.{cases_Bool}
use Rattle.std.proofs.lemmas.Option.{slice_get-get_or}
use Rattle.std.proofs.lemmas.List.Elements.{All-append}
use Rattle.std.proofs.lemmas.List.Splits.{slice_split_at}
use Rattle.gap_sets.specs.Gaps.{numbers_of_set}
use Rattle.gap_sets.specs.CostLists.{IsCostList}
use Rattle.gap_sets.specs.Order.{cost_of}
use Rattle.gap_sets.specs.Ties.{AreTies, spread}
use Rattle.gap_sets.specs.declared.ties.TiedCosts.{TiedCosts}
use Rattle.tso_program.specs.{declared.listing.Thread.Thread, Limits.IsWithinLimits}
use Rattle.tso_program.specs.Listings.{gap_count}
use Rattle.cost_text.specs.CostLines.{Place, SpellsPlaces}
use Rattle.cost_text.specs.CostTexts.{AreAt}
use Rattle.cost_text.proofs.Once.{has}
use Rattle.gap_list.proofs.SpelledPlaces.{SpellsGaps, number_of, one_line, spelled}
use Rattle.gap_list.proofs.TiesAsEntries.{costs_are, costs_within, entries_at, entry_at, is_name, once, tie, tie_has_name, ties_are}

-- where no place is no gap is
no_gap_at : (threads : List Thread) (gaps : List ℕ) (gap : ℕ) → AreAt threads [] gaps → has gaps gap ≡ true → ⊥
no_gap_at threads [] gap at there = cc
no_gap_at threads (first ∷ gaps) gap at there = at

module _ (threads : List Thread) (memory : List ℕ) (costs : TiedCosts) (limits : IsWithinLimits threads memory) (are : AreTies costs.ties) (one_each : length costs.costs ≡ gap_count threads) (within : IsCostList costs.costs) where
  -- the entries of the names among some gaps
  abbrev entries : List ℕ → List Entry
  entries gaps = entries_at threads costs limits.few_gaps are one_each within gaps

  abbrev entry_for : ℕ → Entry
  entry_for name = entry_at threads costs limits.few_gaps are one_each within name

  -- what stands before the line's end
  abbrev body : ℕ → List ℕ
  body name = places_text threads (spread costs.ties (set.insert set.empty name)) ++ decimal (cost_of costs.costs name)

  spelled_tie : (name : ℕ) → SpellsGaps threads (places_text threads (spread costs.ties (set.insert set.empty name))) (tie threads costs limits.few_gaps are one_each within name)
  spelled_tie name = spelled threads memory limits (numbers_of_set (spread costs.ties (set.insert set.empty name)))

  small : (name : ℕ) → name < gap_count threads → cost_of costs.costs name < 2 ^ 64
  small name below = let cheap = (within.each name 0 (omega (arith, one_each, below))).1 in omega (arith, cheap, unwrap_or-slice_get costs.costs name 0)

  -- the line says the entry
  is_entry : (name : ℕ) → name < gap_count threads → is_name threads costs limits.few_gaps are one_each within name ≡ true → IsCostEntry threads (body name) (entry_for name)
  is_entry name below own = by_places (spelled_tie name).places (spelled_tie name).spells (spelled_tie name).at
    where
      by_places : (places : List Place) → SpellsPlaces (places_text threads (spread costs.ties (set.insert set.empty name))) places → AreAt threads places (entry_for name).gaps → IsCostEntry threads (body name) (entry_for name)
      by_places [] spells at = absurd (no_gap_at threads (entry_for name).gaps name at (tie_has_name threads costs limits.few_gaps are one_each within name own below))
      by_places (first ∷ others) spells at = record {
        said = record { first = first; others = others; cost = cost_of costs.costs name };
        says = record {
          before = [];
          places = places_text threads (spread costs.ties (set.insert set.empty name));
          cost = decimal (cost_of costs.costs name);
          after = [];
          text = ap (λ (c : List ℕ). places_text threads (spread costs.ties (set.insert set.empty name)) ++ c) (sym (append-nil (decimal (cost_of costs.costs name))));
          begins = refl;
          of_places = spells;
          of_cost = number_of (cost_of costs.costs name) (small name below);
          ends = refl;
        };
        gaps = at;
        cost = refl;
      }

  -- a name has its line
  line_of : (name : ℕ) → name < gap_count threads → tie_text threads costs name ≡ body name ++ 10 ∷ []
  line_of name below =
      let there : slice_get costs.costs name ≡ Some (cost_of costs.costs name) = slice_get-get_or costs.costs name 0 (omega (arith, one_each, below)) ∙ ap (λ (n : ℕ). Some n) (sym (unwrap_or-slice_get costs.costs name 0)) in
      rw there refl

  split : (name : ℕ) (rest : List ℕ) → name < gap_count threads → lines_of (tie_text threads costs name ++ rest) ≡ body name ∷ lines_of rest
  split name rest below =
      ap (λ (text : List ℕ). lines_of (text ++ rest)) (line_of name below)
      ∙ ap lines_of (append_assoc (body name) (10 ∷ []) rest)
      ∙ slice_split_at (λ b. b == 10) (body name) 10 rest
      (All-append (λ b. (b == 10) ≡ false) (places_text threads (spread costs.ties (set.insert set.empty name))) (decimal (cost_of costs.costs name)) (spelled_tie name).line (one_line (cost_of costs.costs name) (small name below))) refl

  lists : (from many : ℕ) → from + many ≤ gap_count threads → ListsEntries threads (lines_of (flat_map (entry_text threads costs) (range_with_len from many))) (entries (range_with_len from many))
  lists from zero le = blank refl none
  lists from (suc many) le =
      let rest : List ℕ = flat_map (entry_text threads costs) (range_with_len (from + 1) many) in
      let others : ListsEntries threads (lines_of (flat_map (entry_text threads costs) (range_with_len (from + 1) many))) (entries (range_with_len (from + 1) many)) = lists (from + 1) many (omega (arith, le)) in
      let below : from < gap_count threads = omega (arith, le) in
      elim (cases_Bool (is_name threads costs limits.few_gaps are one_each within from)) [
        | inl own ↦ rw (own, split from (flat_map (entry_text threads costs) (range_with_len (from + 1) many)) below) (entry (is_entry from below own) others)
        | inr other ↦ rw other others
      ]

  -- the text gives the gaps these costs and ties
  pub cost_file_is_read : IsCostText (cost_file_text threads costs) threads (as_read (gap_count threads) costs)
  cost_file_is_read = record {
    entries = entries (range_with_len 0 (gap_count threads));
    given = record {
      lists = lists 0 (gap_count threads) (omega arith);
      once = once threads costs limits.few_gaps are one_each within;
      within = subst IsCostList (costs_are threads costs limits.few_gaps are one_each within) (costs_within threads costs limits.few_gaps are one_each within);
    };
    costs_are = costs_are threads costs limits.few_gaps are one_each within;
    ties_are = ties_are threads costs limits.few_gaps are one_each within;
  }
