-- What is found of a line after others.
use Rattle.cost_text.proofs.Vocabulary.{◌≡◌, ◌∙◌, ℕ, ◌≤◌, true, false, List, [], ◌∷◌, ◌++◌, map, Ok, Err, refl, sym, ap, subst, CostFault, Thread, gap_count, CostLine, CostEntry, PlacedGaps, Entry, IsCostEntry, NoGapTwice, IsOfNoGap, IsRepeated}
use Rattle.cost_text.proofs.Vocabulary.{IsOfNoCost, ReadsPlaces, place_of, said_by, cost_or_fault, ArePlaced, AreGathered, LacksGap, IsCostTable, IsLineOf, IsNewEntry}
use Rattle.std.specs.Str.Parse.{digits_value}
use Rattle.cost_text.proofs.{LineLaws.line_read, Once.NoneTwice, EntryLaws.gaps_more, Gathered.at_below, Gathered.first_gap, CostFaults.IsJudged, CostFaults.fine, CostFaults.free, CostFaults.large, CostFaults.judged, CostFaults.first_fault}

-- the places of a line that is read
pub places_read : (line : List ℕ) (said : CostLine) (s : IsLineOf line said) → ReadsPlaces said.places.now (s.digits.first ∷ s.digits.others) s.reads.rest
places_read line said s = subst (λ (x : List ℕ). ReadsPlaces x (s.digits.first ∷ s.digits.others) s.reads.rest) (sym s.places) s.reads.places

-- a line with a place where no gap is
pub of_no_gap : (threads : List Thread) (line : List ℕ) (said : CostLine) (s : IsLineOf line said) → LacksGap threads (map place_of (s.digits.first ∷ s.digits.others)) → IsOfNoGap threads line
of_no_gap threads line said s lacks = record { said = said_by s.digits; says = line_read line s.digits s.reads; place = lacks.place; named = lacks.named; no_gap = lacks.no_gap }

record IsFine (cost found : ℕ) : Type 0 where
  same : found ≡ cost
  some : 1 ≤ cost
  within : cost ≤ 1000000

is_fine : (gap cost found : ℕ) → Ok found ≡ cost_or_fault gap cost → IsFine cost found
is_fine gap cost found e = by_kind (judged gap cost)
  where
    by_kind : IsJudged gap cost (cost_or_fault gap cost) → IsFine cost found
    by_kind (fine some small r) = let both = e ∙ r in record { same = cc; some = some; within = small }
    by_kind (free zero_cost r) = let bad = e ∙ r in absurd cc
    by_kind (large over r) = let bad = e ∙ r in absurd cc

module _ (threads : List Thread) (table : List CostEntry) (entries : List Entry) (line : List ℕ) (said : CostLine) (s : IsLineOf line said) (placed : PlacedGaps)
    (g : AreGathered threads table (map place_of (s.digits.first ∷ s.digits.others)) placed) (t : IsCostTable threads entries table) where
  abbrev said_entry : Entry
  said_entry = record { gaps = g.gaps; cost = digits_value 10 s.digits.cost }

  is_entry : IsCostEntry threads line said_entry
  is_entry = record { said = said_by s.digits; says = line_read line s.digits s.reads; gaps = g.at; cost = refl }

  are_placed : ArePlaced entries g.gaps placed
  are_placed = g.are entries t.table_is t.once

  pub repeated : placed.is_repeated ≡ true → IsRepeated threads entries line
  repeated again = record { entry = said_entry; is = is_entry; twice = λ once. are_placed.twice again (subst NoneTwice (gaps_more entries said_entry) once) }

  new : placed.is_repeated ≡ false → NoGapTwice (entries ++ said_entry ∷ [])
  new not_again = subst NoneTwice (sym (gaps_more entries said_entry)) (are_placed.once not_again)

  pub new_entry : (cost : ℕ) → placed.is_repeated ≡ false → Ok cost ≡ cost_or_fault placed.name (digits_value 10 said.cost.now) → IsNewEntry threads entries line (record { gaps = placed.gaps; name = placed.name; cost = cost })
  new_entry cost not_again found =
      let f = is_fine placed.name (digits_value 10 s.digits.cost) cost (found ∙ ap (λ (x : List ℕ). cost_or_fault placed.name (digits_value 10 x)) s.cost) in
      record {
        entry = said_entry;
        is = is_entry;
        found_is = λ i. record { gaps = are_placed.gaps_are i; name = are_placed.name_is i; cost = f.same i };
        new = new not_again;
        some = f.some;
        within = f.within;
      }

  pub of_no_cost : (why : CostFault) → placed.is_repeated ≡ false → Err why ≡ cost_or_fault placed.name (digits_value 10 said.cost.now) → IsOfNoCost threads entries line why
  of_no_cost why not_again found = record {
    entry = said_entry;
    is = is_entry;
    new = new not_again;
    refused = first_fault (gap_count threads) entries said_entry (new not_again) t.within (λ gap of_gap. at_below threads (map place_of (s.digits.first ∷ s.digits.others)) g.gaps g.at gap of_gap)
        (first_gap threads (place_of s.digits.first) (map place_of s.digits.others) g.gaps g.at) why
        (ap (λ (n : ℕ). cost_or_fault n (digits_value 10 s.digits.cost)) (sym are_placed.name_is) ∙ sym (found ∙ ap (λ (x : List ℕ). cost_or_fault placed.name (digits_value 10 x)) s.cost));
  }
