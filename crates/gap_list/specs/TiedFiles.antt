-- The cost file of gaps that go together.
use Rattle.std.specs.Prelude.{◌≡◌, ◌==◌, ℕ, List, map, max, if◌then◌else◌}
use Rattle.std.specs.List.{fold, range_with_len}
use Rattle.gap_sets.specs.Order.{cost_of}
use Rattle.gap_sets.specs.Ties.{name_of as tie_of}
use Rattle.gap_sets.specs.declared.ties.TiedCosts.{TiedCosts}
use Rattle.tso_program.specs.declared.listing.Listing.{Listing}
use Rattle.tso_program.specs.Listings.{gap_count}
use Rattle.cost_text.specs.CostTexts.{IsCostText}
use Rattle.gap_list.specs.CostFiles.{as_read, cost_file_text}

-- what another gap costs, if the two go together, and otherwise nothing
abbrev pub cost_beside : List ℕ → List ℕ → ℕ → ℕ → ℕ
cost_beside costs ties gap other = if tie_of ties other == tie_of ties gap then cost_of costs other else 0

-- what the dearest gap of a gap's tie costs, of so many gaps
abbrev pub dearest : ℕ → List ℕ → List ℕ → ℕ → ℕ
dearest gaps costs ties gap = fold max 0 (map (cost_beside costs ties gap) (range_with_len 0 gaps))

-- each of so many gaps costs as much as the dearest of its tie
abbrev pub at_dearest : ℕ → List ℕ → List ℕ → TiedCosts
at_dearest gaps costs ties = record { costs = map (dearest gaps costs ties) (range_with_len 0 gaps); ties = ties }

-- a cost file of all gaps, of which some go together, each tie at what its dearest gap costs by these costs; it is read as these costs
-- and ties. Of which gaps go together nothing is said.
abbrev pub IsTiedFile : Listing → List ℕ → List ℕ → Type 0
IsTiedFile p costs lines =
    (ties : List ℕ) × (lines ≡ cost_file_text p.threads (at_dearest (gap_count p.threads) costs ties))
    × IsCostText lines p.threads (as_read (gap_count p.threads) (at_dearest (gap_count p.threads) costs ties))
