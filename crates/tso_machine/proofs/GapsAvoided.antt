-- A run is a run with a set of gaps fenced exactly where it passes none of them.
use Rattle.std.proofs.Common.{◌≡◌, ℕ, Bool, true, false, List, Option, Some, None, refl, sym, ap, ◌∙◌}
use Rattle.gap_sets.specs.Gaps.{SetOfGaps}
use Rattle.tso_program.specs.declared.listing.Listing.{Listing}
use Rattle.tso_program.specs.Fences.{gaps_in}
use Rattle.tso_machine.specs.declared.label.Label.{Label}
use Rattle.tso_machine.specs.Machine.{StoreBufferMachine, no_gaps, State, start, run, passes}
use Rattle.std.specs.Option.{option_map_or}
use Rattle.tso_program.specs.Listings.{gap_number}
use Rattle.tso_machine.proofs.Avoided.{run_fenced, run_avoids}
use Rattle.tso_machine.specs.FenceLaws.{PassesNoGapOf, FencedRunsPassNoGapOfTheSet, PassedGapsTellTheFencedRuns}
use Rattle.std.specs.FinSet as set
use Rattle.tso_machine.proofs.UnfencedRuns.{unfenced}

-- a place that is fenced is a gap of the set
number_of_fenced : (gaps : SetOfGaps) (o : Option ℕ) → option_map_or (set.contains gaps) o false ≡ true → (gap : ℕ) × (o ≡ Some gap) × (set.contains gaps gap ≡ true)
number_of_fenced gaps None e = absurd cc
number_of_fenced gaps (Some gap) e = (gap, refl, e)

-- a run with gaps fenced passes none of them
pub fenced_run_passes_none : (p : Listing) (gaps : SetOfGaps) (labels : List Label) (last : State) → run p (StoreBufferMachine (gaps_in p gaps)) (start p) labels ≡ Some last → PassesNoGapOf p gaps labels
fenced_run_passes_none p gaps labels last r gap there (t, k, number, passed) =
    let no : true ≡ false = sym passed ∙ run_avoids p (gaps_in p gaps) labels (start p) last r t k ((ap (λ o. option_map_or (set.contains gaps) o false) number) ∙ there) in
    cc

-- a run that passes none of them passes no fenced place
avoids_places : (p : Listing) (gaps : SetOfGaps) (labels : List Label) → PassesNoGapOf p gaps labels → (t k : ℕ) → gaps_in p gaps t k ≡ true → passes p (StoreBufferMachine no_gaps) (start p) labels t k ≡ false
avoids_places p gaps labels none t k fenced = by_test (passes p (StoreBufferMachine no_gaps) (start p) labels t k) refl
  where
    by_test : (b : Bool) → passes p (StoreBufferMachine no_gaps) (start p) labels t k ≡ b → b ≡ false
    by_test false e = refl
    by_test true e = let (gap, number, there) = number_of_fenced gaps (gap_number p.threads t k) fenced in absurd (none gap there (t, k, number, e))

-- both ways
pub fenced_runs_avoid : FencedRunsPassNoGapOfTheSet
fenced_runs_avoid p gaps labels o = (
  (λ (last, r, ended, e). ((last, unfenced p (gaps_in p gaps) labels (start p) last r, ended, e), fenced_run_passes_none p gaps labels last r)),
  (λ ((last, r, ended, e), none). (last, run_fenced p (gaps_in p gaps) labels (start p) last r (avoids_places p gaps labels none), ended, e)),
)

-- the gaps that a run passes, where they are known as a set, tell the fenced runs
pub passed_gaps_tell : PassedGapsTellTheFencedRuns
passed_gaps_tell p gaps passed labels o is_run are_passed = (
  (λ fenced gap there in_set. ((fenced_runs_avoid p gaps labels o).0 fenced).1 gap in_set ((are_passed gap).0 there)),
  (λ none. (fenced_runs_avoid p gaps labels o).1 (is_run, (λ gap in_set passes. none gap ((are_passed gap).1 passes) in_set))),
)
