-- Names that a run passes: they tell with which names fenced it is a run.
use Rattle.std.proofs.Common.{ℕ, List, refl, sym, ap, ◌∙◌, subst}
use Rattle.std.specs.FinSet as set
use Rattle.gap_sets.specs.Ties.{name_of, spread}
use Rattle.gap_sets.proofs.Spreading.{spread_contains}
use Rattle.gap_sets.proofs.Naming.{names_contain}
use Rattle.tso_program.specs.{declared.listing.Listing.Listing, declared.shown.Shown.Shown, Shown.asked}
use Rattle.tso_machine.specs.declared.label.Label.{Label}
use Rattle.tso_machine.specs.Machine.{StoreBufferMachine, no_gaps, start}
use Rattle.tso_machine.specs.Modes.{Passes}
use Rattle.tso_machine.specs.Outcomes.{PassesName}
use Rattle.tso_machine.specs.TieLaws.{FencedRunsPassNoName, NamesOfPassedGapsArePassed, PassedNamesTellTheFencedRuns, NamesServeAsTheirGaps, WithoutTiesAGapIsItsName, WithoutTiesPassedNamesAreGaps}
use Rattle.tso_machine.proofs.GapsAvoided.{fenced_runs_avoid}

-- a run with the gaps of names fenced passes none of them, and the other way round
pub fenced_runs_pass_no_name : FencedRunsPassNoName
fenced_runs_pass_no_name q names labels o = (
  (λ fenced.
      let avoids = (fenced_runs_avoid q.program (spread q.ties names) labels o).0 fenced in
      (avoids.0, (λ name in_set passed. avoids.1 passed.0 (spread_contains q.ties names passed.0 ∙ (ap (set.contains names) passed.1 ∙ in_set)) passed.2))),
  (λ passes_none.
      (fenced_runs_avoid q.program (spread q.ties names) labels o).1
      (passes_none.0, (λ gap in_spread passes. passes_none.1 (name_of q.ties gap) (sym (spread_contains q.ties names gap) ∙ in_spread) (gap, refl, passes)))),
)

-- a set of names fences exactly the runs that pass one of them
pub passed_names_tell : PassedNamesTellTheFencedRuns
passed_names_tell q names passed labels o is_run are_passed = (
  (λ fenced name there in_set.
      let found = (are_passed name).0 there in
      ((fenced_runs_avoid q.program (spread q.ties names) labels o).0 fenced).1 found.0
      (spread_contains q.ties names found.0 ∙ (ap (set.contains names) found.1 ∙ in_set)) found.2),
  (λ none.
      (fenced_runs_avoid q.program (spread q.ties names) labels o).1
      (is_run, (λ gap in_spread passes. none (name_of q.ties gap) ((are_passed (name_of q.ties gap)).1 (gap, refl, passes)) (sym (spread_contains q.ties names gap) ∙ in_spread)))),
)

-- the names of the gaps that a run passes are those that it passes
pub names_of_passed : NamesOfPassedGapsArePassed
names_of_passed q labels gaps are name = (
  (λ there. let found = (names_contain q.ties gaps name).0 there in (found.0, found.2, (are found.0).0 found.1)),
  (λ passed. (names_contain q.ties gaps name).1 (passed.0, (are passed.0).1 passed.2, passed.1)),
)

-- what names stand for serves as they do
pub names_serve : NamesServeAsTheirGaps
names_serve q names = ((λ serves. serves), (λ serves. serves))

-- without ties a set stands for its own gaps
pub own_gaps : WithoutTiesAGapIsItsName
own_gaps p shown gaps = refl

-- and it passes the names of the gaps that it passes
its_gap : (p : Listing) (shown : Shown) (labels : List Label) (name : ℕ) → PassesName (asked p shown) labels name → Passes p (StoreBufferMachine no_gaps) (start p) labels name
its_gap p shown labels name (gap, is, passes) = subst (λ (g : ℕ). Passes p (StoreBufferMachine no_gaps) (start p) labels g) is passes

pub own_gaps_passed : WithoutTiesPassedNamesAreGaps
own_gaps_passed p shown labels gaps = (
  (λ are gap. ((λ there. its_gap p shown labels gap ((are gap).0 there)), (λ passes. (are gap).1 (gap, refl, passes)))),
  (λ are name. ((λ there. (name, refl, (are name).0 there)), (λ passed. (are name).1 (its_gap p shown labels name passed)))),
)
