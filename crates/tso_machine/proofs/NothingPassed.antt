-- A run that passes no gap waits at each place, and so has a sequential outcome.
use Rattle.std.proofs.Common.{◌≡◌, ℕ, ◌+◌, ◌-◌, Bool, true, false, List, Some, refl, sym, ◌∙◌, take}
use Rattle.tso_program.specs.declared.listing.Listing.{Listing}
use Rattle.tso_program.specs.Listings.{gap_count}
use Rattle.tso_program.specs.Limits.{JumpForward}
use Rattle.tso_machine.specs.declared.label.Label.{Label}
use Rattle.tso_machine.specs.Machine.{no_gaps, StoreBufferMachine, State, run, start, passes}
use Rattle.tso_machine.proofs.Avoided.{run_fenced}
use Rattle.tso_program.proofs.Gaps.{gap_is}
use Rattle.tso_machine.specs.FenceLaws.{PassesNoGap}
use Rattle.tso_machine.specs.FenceLaws.{ARunThatPassesNothingIsSequential, ARunWithNothingPassedIsSequential}
use Rattle.std.specs.Ordering.{nat_cmp}
use Rattle.std.specs.FinSet as set
use Rattle.tso_machine.proofs.{WaitingEverywhere.all, WaitingEverywhere.to_sequential, PassedPlaces.passed_inside}

-- a place that is passed would be a gap
no_place_passed : (p : Listing) (labels : List Label) (last : State) (t k : ℕ) → JumpForward p.threads → run p (StoreBufferMachine no_gaps) (start p) labels ≡ Some last → PassesNoGap p labels →
    passes p (StoreBufferMachine no_gaps) (start p) labels t k ≡ false
no_place_passed p labels last t k forward r none = by_test (passes p (StoreBufferMachine no_gaps) (start p) labels t k) refl
  where
    by_test : (b : Bool) → passes p (StoreBufferMachine no_gaps) (start p) labels t k ≡ b → b ≡ false
    by_test false e = refl
    by_test true e =
        let inside = passed_inside p forward labels (start p) last t k r (λ u h. refl) e in
        let gap = gap_count (take t p.threads) + (k - 1) in
        absurd (none gap (t, k, gap_is p.threads t k gap inside.past_first inside.before_end refl, e))

-- so every place may be fenced
pub nothing_passed : ARunThatPassesNothingIsSequential
nothing_passed q labels o forward (whole, (last, r, ended, e), shown) none =
    let p : Listing = q.program in
    let (ls, is_run) = to_sequential p labels whole (last, run_fenced p all labels (start p) last r (λ t k fenced. no_place_passed p labels last t k forward r none), ended, e) in
    (ls, (whole, is_run, shown))

-- a run whose passed gaps are the empty set passes none
pub empty_passed : ARunWithNothingPassedIsSequential
empty_passed q labels o forward is_run are_passed =
    nothing_passed q labels o forward is_run (λ gap passes. let no : false ≡ true = sym (set.contains-empty nat_cmp gap) ∙ (are_passed gap).1 passes in cc)
