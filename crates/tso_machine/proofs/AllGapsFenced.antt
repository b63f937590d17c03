-- With every gap fenced a run passes none, so its outcome is sequential.
use Rattle.std.proofs.Common.{arith, ◌∙◌}
use Rattle.gap_sets.specs.Gaps.{SetOfGaps}
use Rattle.gap_sets.specs.Ties.{name_of, spread}
use Rattle.gap_sets.proofs.Spreading.{spread_contains, no_greater}
use Rattle.tso_program.specs.declared.listing.Listing.{Listing}
use Rattle.tso_program.specs.declared.outcome.Outcome.{Outcome}
use Rattle.tso_program.specs.declared.question.Question.{Question}
use Rattle.tso_program.specs.Limits.{JumpForward}
use Rattle.tso_machine.specs.Machine.{start}
use Rattle.tso_program.proofs.Gaps.{gap_below}
use Rattle.tso_machine.specs.Outcomes.{gaps_named, IsStoreBufferOutcome, IsSequentialOutcome}
use Rattle.tso_machine.specs.FenceLaws.{HasEveryGapOf, AllGapsServe}
use Rattle.tso_machine.proofs.{SequentialIsBuffered.sequential_is_allowed, NothingPassed.nothing_passed, UnfencedRuns.unfenced, GapsAvoided.fenced_run_passes_none}

-- each gap is one that the names stand for, where the set has every gap: a name is no greater
stands : (q : Question) (gaps : SetOfGaps) → HasEveryGapOf q.program gaps → HasEveryGapOf q.program (spread q.ties gaps)
stands q gaps every gap below = spread_contains q.ties gaps gap ∙ every (name_of q.ties gap) (omega (arith, below, no_greater q.ties gap))

-- every gap of the program is one of the set, so the run passes none, and is sequential with no gap fenced
only_sequential : (q : Question) (gaps : SetOfGaps) (o : Outcome) → JumpForward q.program.threads → HasEveryGapOf q.program gaps →
    IsStoreBufferOutcome q (gaps_named q gaps) o → IsSequentialOutcome q o
only_sequential q gaps o forward every (labels, (whole, (last, r, ended, e), shown)) =
    let p : Listing = q.program in
    nothing_passed q labels o forward (whole, (last, unfenced p (gaps_named q gaps) labels (start p) last r, ended, e), shown)
    (λ gap (t, k, number, passed). fenced_run_passes_none p (spread q.ties gaps) labels last r gap (stands q gaps every gap (gap_below p.threads t k gap number)) (t, k, number, passed))

-- both ways
pub all_serve : AllGapsServe
all_serve q gaps forward every o = (only_sequential q gaps o forward every, sequential_is_allowed q (gaps_named q gaps) o)
