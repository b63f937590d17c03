-- What holds of every program, its runs and its fences.
use Rattle.std.specs.Prelude.{◌≡◌, ◌↔◌, ℕ, ◌<◌, ◌≤◌, Bool, true, List}
use Rattle.std.specs.FinSet as set
use Rattle.gap_sets.specs.Gaps.{SetOfGaps}
use Rattle.gap_sets.specs.Order.{total}
use Rattle.tso_program.specs.declared.listing.Listing.{Listing}
use Rattle.tso_program.specs.declared.outcome.Outcome.{Outcome}
use Rattle.tso_program.specs.declared.shown.Shown.{Shown, TheVariants.All, TheVariants.Truth}
use Rattle.tso_program.specs.Shown.{asked, ShowsValues}
use Rattle.tso_program.specs.declared.question.Question.{Question}
use Rattle.tso_program.specs.declared.atom.Atom.{Atom}
use Rattle.tso_program.specs.Tree.{Tree}
use Rattle.tso_program.specs.Truth.{truth}
use Rattle.tso_program.specs.Laws.{IsReadOff, ShowsAtoms}
use Rattle.tso_program.specs.Listings.{gap_count}
use Rattle.tso_program.specs.Limits.{JumpForward, IsWithinLimits}
use Rattle.tso_program.specs.Fences.{Gaps, gaps_in}
use Rattle.tso_machine.specs.declared.label.Label.{Label}
use Rattle.tso_machine.specs.Machine.{Machine, SequentialMachine, StoreBufferMachine, no_gaps, start, IsRun}
use Rattle.tso_machine.specs.Modes.{Passes, ArePassed}
use Rattle.tso_machine.specs.Outcomes.{IsShownRun, IsSequentialOutcome, IsStoreBufferOutcome, Serves, IsTheAnswer, fenced_at, Headline}

-- each jump of a program within the limits leads forward
abbrev pub ProgramsJumpForward : Type 0
ProgramsJumpForward = (p : Listing) → IsWithinLimits p.threads p.memory → JumpForward p.threads

-- the labels pass no gap of the program, where none is fenced
abbrev pub PassesNoGap : Listing → List Label → Type 0
PassesNoGap p labels = (gap : ℕ) → ¬ Passes p (StoreBufferMachine no_gaps) (start p) labels gap

-- the labels pass no gap of the set, where none is fenced
abbrev pub PassesNoGapOf : Listing → SetOfGaps → List Label → Type 0
PassesNoGapOf p gaps labels = (gap : ℕ) → set.contains gaps gap ≡ true → ¬ Passes p (StoreBufferMachine no_gaps) (start p) labels gap

-- the set has every gap of the program
abbrev pub HasEveryGapOf : Listing → SetOfGaps → Type 0
HasEveryGapOf p gaps = (gap : ℕ) → gap < gap_count p.threads → set.contains gaps gap ≡ true

-- each sequential outcome is a store buffer outcome, whatever gaps are fenced
abbrev pub SequentialRunsAreAllowed : Type 0
SequentialRunsAreAllowed = (q : Question) (gaps : Gaps) (o : Outcome) → IsSequentialOutcome q o → IsStoreBufferOutcome q gaps o

-- the runs with a set fenced are those with no gap fenced that pass no gap of the set, with the same outcomes
abbrev pub FencedRunsPassNoGapOfTheSet : Type 0
FencedRunsPassNoGapOfTheSet = (p : Listing) (gaps : SetOfGaps) (labels : List Label) (o : Outcome) →
    IsRun p (StoreBufferMachine (gaps_in p gaps)) labels o ↔ (IsRun p (StoreBufferMachine no_gaps) labels o × PassesNoGapOf p gaps labels)

-- so a run is a run with a set fenced exactly where no gap that it passes is in the set
abbrev pub PassedGapsTellTheFencedRuns : Type 0
PassedGapsTellTheFencedRuns = (p : Listing) (gaps passed : SetOfGaps) (labels : List Label) (o : Outcome) →
    IsRun p (StoreBufferMachine no_gaps) labels o → ArePassed p (StoreBufferMachine no_gaps) labels passed →
    IsRun p (StoreBufferMachine (gaps_in p gaps)) labels o ↔ ((gap : ℕ) → set.contains passed gap ≡ true → ¬ (set.contains gaps gap ≡ true))

-- with the empty set fenced no gap is
abbrev pub TheEmptySetFencesNothing : Type 0
TheEmptySetFencesNothing = (p : Listing) → gaps_in p set.empty ≡ no_gaps

-- a run that passes no gap has a sequential outcome
abbrev pub ARunThatPassesNothingIsSequential : Type 0
ARunThatPassesNothingIsSequential = (q : Question) (labels : List Label) (o : Outcome) → JumpForward q.program.threads →
    IsShownRun q (StoreBufferMachine no_gaps) labels o → PassesNoGap q.program labels → IsSequentialOutcome q o

-- a run whose passed gaps are the empty set has a sequential outcome
abbrev pub ARunWithNothingPassedIsSequential : Type 0
ARunWithNothingPassedIsSequential = (q : Question) (labels : List Label) (o : Outcome) → JumpForward q.program.threads →
    IsShownRun q (StoreBufferMachine no_gaps) labels o → ArePassed q.program (StoreBufferMachine no_gaps) labels set.empty → IsSequentialOutcome q o

-- a set that has every gap of the program serves
abbrev pub AllGapsServe : Type 0
AllGapsServe = (q : Question) (gaps : SetOfGaps) → JumpForward q.program.threads → HasEveryGapOf q.program gaps → Serves q gaps

-- the store buffer outcomes of the program with an MFENCE in each gap of the set are those of the program with the set fenced
abbrev pub FencingIsTheMachineWithGaps : Type 0
FencingIsTheMachineWithGaps = (q : Question) (gaps : Gaps) (o : Outcome) →
    IsStoreBufferOutcome (fenced_at gaps q) no_gaps o ↔ IsStoreBufferOutcome q gaps o

-- its sequential outcomes are those of the program
abbrev pub FencingKeepsSequentialOutcomes : Type 0
FencingKeepsSequentialOutcomes = (q : Question) (gaps : Gaps) (o : Outcome) →
    IsSequentialOutcome (fenced_at gaps q) o ↔ IsSequentialOutcome q o

-- the headline, of the program fenced at the set, says that the set is the answer
abbrev pub TheHeadlineIsTheAnswer : Type 0
TheHeadlineIsTheAnswer = (q : Question) (costs : List ℕ) (gaps : SetOfGaps) → Headline q costs gaps ↔ IsTheAnswer q costs gaps

-- two sets that are both the answer are the same set
abbrev pub TheAnswerIsTheOnlyOne : Type 0
TheAnswerIsTheOnlyOne = (q : Question) (costs : List ℕ) (one other : SetOfGaps) →
    IsWithinLimits q.program.threads q.program.memory → IsTheAnswer q costs one → IsTheAnswer q costs other → one ≡ other

-- what serves where more is shown serves where what is shown can be read off it: a part of it, or a formula's truth
abbrev pub WhatServesServesEachPart : Type 0
WhatServesServesEachPart = (p : Listing) (small large : Shown) (gaps : SetOfGaps) → IsReadOff small large → Serves (asked p large) gaps → Serves (asked p small) gaps

-- so what serves where everything is shown serves whatever is shown
abbrev pub WhatServesForAllServes : Type 0
WhatServesForAllServes = (p : Listing) (shown : Shown) (gaps : SetOfGaps) → Serves (asked p All) gaps → Serves (asked p shown) gaps

-- what serves where all is shown that a formula speaks of serves for its truth
abbrev pub WhatServesServesTheTruth : Type 0
WhatServesServesTheTruth = (p : Listing) (f : Tree Atom) (shown : Shown) (gaps : SetOfGaps) → ShowsValues shown → ShowsAtoms shown f →
    Serves (asked p shown) gaps → Serves (asked p (Truth f)) gaps

-- where less is shown the answer costs no more than where more is
abbrev pub AnObservedAnswerCostsNoMore : Type 0
AnObservedAnswerCostsNoMore = (p : Listing) (small large : Shown) (costs : List ℕ) (part whole : SetOfGaps) → IsReadOff small large →
    IsTheAnswer (asked p small) costs part → IsTheAnswer (asked p large) costs whole → total costs part ≤ total costs whole

-- nor does the answer for a formula's truth than that where all is shown that the formula speaks of
abbrev pub ATruthsAnswerCostsNoMore : Type 0
ATruthsAnswerCostsNoMore = (p : Listing) (f : Tree Atom) (shown : Shown) (costs : List ℕ) (of_truth of_values : SetOfGaps) → ShowsValues shown → ShowsAtoms shown f →
    IsTheAnswer (asked p (Truth f)) costs of_truth → IsTheAnswer (asked p shown) costs of_values → total costs of_truth ≤ total costs of_values

-- some run of the mode's machine ends with this truth of the formula
abbrev pub LeavesTruth : Listing → Machine → Tree Atom → Bool → Type 0
LeavesTruth p mode f b = (labels : List Label) × ((o : Outcome) × IsRun p mode labels o × (truth o f ≡ b))

-- a set serves for a formula's truth exactly where the store buffer runs, with its gaps fenced, leave the truths that sequential runs leave
abbrev pub AServedTruthIsKept : Type 0
AServedTruthIsKept = (p : Listing) (f : Tree Atom) (gaps : SetOfGaps) →
    Serves (asked p (Truth f)) gaps ↔ ((b : Bool) → LeavesTruth p (StoreBufferMachine (gaps_in p gaps)) f b ↔ LeavesTruth p SequentialMachine f b)
