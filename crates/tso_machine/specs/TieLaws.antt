-- What holds of gaps that go together.
use Rattle.std.specs.Prelude.{◌≡◌, ◌↔◌, ℕ, ◌≤◌, true, List, [], ◌∷◌, All, length}
use Rattle.std.specs.FinSet as set
use Rattle.gap_sets.specs.Gaps.{SetOfGaps}
use Rattle.gap_sets.specs.Laws.{these}
use Rattle.gap_sets.specs.Order.{Better, cost_of, total}
use Rattle.gap_sets.specs.Ties.{AreTies, IsAllowed, names_in, spread}
use Rattle.tso_program.specs.declared.outcome.Outcome.{Outcome}
use Rattle.tso_program.specs.declared.question.Question.{Question}
use Rattle.tso_program.specs.declared.listing.Listing.{Listing}
use Rattle.tso_program.specs.declared.shown.Shown.{Shown}
use Rattle.tso_program.specs.Fences.{gaps_in}
use Rattle.tso_program.specs.Limits.{IsWithinLimits}
use Rattle.tso_program.specs.Listings.{gap_count}
use Rattle.tso_program.specs.Shown.{asked}
use Rattle.tso_machine.specs.declared.label.Label.{Label}
use Rattle.tso_machine.specs.Machine.{StoreBufferMachine, no_gaps, IsRun}
use Rattle.tso_machine.specs.Modes.{ArePassed}
use Rattle.tso_machine.specs.Outcomes.{gaps_named, PassesNoNameOf, ArePassedNames, AreGapsOf, Serves, LeavesOutcome, IsTheAnswer}

-- the question, where each gap is a tie of its own
abbrev pub untied : Question → Question
untied q = record q { ties = [] }

-- without ties a set stands for its own gaps
abbrev pub WithoutTiesAGapIsItsName : Type 0
WithoutTiesAGapIsItsName = (p : Listing) (shown : Shown) (gaps : SetOfGaps) → gaps_named (asked p shown) gaps ≡ gaps_in p gaps

-- and the names that a run passes are the gaps that it passes
abbrev pub WithoutTiesPassedNamesAreGaps : Type 0
WithoutTiesPassedNamesAreGaps = (p : Listing) (shown : Shown) (labels : List Label) (gaps : SetOfGaps) →
    ArePassedNames (asked p shown) labels gaps ↔ ArePassed p (StoreBufferMachine no_gaps) labels gaps

-- the names of the gaps that a run passes are the names that it passes
abbrev pub NamesOfPassedGapsArePassed : Type 0
NamesOfPassedGapsArePassed = (q : Question) (labels : List Label) (gaps : SetOfGaps) →
    ArePassed q.program (StoreBufferMachine no_gaps) labels gaps → ArePassedNames q labels (names_in q.ties gaps)

-- a run is a run with the gaps of names fenced exactly where it passes none of these names
abbrev pub PassedNamesTellTheFencedRuns : Type 0
PassedNamesTellTheFencedRuns = (q : Question) (names passed : SetOfGaps) (labels : List Label) (o : Outcome) →
    IsRun q.program (StoreBufferMachine no_gaps) labels o → ArePassedNames q labels passed →
    IsRun q.program (StoreBufferMachine (gaps_named q names)) labels o ↔ ((name : ℕ) → set.contains passed name ≡ true → ¬ (set.contains names name ≡ true))

-- the runs with the gaps of names fenced are those with no gap fenced that pass none of these names
abbrev pub FencedRunsPassNoName : Type 0
FencedRunsPassNoName = (q : Question) (names : SetOfGaps) (labels : List Label) (o : Outcome) →
    IsRun q.program (StoreBufferMachine (gaps_named q names)) labels o ↔ (IsRun q.program (StoreBufferMachine no_gaps) labels o × PassesNoNameOf q names labels)

-- a set of names serves exactly where the gaps that it stands for serve without ties
abbrev pub NamesServeAsTheirGaps : Type 0
NamesServeAsTheirGaps = (q : Question) (names : SetOfGaps) → Serves q names ↔ Serves (untied q) (spread q.ties names)

-- each gap of the program has a cost, none is free, and no tie reaches past the gaps
pub record HavePrices (q : Question) (costs : List ℕ) : Type 0 where
  pub within : IsWithinLimits q.program.threads q.program.memory
  pub one_each : length costs ≡ gap_count q.program.threads
  pub positive : All (λ cost. 1 ≤ cost) costs
  pub ties : AreTies q.ties
  pub few_ties : length q.ties ≤ gap_count q.program.threads

-- of the sets that have of each tie all gaps or none: the set serves, and each that is better leaves an outcome, where a tie counts once
pub record IsBestAllowed (q : Question) (costs : List ℕ) (gaps : SetOfGaps) : Type 0 where
  pub of_program : AreGapsOf q.program gaps
  pub allowed : IsAllowed q.ties gaps
  pub serves : Serves (untied q) gaps
  pub least : (other : SetOfGaps) → AreGapsOf q.program other → IsAllowed q.ties other → Better costs (names_in q.ties other) (names_in q.ties gaps) →
      LeavesOutcome (untied q) other

-- the gaps that the answer stands for are the best of these, and it has their names
abbrev pub TheAnswerIsTheBestAllowedSet : Type 0
TheAnswerIsTheBestAllowedSet = (q : Question) (costs : List ℕ) (names : SetOfGaps) → HavePrices q costs →
    IsTheAnswer q costs names → IsBestAllowed q costs (spread q.ties names) × (names_in q.ties (spread q.ties names) ≡ names)

-- the answer without ties costs no more than one with them, where each tie of that costs at least what its gaps cost together
abbrev pub AnAnswerWithoutTiesCostsNoMore : Type 0
AnAnswerWithoutTiesCostsNoMore = (q : Question) (costs tied : List ℕ) (gaps names : SetOfGaps) → length q.ties ≤ gap_count q.program.threads →
    ((name : ℕ) → set.contains names name ≡ true → total costs (spread q.ties (these (name ∷ []))) ≤ cost_of tied name) →
    IsTheAnswer (untied q) costs gaps → IsTheAnswer q tied names → total costs gaps ≤ total tied names
