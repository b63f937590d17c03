-- What holds of the listed outcomes, and of the answer.
use Rattle.std.specs.Prelude.{◌≡◌, ◌↔◌, ◌⊎◌, ℕ, ◌*◌, ◌<◌, ◌≤◌, Bool, true, false, List, length, Some, Contains, MatchOption}
use Rattle.std.specs.FinSet as set
use Rattle.gap_sets.specs.Gaps.{SetOfGaps}
use Rattle.gap_sets.specs.Order.{total, Better}
use Rattle.gap_sets.specs.CostLists.{IsCostList}
use Rattle.gap_sets.specs.declared.gap_set.TheConstants.{MAX_GAPS}
use Rattle.gap_sets.specs.declared.costs.TheConstants.{MAX_COST}
use Rattle.tso_program.specs.declared.listing.Listing.{Listing}
use Rattle.tso_program.specs.declared.outcome.Outcome.{Outcome}
use Rattle.tso_program.specs.declared.question.Question.{Question}
use Rattle.tso_program.specs.Limits.{JumpForward, IsWithinLimits}
use Rattle.tso_machine.specs.declared.label.Label.{Label}
use Rattle.tso_machine.specs.Machine.{Machine, State, start, run}
use Rattle.tso_machine.specs.Outcomes.{AllowsShown, Serves, LeavesOutcome, AreGapsOf, IsTheAnswer, Headline}
use Rattle.the_answer.specs.OutcomeLists.{most_labels, outcomes_of}
use Rattle.the_answer.specs.Answers.{does_serve, best_of, the_answer, least_cost}

-- no run has more labels than that
abbrev pub RunsAreBounded : Type 0
RunsAreBounded = (p : Listing) (mode : Machine) (labels : List Label) (last : State) → JumpForward p.threads →
    run p mode (start p) labels ≡ Some last → length labels ≤ most_labels p

-- the list has what the machine's runs show, and nothing else
abbrev pub OutcomesAreListed : Type 0
OutcomesAreListed = (q : Question) (mode : Machine) (o : Outcome) → JumpForward q.program.threads → Contains (outcomes_of q mode) o ↔ AllowsShown q mode o

-- so it is decided whether some run of the machine shows an outcome
abbrev pub EachOutcomeIsAllowedOrNot : Type 0
EachOutcomeIsAllowedOrNot = (q : Question) (mode : Machine) (o : Outcome) → JumpForward q.program.threads → AllowsShown q mode o ⊎ ¬ AllowsShown q mode o

-- what the test says of a set of gaps
pub record TellsWhatServes (q : Question) (gaps : SetOfGaps) : Type 0 where
  pub serves : (does_serve q gaps ≡ true) ↔ Serves q gaps
  pub leaves : (does_serve q gaps ≡ false) ↔ LeavesOutcome q gaps

abbrev pub TheTestTellsWhatServes : Type 0
TheTestTellsWhatServes = (q : Question) (gaps : SetOfGaps) → JumpForward q.program.threads → TellsWhatServes q gaps

-- a set serves, or leaves an outcome that no sequential run has
abbrev pub EachSetServesOrLeavesAnOutcome : Type 0
EachSetServesOrLeavesAnOutcome = (q : Question) (gaps : SetOfGaps) → JumpForward q.program.threads → Serves q gaps ⊎ LeavesOutcome q gaps

-- the gaps of the set are below n
abbrev pub AreBelow : ℕ → SetOfGaps → Type 0
AreBelow n gaps = (gap : ℕ) → set.contains gaps gap ≡ true → gap < n

-- no set of gaps below n passes the test
abbrev pub NonePasses : (SetOfGaps → Bool) → ℕ → Type 0
NonePasses test n = (other : SetOfGaps) → AreBelow n other → test other ≡ false

-- of the sets of gaps below n that pass the test none is better
pub record IsBest (test : SetOfGaps → Bool) (costs : List ℕ) (n : ℕ) (gaps : SetOfGaps) : Type 0 where
  pub below : AreBelow n gaps
  pub passes : test gaps ≡ true
  pub least : (other : SetOfGaps) → AreBelow n other → Better costs other gaps → test other ≡ false

-- the best set of gaps below n that passes the test is found, where one passes
abbrev pub TheBestSetIsFound : Type 0
TheBestSetIsFound = (test : SetOfGaps → Bool) (costs : List ℕ) (n : ℕ) →
    MatchOption (best_of test costs n 0 set.empty) (NonePasses test n) (IsBest test costs n)

-- the answer exists
abbrev pub TheAnswerExists : Type 0
TheAnswerExists = (q : Question) (costs : List ℕ) → JumpForward q.program.threads → IsTheAnswer q costs (the_answer q costs)

-- and no other set is the answer
abbrev pub TheAnswerIsThatSet : Type 0
TheAnswerIsThatSet = (q : Question) (costs : List ℕ) (gaps : SetOfGaps) → IsWithinLimits q.program.threads q.program.memory →
    IsTheAnswer q costs gaps ↔ (gaps ≡ the_answer q costs)

-- so the headline holds of that set, and of no other
abbrev pub TheHeadlineIsOfThatSet : Type 0
TheHeadlineIsOfThatSet = (q : Question) (costs : List ℕ) (gaps : SetOfGaps) → IsWithinLimits q.program.threads q.program.memory →
    Headline q costs gaps ↔ (gaps ≡ the_answer q costs)

-- no set that serves costs less
abbrev pub NoServingSetCostsLess : Type 0
NoServingSetCostsLess = (q : Question) (costs : List ℕ) (gaps : SetOfGaps) → JumpForward q.program.threads → AreGapsOf q.program gaps → Serves q gaps →
    least_cost q costs ≤ total costs gaps

-- the least cost is at most that of so many gaps of the greatest cost
abbrev pub TheLeastCostIsLimited : Type 0
TheLeastCostIsLimited = (q : Question) (costs : List ℕ) → IsCostList costs → least_cost q costs ≤ MAX_GAPS * MAX_COST

-- a set of which the headline holds, with its cost, is the answer with the least cost
abbrev pub TheHeadlineTellsTheAnswer : Type 0
TheHeadlineTellsTheAnswer = (q : Question) (costs : List ℕ) (gaps : SetOfGaps) (cost : ℕ) → IsWithinLimits q.program.threads q.program.memory →
    Headline q costs gaps → cost ≡ total costs gaps → (gaps ≡ the_answer q costs) × (cost ≡ least_cost q costs)
