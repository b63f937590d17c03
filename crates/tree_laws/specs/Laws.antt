-- What trees mean.
use Rattle.std.specs.Prelude.{◌≡◌, ◌↔◌, ◌⊎◌, ℕ, ◌+◌, ◌≤◌, List, [], Contains, All, sum_by}
use Rattle.std.specs.List.{AllZip}
use Rattle.gap_sets.specs.Gaps.{SetOfGaps}
use Rattle.gap_sets.specs.Order.{cost_of, total, Better}
use Rattle.gap_sets.specs.Ties.{IsAllowed}
use Rattle.gap_sets.specs.Regions.{all_sets, IsInRegion, child_regions, HasNoneOf}
use Rattle.gap_sets.specs.declared.region.Region.{Region}
use Rattle.tso_program.specs.declared.listing.Listing.{Listing}
use Rattle.tso_program.specs.declared.outcome.Outcome.{Outcome}
use Rattle.tso_program.specs.declared.question.Question.{Question}
use Rattle.tso_program.specs.declared.shown.Shown.{Shown}
use Rattle.tso_program.specs.Shown.{asked_with}
use Rattle.tso_program.specs.Limits.{JumpForward, IsWithinLimits}
use Rattle.tso_machine.specs.declared.label.Label.{Label}
use Rattle.tso_machine.specs.Machine.{Machine, SequentialMachine, StoreBufferMachine}
use Rattle.tso_machine.specs.Outcomes.{gaps_named, AllowsShown, IsSequentialOutcome, Serves, IsForeignRun, AreGapsOf, EachBetterLeavesOutcome, IsTheAnswer, Headline}
use Rattle.candidate_executions.specs.declared.event.Event.{Event}
use Rattle.candidate_executions.specs.Sketches.{Sketch, empty_sketch, IsSketch, IsWhole}
use Rattle.candidate_executions.specs.Settled.{IsSettled}
use Rattle.cert_forest.specs.Trees.{Cover, Gap, covers_of, gap_trees_of}
use Rattle.tree_laws.specs.declared.choice.Choice.{Choice}
use Rattle.tree_laws.specs.declared.choice.OpenChoice.{OpenChoice}
use Rattle.cert_forest.specs.Rule.{Rule}
use Rattle.tree_laws.specs.CoverTrees.{HasNextValuesBy, HasSourcesBy, AreChoicesBy, IsValidCoverBy, AreValidCoversBy, IsCovered}
use Rattle.tree_laws.specs.TighterModes.{IsNoLooser, in_mode}
use Rattle.tree_laws.specs.Packings.{IsPacking, IsCheapestOf, with_gaps, HavePositiveCosts, MeetsEach}
use Rattle.tree_laws.specs.GapTrees.{SomePassesNone, IsSplitBy, IsBoundBy, IsValidGap, AreValidGaps, SomeRunAvoidsEachBetter, EachBetterOfRegionLeavesOutcome, NoServingSetIsBetter, HaveCosts}
use Rattle.cert_forest.specs.Certificates.{Certificate}
use Rattle.tree_laws.specs.Certificates.{AreSequentialRuns, names_of, IsValidCertificate}

-- a cover tree that is valid at a sketch by the rule covers it
abbrev pub AValidCoverCovers : Rule → Type 0
AValidCoverCovers rule = (q : Question) (mode : Machine) (outcomes : List Outcome) (tree : Cover) (k : Sketch) → JumpForward q.program.threads →
    IsSketch q.program mode k → IsValidCoverBy rule q mode outcomes tree k → IsCovered q mode outcomes k

-- where the sketch with no choice is covered, each outcome of the mode's machine is in the list
abbrev pub ACoveredListHasEachOutcome : Type 0
ACoveredListHasEachOutcome = (q : Question) (mode : Machine) (outcomes : List Outcome) (o : Outcome) → JumpForward q.program.threads →
    IsCovered q mode outcomes (empty_sketch q.program) → AllowsShown q mode o → Contains outcomes o

-- the list has the sequential outcomes and no others
abbrev pub IsSequentialList : Question → List Outcome → Type 0
IsSequentialList q outcomes = (o : Outcome) → Contains outcomes o ↔ IsSequentialOutcome q o

-- sequential runs and a valid tree in sequential mode make the list of their outcomes the sequential outcomes
abbrev pub AValidTreeMakesTheSequentialList : Rule → Type 0
AValidTreeMakesTheSequentialList rule = (q : Question) (runs : List (List Label)) (outcomes : List Outcome) (tree : Cover) → JumpForward q.program.threads →
    AreSequentialRuns q runs outcomes → IsValidCoverBy rule q SequentialMachine outcomes tree (empty_sketch q.program) → IsSequentialList q outcomes

-- and a valid tree with the gaps of a set fenced, over that list, says that the set serves
abbrev pub AValidFencedTreeServes : Rule → Type 0
AValidFencedTreeServes rule = (q : Question) (gaps : SetOfGaps) (outcomes : List Outcome) (tree : Cover) → JumpForward q.program.threads →
    IsSequentialList q outcomes → IsValidCoverBy rule q (StoreBufferMachine (gaps_named q gaps)) outcomes tree (empty_sketch q.program) → Serves q gaps

-- a cover tree that is valid is valid whatever gaps go together
abbrev pub TiesChangeNoCover : Rule → Type 0
TiesChangeNoCover rule = (p : Listing) (shown : Shown) (ties others : List ℕ) (mode : Machine) (outcomes : List Outcome) (tree : Cover) (k : Sketch) →
    IsValidCoverBy rule (asked_with ties p shown) mode outcomes tree k → IsValidCoverBy rule (asked_with others p shown) mode outcomes tree k

-- A cover tree that is valid in a mode is valid in each mode that is no looser, its cycles being of that mode's unions: known
-- edges only grow.
abbrev pub ATighterModeKeepsACover : Rule → Type 0
ATighterModeKeepsACover rule = (q : Question) (loose tight : Machine) (outcomes : List Outcome) (tree : Cover) (k : Sketch) → IsNoLooser loose tight →
    IsValidCoverBy rule q loose outcomes tree k → IsValidCoverBy rule q tight outcomes (in_mode tight tree) k

-- the values of a thread's next read stay the same
abbrev pub ATighterModeKeepsTheValues : Rule → Type 0
ATighterModeKeepsTheValues rule = (p : Listing) (loose tight : Machine) (k : Sketch) (t : ℕ) (values : List ℕ) → IsNoLooser loose tight →
    HasNextValuesBy rule p loose k t values → HasNextValuesBy rule p tight k t values

-- a sketch in which each read has its value stays one
abbrev pub ATighterModeKeepsAWholeSketch : Type 0
ATighterModeKeepsAWholeSketch = (p : Listing) (loose tight : Machine) (k : Sketch) → IsNoLooser loose tight → IsWhole p loose k → IsWhole p tight k

-- a settled read stays one
abbrev pub ATighterModeKeepsASettledRead : Type 0
ATighterModeKeepsASettledRead = (p : Listing) (loose tight : Machine) (k : Sketch) (e : Event) → IsNoLooser loose tight → IsSettled p loose k e → IsSettled p tight k e

-- the labels are a foreign run
abbrev pub IsForeign : Question → List Label → Type 0
IsForeign q labels = (o : Outcome) × IsForeignRun q labels o

-- a set of a region has none of the gaps that split it, or is in the region of a child
abbrev pub ASplitLosesNoSet : Type 0
ASplitLosesNoSet = (region : Region) (gaps : List ℕ) (other : SetOfGaps) → IsInRegion region other →
    ((child : Region) × Contains (child_regions region gaps) child × IsInRegion child other) ⊎ HasNoneOf other gaps

-- of the sets that hold `must` and have a gap of each list of a packing, `must` with the cheapest gap of each is the best
abbrev pub TheCheapestOfEachAreTheBest : Type 0
TheCheapestOfEachAreTheBest = (costs : List ℕ) (must other : SetOfGaps) (lists : List (List ℕ)) (cheapest : List ℕ) →
    HavePositiveCosts costs lists → IsPacking lists → MeetsEach costs must lists other → AllZip (IsCheapestOf costs) lists cheapest →
    (with_gaps must cheapest ≡ other) ⊎ Better costs (with_gaps must cheapest) other

-- so each of them costs at least what `must` and the cheapest gaps cost together
abbrev pub EachCostsAtLeastTheSum : Type 0
EachCostsAtLeastTheSum = (costs : List ℕ) (must other : SetOfGaps) (lists : List (List ℕ)) (cheapest : List ℕ) →
    HavePositiveCosts costs lists → IsPacking lists → MeetsEach costs must lists other → AllZip (IsCheapestOf costs) lists cheapest →
    total costs must + sum_by (cost_of costs) cheapest ≤ total costs other

-- a bound by foreign runs says of its region that each better set leaves an outcome
abbrev pub ABoundByRunsLeavesNoBetter : Type 0
ABoundByRunsLeavesNoBetter = (q : Question) (costs : List ℕ) (answer : SetOfGaps) (runs : List (List Label)) (region : Region) (numbers : List ℕ) →
    IsWithinLimits q.program.threads q.program.memory → HaveCosts q.program costs → All (IsForeign q) runs →
    IsBoundBy q costs answer runs region numbers → EachBetterOfRegionLeavesOutcome q costs answer region

-- without runs `must` alone is compared
abbrev pub NoRunsBoundByMust : Type 0
NoRunsBoundByMust = (q : Question) (costs : List ℕ) (answer : SetOfGaps) (runs : List (List Label)) (region : Region) →
    IsBoundBy q costs answer runs region [] ↔ (¬ Better costs region.must answer)

-- a valid gap tree says of its region that of each better set one of the runs passes no gap
abbrev pub AValidGapTreeAvoidsEachBetter : Type 0
AValidGapTreeAvoidsEachBetter = (q : Question) (costs : List ℕ) (answer : SetOfGaps) (runs : List (List Label)) (tree : Gap) (region : Region) →
    IsWithinLimits q.program.threads q.program.memory → HaveCosts q.program costs → IsValidGap q costs answer runs tree region → SomeRunAvoidsEachBetter q costs answer runs region

-- over foreign runs it says of its region that each better set leaves an outcome
abbrev pub AValidGapTreeLeavesNoBetter : Type 0
AValidGapTreeLeavesNoBetter = (q : Question) (costs : List ℕ) (answer : SetOfGaps) (runs : List (List Label)) (tree : Gap) (region : Region) →
    IsWithinLimits q.program.threads q.program.memory → HaveCosts q.program costs → All (IsForeign q) runs →
    IsValidGap q costs answer runs tree region → EachBetterOfRegionLeavesOutcome q costs answer region

-- so no serving set of the region is better
abbrev pub SoNoServingSetIsBetter : Type 0
SoNoServingSetIsBetter = (q : Question) (costs : List ℕ) (answer : SetOfGaps) (region : Region) →
    EachBetterOfRegionLeavesOutcome q costs answer region → NoServingSetIsBetter q costs answer region

-- what holds of the root, whose region is that of all sets, holds of every set of the program's gaps
abbrev pub TheRootHasEverySet : Type 0
TheRootHasEverySet = (q : Question) (costs : List ℕ) (answer : SetOfGaps) →
    EachBetterOfRegionLeavesOutcome q costs answer all_sets → EachBetterLeavesOutcome q costs answer

-- trees in order are valid exactly where there are as many as sketches, each valid at its own
abbrev pub CoversAreJudgedInOrder : Rule → Type 0
CoversAreJudgedInOrder rule = (q : Question) (mode : Machine) (outcomes : List Outcome) (trees : List Cover) (ks : List Sketch) →
    AreValidCoversBy rule q mode outcomes (covers_of trees) ks ↔ AllZip (IsValidCoverBy rule q mode outcomes) trees ks

-- gap trees in order are valid exactly where there are as many as regions, each valid at its own
abbrev pub GapsAreJudgedInOrder : Type 0
GapsAreJudgedInOrder = (q : Question) (costs : List ℕ) (answer : SetOfGaps) (runs : List (List Label)) (trees : List Gap) (regions : List Region) →
    AreValidGaps q costs answer runs (gap_trees_of trees) regions ↔ AllZip (IsValidGap q costs answer runs) trees regions

-- what the children of a node are for is determined, and so their number: the values of a read
abbrev pub TheValuesAreOneList : Rule → Type 0
TheValuesAreOneList rule = (p : Listing) (mode : Machine) (k : Sketch) (t : ℕ) (xs ys : List ℕ) →
    HasNextValuesBy rule p mode k t xs → HasNextValuesBy rule p mode k t ys → xs ≡ ys

-- its sources
abbrev pub TheSourcesAreOneList : Rule → Type 0
TheSourcesAreOneList rule = (p : Listing) (mode : Machine) (k : Sketch) (e : Event) (xs ys : List Event) →
    HasSourcesBy rule p mode k e xs → HasSourcesBy rule p mode k e ys → xs ≡ ys

-- so the choices of what is open, whatever is
abbrev pub TheChoicesAreOneList : Rule → Type 0
TheChoicesAreOneList rule = (p : Listing) (mode : Machine) (k : Sketch) (next : OpenChoice) (xs ys : List Choice) →
    AreChoicesBy rule p mode k next xs → AreChoicesBy rule p mode k next ys → xs ≡ ys

-- the gaps that split a region
abbrev pub TheGapsAreOneList : Type 0
TheGapsAreOneList = (q : Question) (runs : List (List Label)) (region : Region) (number : ℕ) (xs ys : List ℕ) →
    IsSplitBy q runs region number xs → IsSplitBy q runs region number ys → xs ≡ ys

-- the cheapest gaps of lists
abbrev pub TheCheapestAreOneList : Type 0
TheCheapestAreOneList = (costs : List ℕ) (lists : List (List ℕ)) (xs ys : List ℕ) →
    AllZip (IsCheapestOf costs) lists xs → AllZip (IsCheapestOf costs) lists ys → xs ≡ ys

-- so whether runs bound a region: by the gaps that each of them passes outside `never`
abbrev pub TheBoundIsDecided : Type 0
TheBoundIsDecided = (q : Question) (costs : List ℕ) (answer : SetOfGaps) (runs : List (List Label)) (region : Region) (numbers : List ℕ) (gaps : List (List ℕ)) →
    AllZip (IsSplitBy q runs region) numbers gaps →
    IsBoundBy q costs answer runs region numbers
    ↔ (IsPacking gaps × ((cheapest : List ℕ) → AllZip (IsCheapestOf costs) gaps cheapest → ¬ Better costs (with_gaps region.must cheapest) answer))

-- The headline holds of the names of a valid certificate's set, whichever rule it has, and they are the answer; the set has the gaps that they stand for. Its runs
-- are foreign, and of each better set one of them passes no gap.
pub record IsProved (q : Question) (costs : List ℕ) (c : Certificate) : Type 0 where
  pub headline : Headline q costs (names_of q c)
  pub answer : IsTheAnswer q costs (names_of q c)
  pub allowed : IsAllowed q.ties c.gaps
  pub foreign : All (IsForeign q) c.runs
  pub avoided : (other : SetOfGaps) → AreGapsOf q.program other → Better costs other (names_of q c) → SomePassesNone q c.runs other

abbrev pub AValidCertificateProves : Type 0
AValidCertificateProves = (q : Question) (costs : List ℕ) (c : Certificate) → IsWithinLimits q.program.threads q.program.memory →
    All (λ cost. 1 ≤ cost) costs → IsValidCertificate q costs c → IsProved q costs c
