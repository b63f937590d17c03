-- What texts stand for is determined.
use Rattle.std.specs.Prelude.{◌≡◌, ◌≤◌, ℕ, List, Option}
use Rattle.gap_sets.specs.Gaps.{SetOfGaps}
use Rattle.gap_sets.specs.Order.{total}
use Rattle.gap_sets.specs.declared.ties.TiedCosts.{TiedCosts}
use Rattle.tso_program.specs.declared.listing.Thread.{Thread}
use Rattle.tso_program.specs.declared.listing.Listing.{Listing}
use Rattle.tso_program.specs.declared.shown.ShownKind.TheVariants.{Observed, Condition}
use Rattle.tso_machine.specs.Outcomes.{Serves, IsTheAnswer}
use Rattle.litmus_reader.specs.declared.litmus.Litmus.{Litmus}
use Rattle.litmus_reader.specs.Shown.{question_of}
use Rattle.litmus_reader.specs.Texts.{StandsFor, IsLitmus, IsFencedLitmus}
use Rattle.cost_text.specs.CostTexts.{IsCostText}
use Rattle.cost_text.specs.GivenCosts.{AreGiven}

-- a litmus text stands for one test, whatever the size of its program
abbrev pub ATextStandsForOneTest : Type 0
ATextStandsForOneTest = (text : List ℕ) (one other : Litmus Listing) → StandsFor text one → StandsFor text other → one ≡ other

-- so it is the text of one program within the limits
abbrev pub ATextIsOfOneProgram : Type 0
ATextIsOfOneProgram = (text : List ℕ) (one other : Litmus Listing) → IsLitmus text one → IsLitmus text other → one ≡ other

-- and of one program within the limits of a fenced one
abbrev pub ATextIsOfOneFencedProgram : Type 0
ATextIsOfOneFencedProgram = (text : List ℕ) (one other : Litmus Listing) → IsFencedLitmus text one → IsFencedLitmus text other → one ≡ other

-- a cost text gives the gaps of these threads one list of costs, and one of ties
abbrev pub ATextGivesOneListOfCosts : Type 0
ATextGivesOneListOfCosts = (text : List ℕ) (threads : List Thread) (one other : TiedCosts) → IsCostText text threads one → IsCostText text threads other → one ≡ other

-- so does a text that may be missing: without it each gap costs 1, and is a tie of its own
abbrev pub TheCostsAreOneList : Type 0
TheCostsAreOneList = (p : Listing) (text : Option (List ℕ)) (one other : TiedCosts) → AreGiven p text one → AreGiven p text other → one ≡ other

-- what serves for the values that a text names serves for the truth of its condition
abbrev pub TheNamesServeTheCondition : Type 0
TheNamesServeTheCondition = (text : List ℕ) (litmus : Litmus Listing) (gaps : SetOfGaps) → IsLitmus text litmus → Serves (question_of litmus Observed) gaps → Serves (question_of litmus Condition) gaps

-- so the answer for the condition costs no more than that for the names
abbrev pub AConditionsAnswerCostsNoMore : Type 0
AConditionsAnswerCostsNoMore = (text : List ℕ) (litmus : Litmus Listing) (costs : List ℕ) (of_truth of_names : SetOfGaps) → IsLitmus text litmus →
    IsTheAnswer (question_of litmus Condition) costs of_truth → IsTheAnswer (question_of litmus Observed) costs of_names → total costs of_truth ≤ total costs of_names
