-- What a program may leave, as far as it is shown, which sets of gaps serve, and the answer (Bouajjani et al., ESOP 2013, for least sets of fences; outcomes in place of traces are this project's).
use Rattle.std.specs.Prelude.{◌≡◌, ◌↔◌, ℕ, ◌<◌, true, List}
use Rattle.std.specs.FinSet as set
use Rattle.gap_sets.specs.Gaps.{SetOfGaps}
use Rattle.gap_sets.specs.Order.{Better}
use Rattle.gap_sets.specs.Ties.{name_of, spread}
use Rattle.tso_program.specs.declared.listing.Listing.{Listing}
use Rattle.tso_program.specs.declared.outcome.Outcome.{Outcome}
use Rattle.tso_program.specs.Shown.{show}
use Rattle.tso_program.specs.declared.question.Question.{Question}
use Rattle.tso_program.specs.Listings.{gap_count}
use Rattle.tso_program.specs.Fences.{Gaps, gaps_in, fence}
use Rattle.tso_machine.specs.declared.label.Label.{Label}
use Rattle.tso_machine.specs.declared.label.Model.{Model}
use Rattle.tso_machine.specs.declared.replaying.Ended.{Ended}
use Rattle.tso_machine.specs.Machine.{Machine, SequentialMachine, StoreBufferMachine, no_gaps, start, IsRun}
use Rattle.tso_machine.specs.Modes.{unfenced, Passes, ArePassed}

-- the labels are a run of the mode's machine, and this is shown of its outcome
abbrev pub IsShownRun : Question → Machine → List Label → Outcome → Type 0
IsShownRun q mode labels o = (whole : Outcome) × IsRun q.program mode labels whole × (o ≡ show q.shown whole)

-- the labels are a run with no gap fenced, of which this outcome is shown, and which passes these gaps
pub record IsReplayOf (q : Question) (model : Model) (labels : List Label) (ended : Ended) : Type 0 where
  pub is_run : IsShownRun q (unfenced model) labels ended.outcome
  pub passed : ArePassed q.program (unfenced model) labels ended.passed

-- some run of the mode's machine shows the outcome
abbrev pub AllowsShown : Question → Machine → Outcome → Type 0
AllowsShown q mode o = (labels : List Label) × IsShownRun q mode labels o

-- the outcome is one of the program's sequential outcomes
abbrev pub IsSequentialOutcome : Question → Outcome → Type 0
IsSequentialOutcome q o = AllowsShown q SequentialMachine o

-- the gaps that a set of names stands for: those of the ties with these names
abbrev pub gaps_named : Question → SetOfGaps → Gaps
gaps_named q names = gaps_in q.program (spread q.ties names)

-- with no gap fenced the labels pass a gap of the tie of this name
abbrev pub PassesName : Question → List Label → ℕ → Type 0
PassesName q labels name = (gap : ℕ) × (name_of q.ties gap ≡ name) × Passes q.program (StoreBufferMachine no_gaps) (start q.program) labels gap

-- they pass no gap of the ties of these names
abbrev pub PassesNoNameOf : Question → SetOfGaps → List Label → Type 0
PassesNoNameOf q names labels = (name : ℕ) → set.contains names name ≡ true → ¬ PassesName q labels name

-- the set has the names of the ties of which they pass a gap, and no others
abbrev pub ArePassedNames : Question → List Label → SetOfGaps → Type 0
ArePassedNames q labels names = (name : ℕ) → (set.contains names name ≡ true) ↔ PassesName q labels name

-- the outcome is one of the program's store buffer outcomes, with these gaps fenced
abbrev pub IsStoreBufferOutcome : Question → Gaps → Outcome → Type 0
IsStoreBufferOutcome q gaps o = AllowsShown q (StoreBufferMachine gaps) o

-- A set that is asked about, given or found is one of names, each for the gaps of its tie; without ties a name is its gap.

-- the set serves: with its gaps fenced the program has its sequential outcomes and no others
abbrev pub Serves : Question → SetOfGaps → Type 0
Serves q gaps = (o : Outcome) → IsStoreBufferOutcome q (gaps_named q gaps) o ↔ IsSequentialOutcome q o

-- a run with no gap fenced whose outcome no sequential run has
pub record IsForeignRun (q : Question) (labels : List Label) (o : Outcome) : Type 0 where
  pub is_run : IsShownRun q (StoreBufferMachine no_gaps) labels o
  pub foreign : IsSequentialOutcome q o → ⊥

-- with the gaps of the set fenced an outcome is left that no sequential run has
pub record LeavesOutcome (q : Question) (gaps : SetOfGaps) : Type 0 where
  pub outcome : Outcome
  pub left : IsStoreBufferOutcome q (gaps_named q gaps) outcome
  pub foreign : IsSequentialOutcome q outcome → ⊥

-- each gap of the set is one of the program's
abbrev pub AreGapsOf : Listing → SetOfGaps → Type 0
AreGapsOf p gaps = (gap : ℕ) → set.contains gaps gap ≡ true → gap < gap_count p.threads

-- each set of the program's gaps that is better leaves an outcome that no sequential run has
abbrev pub EachBetterLeavesOutcome : Question → List ℕ → SetOfGaps → Type 0
EachBetterLeavesOutcome q costs gaps =
    (other : SetOfGaps) → AreGapsOf q.program other → Better costs other gaps → LeavesOutcome q other

-- the answer: it serves, and no serving set is better, since each better one leaves an outcome
pub record IsTheAnswer (q : Question) (costs : List ℕ) (gaps : SetOfGaps) : Type 0 where
  pub of_program : AreGapsOf q.program gaps
  pub serves : Serves q gaps
  pub least : EachBetterLeavesOutcome q costs gaps

-- the question of the program with an MFENCE in each of these gaps
abbrev pub fenced_at : Gaps → Question → Question
fenced_at gaps q = record q { program = fence gaps q.program }

-- the outcome is one that the program with an MFENCE in each gap of the set may leave, under the store buffer machine
abbrev pub IsFencedOutcome : Question → SetOfGaps → Outcome → Type 0
IsFencedOutcome q gaps o = IsStoreBufferOutcome (fenced_at (gaps_named q gaps) q) no_gaps o

-- so fenced the program leaves an outcome that no sequential run of the source has
pub record FencedLeavesOutcome (q : Question) (gaps : SetOfGaps) : Type 0 where
  pub outcome : Outcome
  pub left : IsFencedOutcome q gaps outcome
  pub foreign : IsSequentialOutcome q outcome → ⊥

-- the headline: the program fenced there has, under the store buffer machine, exactly the source's sequential outcomes,
-- and fenced at any better set of its gaps it leaves an outcome that no sequential run has
pub record Headline (q : Question) (costs : List ℕ) (gaps : SetOfGaps) : Type 0 where
  pub of_program : AreGapsOf q.program gaps
  pub exactly_sequential : (o : Outcome) → IsFencedOutcome q gaps o ↔ IsSequentialOutcome q o
  pub each_better_leaves_an_outcome : (other : SetOfGaps) → AreGapsOf q.program other → Better costs other gaps → FencedLeavesOutcome q other
