-- What is wrong first with a certificate.
use Rattle.std.specs.Prelude.{◌≡◌, ℕ, List, Some, slice_get, take, length, All}
use Rattle.gap_sets.specs.Order.{total}
use Rattle.gap_sets.specs.Regions.{all_sets}
use Rattle.tso_program.specs.declared.listing.Listing.{Listing}
use Rattle.tso_program.specs.declared.outcome.Outcome.{Outcome}
use Rattle.tso_program.specs.declared.question.Question.{Question}
use Rattle.tso_program.specs.Listings.{gap_count}
use Rattle.tso_program.specs.Fences.{gaps_in}
use Rattle.tso_machine.specs.declared.label.Label.{Label}
use Rattle.tso_machine.specs.Machine.{Machine, SequentialMachine, StoreBufferMachine, no_gaps, IsRun}
use Rattle.cover_judge.specs.Sketches.{empty_sketch}
use Rattle.tree_laws.specs.CoverTrees.{IsValidCoverBy}
use Rattle.cert_forest.specs.Certificates.{Certificate}
use Rattle.cert_forest.specs.Shows.{shows_of}
use Rattle.tree_laws.specs.Certificates.{AreSequentialRuns, IsJudged, IsRunOutside, HasRightSet, names_of}
use Rattle.cert_forest.specs.declared.check_fault.CheckFault.{CheckFault}
use Rattle.cert_forest.specs.declared.check_fault.CheckFault.TheVariants as fault
use Rattle.cover_judge.specs.CoverDefects.{FirstWrongCover}
use Rattle.cert_check.specs.GapDefects.{FirstWrongGap}

-- the value of this number has not the property, and each before it has
pub record IsFirstWithout {A : Type 0} (P : A → Type 0) (xs : List A) (number : ℕ) : Type 0 where
  pub value : A
  pub there : slice_get xs number ≡ Some value
  pub without : P value → ⊥
  pub before : All P (take number xs)

-- the labels are a run of the mode's machine
abbrev pub IsRunOf : Listing → Machine → List Label → Type 0
IsRunOf p mode labels = (o : Outcome) × IsRun p mode labels o

module _ (q : Question) (costs : List ℕ) (c : Certificate) where
  -- each gap has a cost, and the certificate's is the set's
  abbrev pub HasRightCost : Type 0
  HasRightCost = (length costs ≡ gap_count q.program.threads) × (c.cost ≡ total costs (names_of q c))

  -- it is about what is shown, its set is one of the program's gaps, all or none of each tie, and its cost is the set's
  pub record HasHead : Type 0 where
    pub shown : c.shown ≡ shows_of q.shown
    pub right_set : HasRightSet q c.gaps
    pub cost : HasRightCost

  module _ (outcomes : List Outcome) where
    -- its sequential runs have these outcomes
    pub record HasOutcomes : Type 0 where
      pub head : HasHead
      pub replayed : AreSequentialRuns q c.seq_runs outcomes

    -- a valid tree shows that there are no other sequential outcomes
    pub record HasEachOutcome : Type 0 where
      pub listed : HasOutcomes
      pub sequential : IsValidCoverBy c.rule q SequentialMachine outcomes c.seq_tree (empty_sketch q.program)

    -- its other runs are runs of the store buffer machine with no gap fenced
    pub record HasRuns : Type 0 where
      pub complete : HasEachOutcome
      pub runs : All (IsRunOf q.program (StoreBufferMachine no_gaps)) c.runs

    -- their outcomes are not sequential
    pub record HasForeignRuns : Type 0 where
      pub replayed : HasRuns
      pub foreign : All (IsRunOutside q outcomes) c.runs

    -- a valid tree shows that the set serves
    pub record HasServingSet : Type 0 where
      pub runs : HasForeignRuns
      pub fenced : IsValidCoverBy c.rule q (StoreBufferMachine (gaps_in q.program c.gaps)) outcomes c.fenced_tree (empty_sketch q.program)

  -- The fault is the first in their order by this question: what is shown comes before the set. `OutOfMemory` says that these, the set and the
  -- cost are right: they are judged without memory.
  abbrev pub IsFirstFault : CheckFault → Type 0
  IsFirstFault fault.Shown = c.shown ≡ shows_of q.shown → ⊥
  IsFirstFault fault.Set = (c.shown ≡ shows_of q.shown) × (HasRightSet q c.gaps → ⊥)
  IsFirstFault fault.Cost = (c.shown ≡ shows_of q.shown) × HasRightSet q c.gaps × (HasRightCost → ⊥)
  IsFirstFault (fault.SequentialRun number) = HasHead × IsFirstWithout (IsRunOf q.program SequentialMachine) c.seq_runs number
  IsFirstFault (fault.SequentialTree path) = (outcomes : List Outcome) × HasOutcomes outcomes × FirstWrongCover c.rule q SequentialMachine outcomes c.seq_tree (empty_sketch q.program) path
  IsFirstFault (fault.Run number) = (outcomes : List Outcome) × HasEachOutcome outcomes × IsFirstWithout (IsRunOf q.program (StoreBufferMachine no_gaps)) c.runs number
  IsFirstFault (fault.NotForeign number) = (outcomes : List Outcome) × HasRuns outcomes × IsFirstWithout (IsRunOutside q outcomes) c.runs number
  IsFirstFault (fault.FencedTree path) =
      (outcomes : List Outcome) × HasForeignRuns outcomes × FirstWrongCover c.rule q (StoreBufferMachine (gaps_in q.program c.gaps)) outcomes c.fenced_tree (empty_sketch q.program) path
  IsFirstFault (fault.GapTree path) = (outcomes : List Outcome) × HasServingSet outcomes × FirstWrongGap q costs (names_of q c) c.runs c.gap_tree all_sets path
  IsFirstFault fault.OutOfMemory = HasHead

-- The fault of a certificate: of what is shown, the set and the cost it is the first by the question itself, and of runs and trees by the question
-- that the rule judges.
abbrev pub CheckFaultIs : Question → List ℕ → Certificate → CheckFault → Type 0
CheckFaultIs q costs c fault.Shown = IsFirstFault q costs c fault.Shown
CheckFaultIs q costs c fault.Set = IsFirstFault q costs c fault.Set
CheckFaultIs q costs c fault.Cost = IsFirstFault q costs c fault.Cost
CheckFaultIs q costs c fault.OutOfMemory = IsFirstFault q costs c fault.OutOfMemory
CheckFaultIs q costs c why = IsJudged c.rule q (λ judged. IsFirstFault judged costs c why)
