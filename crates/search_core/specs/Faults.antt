-- Why a call of the search is refused.
use Rattle.std.specs.Prelude.{◌≡◌, ℕ, true, List, Option, IfSome}
use Rattle.std.specs.FinSet as set
use Rattle.gap_sets.specs.Gaps.{SetOfGaps}
use Rattle.gap_sets.specs.declared.region.Region.{Region}
use Rattle.oracle.specs.Facts.{Serving}
use Rattle.search_core.specs.declared.ceiling.Reason.{Reason}
use Rattle.search_core.specs.declared.ceiling.Reason.TheVariants as reason
use Rattle.search_core.specs.declared.fault.TreeFault.{TreeFault}
use Rattle.search_core.specs.declared.fault.TreeFault.TheVariants.{NothingOpen, SeatHolds, SeatHoldsNothing, Hit, StillBetter, OutOfMemory}
use Rattle.search_core.specs.Ceilings.{IsAboveCeiling, IsBound, IsCeilingOf}
use Rattle.search_core.specs.States.{SearchState, HoldsNode, HoldsNothing, HasNoOpen}
use Rattle.search_core.specs.Events.{IsBeatenBy}

-- the ceiling is of the search's question and costs
abbrev pub IsReasonOf : SearchState → Reason → Type 0
IsReasonOf s reason.Best = Unit {0}
IsReasonOf s (reason.Ceiling ceiling) = IsCeilingOf s.question s.costs ceiling

-- some serving set does not pass the ceiling
abbrev pub HasBound : Reason → Type 0
HasBound reason.Best = Unit {0}
HasBound (reason.Ceiling ceiling) = IfSome ceiling IsBound

-- the reason cuts the nodes whose sets must have these gaps
abbrev pub CutsMust : List ℕ → Option Serving → Reason → SetOfGaps → Type 0
CutsMust costs best reason.Best must = IsBeatenBy costs best must
CutsMust costs best (reason.Ceiling ceiling) must = IsAboveCeiling costs must ceiling

abbrev pub CutsNode : SearchState → Reason → Region → Type 0
CutsNode s why n = CutsMust s.costs s.best why n.must

-- the reason cuts the node that the seat holds
abbrev pub IsCutBy : SearchState → ℕ → Reason → Type 0
IsCutBy s seat why = (n : Region) × HoldsNode s seat n × CutsNode s why n

-- some gap is in both sets
abbrev pub DoMeet : SetOfGaps → SetOfGaps → Type 0
DoMeet a b = (gap : ℕ) × (set.contains a gap ≡ true) × (set.contains b gap ≡ true)

module _ (s : SearchState) (seat : ℕ) where
  abbrev pub TakeFaultIs : TreeFault → Type 0
  TakeFaultIs NothingOpen = HoldsNothing s seat × HasNoOpen s
  TakeFaultIs SeatHolds = (n : Region) × HoldsNode s seat n
  TakeFaultIs fault = ⊥

  -- of a run that passes these gaps
  abbrev pub SplitFaultIs : SetOfGaps → TreeFault → Type 0
  SplitFaultIs passed SeatHoldsNothing = HoldsNothing s seat
  SplitFaultIs passed Hit = (n : Region) × HoldsNode s seat n × DoMeet passed n.must
  SplitFaultIs passed OutOfMemory = Unit {0}
  SplitFaultIs passed fault = ⊥

  abbrev pub CutFaultIs : Reason → TreeFault → Type 0
  CutFaultIs why SeatHoldsNothing = HoldsNothing s seat
  CutFaultIs why StillBetter = (n : Region) × HoldsNode s seat n × (¬ CutsNode s why n)
  CutFaultIs why fault = ⊥

  -- of a call that only needs a node
  abbrev pub IsWithoutNode : TreeFault → Type 0
  IsWithoutNode fault = (fault ≡ SeatHoldsNothing) × HoldsNothing s seat
