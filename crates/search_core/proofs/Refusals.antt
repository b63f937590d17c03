-- Why a call for the node that a seat has in hand is refused.
use Rattle.search_core.proofs.Vocabulary.{◌≡◌, ℕ, true, refl, subst, Region, Foreign, Reason, SearchState, HasInHand, MaySplit, SplitFaultIs, CutFaultIs, CutsNode}
use Rattle.std.specs.FinSet as set
use Rattle.search_core.specs.declared.fault.TreeFault.{TreeFault, TheVariants.SeatHoldsNothing, TheVariants.Hit, TheVariants.StillBetter, TheVariants.OutOfMemory}

-- a split by a run that passes no gap of `must` is refused for memory alone
pub only_memory : (s : SearchState) (seat : ℕ) (f : Foreign) (fault : TreeFault) → MaySplit s seat f → SplitFaultIs s seat f.passed fault → fault ≡ OutOfMemory
only_memory s seat f SeatHoldsNothing may h = absurd (h may.node may.in_hand.holds.held)
only_memory s seat f Hit may (m, held, (gap, passed, must)) = absurd (may.passes_none gap passed (subst (λ (k : Region). set.contains k.must gap ≡ true) (may.in_hand.holds.only m held) must))
only_memory s seat f OutOfMemory may h = refl
only_memory s seat f fault may h = absurd h

-- a cut is refused where the reason does not cut the node
pub not_cut : (s : SearchState) (seat : ℕ) (n : Region) (why : Reason) (fault : TreeFault) → HasInHand s seat n → CutFaultIs s seat why fault → ¬ CutsNode s why n
not_cut s seat n why SeatHoldsNothing in_hand h = absurd (h n in_hand.holds.held)
not_cut s seat n why StillBetter in_hand (m, held, better) = subst (λ (k : Region). ¬ CutsNode s why k) (in_hand.holds.only m held) better
not_cut s seat n why fault in_hand h = absurd h
