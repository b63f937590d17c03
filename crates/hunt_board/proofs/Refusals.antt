-- What a cut by the best set does to the node that a seat has in hand, and when workers wait.
use Rattle.hunt_board.proofs.Vocabulary.{◌≡◌, ◌⊎◌, ℕ, Bool, not, true, false, true≢false, IsTrue, Result, Ok, Err, refl, sym, inl, inr, ◌↔◌, OnOk, OnErr, IfErr, Region, not_cut, SearchState, HasInHand, Cuts, IsBeaten}
use Rattle.search_core.specs.declared.ceiling.Reason.TheVariants as reason
use Rattle.search_core.specs.{declared.fault.TreeFault.TreeFault, Faults.CutFaultIs}

-- a cut by the best set is one, or nothing where that does not cut the node
pub cut_or_not : (s after : SearchState) (seat : ℕ) (n : Region) (r : Result (Unit {0}) TreeFault) → HasInHand s seat n → OnOk r (Cuts s after seat) → OnErr r (after ≡ s) → IfErr r (CutFaultIs s seat reason.Best) →
    Cuts s after seat ⊎ ((¬ IsBeaten s n) × (after ≡ s))
cut_or_not s after seat n (Ok done) in_hand cut same fault = inl cut
cut_or_not s after seat n (Err why) in_hand cut same fault = inr (not_cut s seat n reason.Best why in_hand fault, same)

-- where one test holds, its conjunction with the negation of another
pub waits : {A B : Type 0} (r : Bool) → A → (IsTrue r ↔ B) → IsTrue (not r) ↔ (A × (¬ B))
waits true a done = ((λ h. absurd (true≢false (sym h))), λ w. absurd (w.1 (done.0 refl)))
waits false a done = ((λ h. (a, λ b. true≢false (sym (done.1 b)))), λ w. refl)
