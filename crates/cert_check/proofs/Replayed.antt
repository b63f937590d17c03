-- Runs that are replayed in turn, and the first that is not a run.
use Rattle.cert_check.proofs.Vocabulary.{◌≡◌, ◌≢◌, ℕ, zero, suc, List, [], ◌∷◌, ◌++◌, Some, length, All, refl, sym, ap, ◌∙◌, subst, arith, Listing, Outcome, Question, Label, SetOfGaps, Machine, StoreBufferMachine, no_gaps, unfenced, ArePassed, ArePassedNames, HavePassed, IsRunOf, IsFirstWithout, append_assoc}
use Rattle.cert_check.proofs.Vocabulary.{AllZip-long, all_zipped_more, IsShownRun, IsReplayOf, AreReplaysOf, IsNoRunAt, IsFaultFrom, RunsFaultIs, AllZip, slice_get}
use Rattle.std.proofs.Common.{map}
use Rattle.std.proofs.Math.Seq.{take-append_seam}
use Rattle.gap_sets.specs.Ties.{names_in}
use Rattle.tso_machine.proofs.NamesPassed.{names_of_passed}
use Rattle.tso_machine.specs.{declared.label.Model.Model, declared.replaying.Ended.Ended, declared.replaying.ReplayFault.ReplayFault, Faults.ReplayFaultIs}
use Rattle.tso_machine.specs.declared.replaying.ReplayFault.TheVariants as replays
use Rattle.cert_check.specs.declared.fault.RunsFault.{RunsFault}
use Rattle.cert_check.specs.declared.fault.RunsFault.TheVariants as runs
use Rattle.tso_machine.proofs.Refused.{no_fault}

-- a fault of a replay says that the labels are no run
pub no_run : (p : Listing) (machine : Machine) (labels : List Label) (why : ReplayFault) → ReplayFaultIs p machine labels why → why ≢ replays.OutOfMemory → IsRunOf p machine labels → ⊥
no_run p machine labels why fault no_memory (o, is_run) = no_memory (no_fault p machine labels o why is_run fault)

-- what a replay says where the labels are not a run
pub fault_is : (p : Listing) (machine : Machine) (labels : List Label) (why : ReplayFault) (number : ℕ) (fault : RunsFault) → ReplayFaultIs p machine labels why → IsFaultFrom why number fault →
    IsNoRunAt p machine labels number fault
fault_is p machine labels why number (runs.NoRun n) h (at, no_memory) = (at, no_run p machine labels why h no_memory)
fault_is p machine labels why number runs.OutOfMemory h none = tt

-- what each value on the left has, where lists are in step
pub zip_left : {A B : Type 0} (R : A → B → Type 0) (P : A → Type 0) → ((x : A) (y : B) → R x y → P x) → (xs : List A) (ys : List B) → AllZip R xs ys → All P xs
zip_left R P f [] ys all k d h = absurd (omega arith)
zip_left R P f (x ∷ xs) [] all k d h = absurd all
zip_left R P f (x ∷ xs) (y ∷ ys) all zero d h = f x y all.0
zip_left R P f (x ∷ xs) (y ∷ ys) all (suc k) d h = zip_left R P f xs ys all.1 k d (omega arith)

-- what each value on the right stands for, where lists are in step
pub zip_mapped : {A B : Type 0} (R S : A → B → Type 0) (f : B → B) → ((x : A) (y : B) → R x y → S x (f y)) → (xs : List A) (ys : List B) → AllZip R xs ys → AllZip S xs (map f ys)
zip_mapped R S f g [] [] all = all
zip_mapped R S f g [] (y ∷ ys) all = absurd all
zip_mapped R S f g (x ∷ xs) [] all = absurd all
zip_mapped R S f g (x ∷ xs) (y ∷ ys) all = (g x y all.0, zip_mapped R S f g xs ys all.1)

-- runs that pass gaps pass their names
pub have_passed : (q : Question) (runs : List (List Label)) (passed : List SetOfGaps) → AllZip (ArePassed q.program (StoreBufferMachine no_gaps)) runs passed → HavePassed q runs (map (names_in q.ties) passed)
have_passed q runs passed each = zip_mapped (ArePassed q.program (StoreBufferMachine no_gaps)) (ArePassedNames q) (names_in q.ties) (names_of_passed q) runs passed each

-- a run of which something is shown is a run
pub of_shown : (q : Question) (mode : Machine) (labels : List Label) (o : Outcome) → IsShownRun q mode labels o → IsRunOf q.program mode labels
of_shown q mode labels o (whole, is_run, shown) = (whole, is_run)

-- what stands at the seam of two lists
at_seam : {A : Type 0} (xs : List A) (y : A) (ys : List A) → slice_get (xs ++ y ∷ ys) (length xs) ≡ Some y
at_seam [] y ys = refl
at_seam (x ∷ xs) y ys = at_seam xs y ys

module _ (q : Question) (model : Model) (all : List (List Label)) where
  -- all but these last runs are replayed
  abbrev pub AreReplayedBut : List (List Label) → List Outcome → List SetOfGaps → Type 0
  AreReplayedBut left outcomes passed = (front : List (List Label)) × (front ++ left ≡ all) × AreReplaysOf q model front outcomes passed

  module _ (labels : List Label) (left rest : List (List Label)) (first : left ≡ labels ∷ rest) (outcomes : List Outcome) (passed : List SetOfGaps) (so_far : AreReplayedBut left outcomes passed) where
    -- the replays so far, and one more
    pub replays_more : (more_outcomes : List Outcome) (more_passed : List SetOfGaps) (end : Ended) → IsReplayOf q model labels end → more_outcomes ≡ outcomes ++ end.outcome ∷ [] → more_passed ≡ passed ++ end.passed ∷ [] →
        AreReplayedBut rest more_outcomes more_passed
    replays_more more_outcomes more_passed end is pushed pushed_too =
        let (front, same, each) = so_far in (
          front ++ labels ∷ [],
          append_assoc front (labels ∷ []) rest ∙ ap (λ (runs : List (List Label)). front ++ runs) (sym first) ∙ same,
          record {
            are_runs = subst (AllZip (IsShownRun q (unfenced model)) (front ++ labels ∷ [])) (sym pushed) (all_zipped_more (IsShownRun q (unfenced model)) front outcomes labels end.outcome each.are_runs is.is_run);
            are_passed = subst (AllZip (ArePassed q.program (unfenced model)) (front ++ labels ∷ [])) (sym pushed_too) (all_zipped_more (ArePassed q.program (unfenced model)) front passed labels end.passed each.are_passed is.passed);
          },
        )

    -- the next is the first that is not a run
    first_no_run : (IsRunOf q.program (unfenced model) labels → ⊥) → IsFirstWithout (IsRunOf q.program (unfenced model)) all (length outcomes)
    first_no_run none =
        let (front, same, each) = so_far in
        let whole : front ++ labels ∷ rest ≡ all = ap (λ (runs : List (List Label)). front ++ runs) (sym first) ∙ same in
        let long : length outcomes ≡ length front = AllZip-long (IsShownRun q (unfenced model)) front outcomes each.are_runs in
        subst (IsFirstWithout (IsRunOf q.program (unfenced model)) all) (sym long)
        (subst (λ runs. IsFirstWithout (IsRunOf q.program (unfenced model)) runs (length front)) whole (record {
          value = labels;
          there = at_seam front labels rest;
          without = none;
          before = subst (All (IsRunOf q.program (unfenced model))) (sym (take-append_seam front (labels ∷ rest)))
              (zip_left (IsShownRun q (unfenced model)) (IsRunOf q.program (unfenced model)) (of_shown q (unfenced model)) front outcomes each.are_runs);
        }))

    -- its fault
    pub first_fault : (fault : RunsFault) (number : ℕ) → number ≡ length outcomes → IsNoRunAt q.program (unfenced model) labels number fault → RunsFaultIs q.program model all fault
    first_fault (runs.NoRun n) number is (at, none) = subst (IsFirstWithout (IsRunOf q.program (unfenced model)) all) (sym (at ∙ is)) (first_no_run none)
    first_fault runs.OutOfMemory number is none = tt
