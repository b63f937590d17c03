-- A certificate's parts put together.
use Rattle.cert_check.proofs.Vocabulary.{ℕ, zero, suc, List, [], ◌∷◌, All, Contains, take, subst, arith, AllZip, all_sets, Question, Outcome, Label, StoreBufferMachine, no_gaps, IsShownRun, IsValidGap, names_of, Certificate, IsRunOutside, IsValidCertificateOf}
use Rattle.cert_check.proofs.Vocabulary.{IsFirstWithout, HasServingSet, IsOutside}
use Rattle.tso_machine.proofs.Refused.{one_shown}
use Rattle.cert_check.proofs.{GapNodes.labels_at}

module _ (q : Question) (list : List Outcome) where
  abbrev AreShownRuns : List (List Label) → List Outcome → Type 0
  AreShownRuns runs outcomes = AllZip (IsShownRun q (StoreBufferMachine no_gaps)) runs outcomes

  -- runs whose outcomes are not in the list
  pub each_outside : (runs : List (List Label)) (outcomes : List Outcome) → AreShownRuns runs outcomes → All (IsOutside list) outcomes → All (IsRunOutside q list) runs
  each_outside [] outcomes each all k d h = absurd (omega arith)
  each_outside (run ∷ runs) [] each all k d h = absurd each
  each_outside (run ∷ runs) (o ∷ outcomes) each all zero d h = (o, each.0, all 0 o (omega arith))
  each_outside (run ∷ runs) (o ∷ outcomes) each all (suc k) d h = each_outside runs outcomes each.1 (λ j e l. all (suc j) e (omega arith)) k d (omega arith)

  first_ones : (n : ℕ) (runs : List (List Label)) (outcomes : List Outcome) → AreShownRuns runs outcomes → AreShownRuns (take n runs) (take n outcomes)
  first_ones zero runs outcomes each = tt
  first_ones (suc n) [] [] each = tt
  first_ones (suc n) [] (o ∷ outcomes) each = absurd each
  first_ones (suc n) (run ∷ runs) [] each = absurd each
  first_ones (suc n) (run ∷ runs) (o ∷ outcomes) each = (each.0, first_ones n runs outcomes each.1)

  -- the first outcome that is in the list is that of the first run that is not foreign
  pub first_not_foreign : (runs : List (List Label)) (outcomes : List Outcome) (n : ℕ) → AreShownRuns runs outcomes → IsFirstWithout (IsOutside list) outcomes n →
      IsFirstWithout (IsRunOutside q list) runs n
  first_not_foreign runs outcomes n each first =
      let (labels, there, is) = labels_at (IsShownRun q (StoreBufferMachine no_gaps)) runs outcomes n first.value each first.there in
      record {
        value = labels;
        there = there;
        without = λ (o, is_run, outside). first.without (subst (λ x. Contains list x → ⊥) (one_shown q (StoreBufferMachine no_gaps) labels o first.value is_run is) outside);
        before = each_outside (take n runs) (take n outcomes) (first_ones n runs outcomes each) first.before;
      }

-- a certificate whose parts are right is valid for the question
pub assembled : (q : Question) (costs : List ℕ) (c : Certificate) (outcomes : List Outcome) → HasServingSet q costs c outcomes →
    IsValidGap q costs (names_of q c) c.runs c.gap_tree all_sets → IsValidCertificateOf q costs c
assembled q costs c outcomes has least = record {
  shown = has.runs.replayed.complete.listed.head.shown;
  right_set = has.runs.replayed.complete.listed.head.right_set;
  one_cost_each = has.runs.replayed.complete.listed.head.cost.0;
  cost = has.runs.replayed.complete.listed.head.cost.1;
  outcomes = outcomes;
  replayed = has.runs.replayed.complete.listed.replayed;
  sequential = has.runs.replayed.complete.sequential;
  foreign = has.runs.foreign;
  fenced = has.fenced;
  least = least;
}
