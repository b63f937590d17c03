-- A certificate that has a fault is not valid.
use Rattle.cert_check.proofs.Vocabulary.{◌≡◌, ℕ, zero, suc, List, [], ◌∷◌, length, All, refl, ap, ◌∙◌, subst, SetOfGaps, without_gap, child_regions, Region, Listing, Outcome, Label, IsShownRun, Gap, Split, Bound, GapTrees, NoGap, MoreGaps}
use Rattle.cert_check.proofs.Vocabulary.{IsValidCoverBy, Certificate, AreSequentialRuns, IsRunOutside, IsValidCertificateOf, names_of, one_list_of_gaps, CheckFault, valid_is_not_wrong, IsRunOf, IsFirstWithout, IsFirstFault, Question, SequentialMachine}
use Rattle.cert_check.proofs.Vocabulary.{StoreBufferMachine, no_gaps, IsValidGap, AreValidGaps, count_gaps}
use Rattle.tso_machine.proofs.Refused.{one_shown}
use Rattle.tree_laws.proofs.Lists.{found_has}
use Rattle.cert_forest.specs.declared.check_fault.CheckFault.TheVariants as fault
use Rattle.cert_check.specs.GapDefects as gaps
use Rattle.cert_check.proofs.Replayed.{zip_left, of_shown}

-- runs have one list of outcomes
pub one_list : (q : Question) (runs : List (List Label)) (os xs : List Outcome) → AreSequentialRuns q runs os → AreSequentialRuns q runs xs → os ≡ xs
one_list q [] [] [] left right = refl
one_list q [] [] (x ∷ xs) left right = absurd right
one_list q (run ∷ runs) (o ∷ os) [] left right = absurd right
one_list q (run ∷ runs) (o ∷ os) (x ∷ xs) left right =
    let first = one_shown q SequentialMachine run o x left.0 right.0 in
    let rest = one_list q runs os xs left.1 right.1 in
    λ i. first i ∷ rest i
one_list q runs os xs left right = absurd left

-- runs outside a list are runs
pub foreign_are_runs : (q : Question) (list : List Outcome) (runs : List (List Label)) → All (IsRunOutside q list) runs → All (IsRunOf q.program (StoreBufferMachine no_gaps)) runs
foreign_are_runs q list runs foreign k d h = (let (o, is_run, outside) = foreign k d h in of_shown q (StoreBufferMachine no_gaps) _ o is_run)

-- a value that has not the property contradicts that each has it
pub none_without : {A : Type 0} (P : A → Type 0) (xs : List A) (n : ℕ) → All P xs → IsFirstWithout P xs n → ⊥
none_without P xs n all first = first.without (found_has P xs n first.value first.there all)

module _ (q : Question) (costs : List ℕ) (answer : SetOfGaps) (runs : List (List Label)) where
  long : (numbers : List ℕ) (n : Region) → length (child_regions n numbers) ≡ length numbers
  long [] n = refl
  long (gap ∷ numbers) n = ap suc (long numbers (without_gap n gap))

  many_gaps : (trees : GapTrees) (ns : List Region) → AreValidGaps q costs answer runs trees ns → count_gaps trees ≡ length ns
  many_gaps NoGap [] valid = refl
  many_gaps (MoreGaps tree trees) (n ∷ ns) valid = ap suc (many_gaps trees ns valid.1)
  many_gaps trees ns valid = absurd valid

  mutual
    pub valid_gap_is_not_wrong : (tree : Gap) (n : Region) (path : List ℕ) → IsValidGap q costs answer runs tree n → gaps.FirstWrongGap q costs answer runs tree n path → ⊥
    valid_gap_is_not_wrong (Split number children) n [] (numbers, split, valid) wrong =
        wrong numbers split (many_gaps children (child_regions n numbers) valid ∙ long numbers n)
    valid_gap_is_not_wrong (Split number children) n (child ∷ path) (numbers, split, valid) (others, split_too, many, wrong) =
        valid_gaps_have_no_wrong children (child_regions n others) child path
        (subst (λ gs. AreValidGaps q costs answer runs children (child_regions n gs)) (one_list_of_gaps q runs n number numbers others split split_too) valid) wrong
    valid_gap_is_not_wrong (Bound numbers) n [] valid wrong = wrong valid
    valid_gap_is_not_wrong (Bound numbers) n (child ∷ path) valid wrong = wrong

    valid_gaps_have_no_wrong : (trees : GapTrees) (ns : List Region) (child : ℕ) (path : List ℕ) → AreValidGaps q costs answer runs trees ns →
        gaps.FirstWrongGapChild q costs answer runs trees ns child path → ⊥
    valid_gaps_have_no_wrong (MoreGaps tree trees) (n ∷ ns) zero path valid wrong = valid_gap_is_not_wrong tree n path valid.0 wrong
    valid_gaps_have_no_wrong (MoreGaps tree trees) (n ∷ ns) (suc child) path valid wrong = valid_gaps_have_no_wrong trees ns child path valid.1 wrong.1
    valid_gaps_have_no_wrong trees ns child path valid wrong = wrong

module _ (q : Question) (costs : List ℕ) (c : Certificate) (valid : IsValidCertificateOf q costs c) where
  abbrev p : Listing
  p = q.program

  same_list : (outcomes : List Outcome) → AreSequentialRuns q c.seq_runs outcomes → valid.outcomes ≡ outcomes
  same_list outcomes replayed = one_list q c.seq_runs valid.outcomes outcomes valid.replayed replayed

  pub no_fault : (why : CheckFault) → IsFirstFault q costs c why → why ≡ fault.OutOfMemory
  no_fault fault.Shown wrong = absurd (wrong valid.shown)
  no_fault fault.Set wrong = absurd (wrong.1 valid.right_set)
  no_fault fault.Cost wrong = absurd (wrong.2 (valid.one_cost_each, valid.cost))
  no_fault (fault.SequentialRun n) wrong =
      absurd (none_without (IsRunOf p SequentialMachine) c.seq_runs n (zip_left (IsShownRun q SequentialMachine) (IsRunOf p SequentialMachine) (of_shown q SequentialMachine) c.seq_runs valid.outcomes valid.replayed) wrong.1)
  no_fault (fault.SequentialTree path) (outcomes, has, wrong) =
      absurd (valid_is_not_wrong c.rule q SequentialMachine outcomes c.seq_tree _ path
      (subst (λ os. IsValidCoverBy c.rule q SequentialMachine os c.seq_tree _) (same_list outcomes has.replayed) valid.sequential) wrong)
  no_fault (fault.Run n) (outcomes, has, wrong) = absurd (none_without (IsRunOf p (StoreBufferMachine no_gaps)) c.runs n (foreign_are_runs q valid.outcomes c.runs valid.foreign) wrong)
  no_fault (fault.NotForeign n) (outcomes, has, wrong) =
      absurd (none_without (IsRunOutside q outcomes) c.runs n
      (subst (λ os. All (IsRunOutside q os) c.runs) (same_list outcomes has.complete.listed.replayed) valid.foreign) wrong)
  no_fault (fault.FencedTree path) (outcomes, has, wrong) =
      absurd (valid_is_not_wrong c.rule q _ outcomes c.fenced_tree _ path
      (subst (λ os. IsValidCoverBy c.rule q _ os c.fenced_tree _) (same_list outcomes has.replayed.complete.listed.replayed) valid.fenced) wrong)
  no_fault (fault.GapTree path) (outcomes, has, wrong) = absurd (valid_gap_is_not_wrong q costs (names_of q c) c.runs c.gap_tree _ path valid.least wrong)
  no_fault fault.OutOfMemory wrong = refl
