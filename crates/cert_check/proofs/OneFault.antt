-- The first fault of a certificate is one fault.
use Rattle.cert_check.proofs.Vocabulary.{◌≡◌, ◌≢◌, ◌⊎◌, ℕ, zero, suc, ◌<◌, List, [], ◌∷◌, Some, All, slice_get, take, refl, sym, ap, ◌∙◌, subst, inl, inr, arith, SetOfGaps, all_sets, child_regions, Region, Listing, Outcome, gaps_in, Question, Label, Machine}
use Rattle.cert_check.proofs.Vocabulary.{SequentialMachine, StoreBufferMachine, no_gaps, empty_sketch, IsValidCoverBy, Certificate, AreSequentialRuns, IsRunOutside, one_list_of_gaps, CheckFault, FirstWrongCover, cases_lt, get_or-take, length-take}
use Rattle.cert_check.proofs.Vocabulary.{slice_get_within, get_or_from_slice_get, IsShownRun, HasRightSet, names_of, Cover, Gap, Split, Bound, GapTrees, MoreGaps, next_sibling, valid_is_not_wrong, one_wrong_node, IsRunOf, IsFirstWithout, HasRightCost, HasHead}
use Rattle.cert_check.proofs.Vocabulary.{HasOutcomes, HasEachOutcome, HasRuns, HasForeignRuns, HasServingSet, IsFirstFault}
use Rattle.cert_forest.specs.Shows.{shows_of}
use Rattle.cert_forest.specs.declared.check_fault.CheckFault.TheVariants as fault
use Rattle.cert_check.specs.GapDefects as gaps
use Rattle.cert_check.proofs.{Replayed.zip_left, Replayed.of_shown, FirstFaults.one_list, FirstFaults.none_without, FirstFaults.valid_gap_is_not_wrong}

-- what each value before a place has, one of them has
has_before : {A : Type 0} (P : A → Type 0) (xs : List A) (n m : ℕ) (v : A) → n < m → slice_get xs n ≡ Some v → All P (take m xs) → P v
has_before P xs n m v h there all =
    let within = slice_get_within xs n v there in
    let long = length-take m xs in
    subst P (get_or-take m xs n v h ∙ get_or_from_slice_get xs n v v there) (all n v (omega arith))

-- one number is that of the first value without a property
one_number : {A : Type 0} (P : A → Type 0) (xs : List A) (n m : ℕ) → IsFirstWithout P xs n → IsFirstWithout P xs m → n ≡ m
one_number P xs n m first also = elim (cases_lt n m) [
  | inl h ↦ absurd (first.without (has_before P xs n m first.value h first.there also.before))
  | inr h ↦ elim (cases_lt m n) [ inl l ↦ absurd (also.without (has_before P xs m n also.value l also.there first.before)) | inr l ↦ omega arith ]
]

module _ (q : Question) (costs : List ℕ) (answer : SetOfGaps) (runs : List (List Label)) where
  mutual
    -- one node of a gap tree is the first wrong one
    pub one_wrong_gap : (tree : Gap) (n : Region) (path other : List ℕ) → gaps.FirstWrongGap q costs answer runs tree n path → gaps.FirstWrongGap q costs answer runs tree n other → path ≡ other
    one_wrong_gap (Split number children) n [] (j ∷ other) wrong (numbers, split, many, below) = absurd (wrong numbers split many)
    one_wrong_gap (Split number children) n (i ∷ path) [] (numbers, split, many, below) wrong = absurd (wrong numbers split many)
    one_wrong_gap (Split number children) n (i ∷ path) (j ∷ other) (numbers, split, many, below) (others, split_too, many_too, below_too) =
        one_wrong_gap_child children (child_regions n numbers) i j path other below
        (subst (λ gs. gaps.FirstWrongGapChild q costs answer runs children (child_regions n gs) j other) (one_list_of_gaps q runs n number others numbers split_too split) below_too)
    one_wrong_gap (Bound numbers) n [] (j ∷ other) wrong also = absurd also
    one_wrong_gap (Bound numbers) n (i ∷ path) other wrong also = absurd wrong
    one_wrong_gap tree n [] [] wrong also = refl

    one_wrong_gap_child : (trees : GapTrees) (ns : List Region) (i j : ℕ) (path other : List ℕ) → gaps.FirstWrongGapChild q costs answer runs trees ns i path →
        gaps.FirstWrongGapChild q costs answer runs trees ns j other → i ∷ path ≡ j ∷ other
    one_wrong_gap_child (MoreGaps tree trees) (n ∷ ns) zero zero path other wrong also = ap (λ xs. zero ∷ xs) (one_wrong_gap tree n path other wrong also)
    one_wrong_gap_child (MoreGaps tree trees) (n ∷ ns) zero (suc j) path other wrong also = absurd (valid_gap_is_not_wrong q costs answer runs tree n path also.0 wrong)
    one_wrong_gap_child (MoreGaps tree trees) (n ∷ ns) (suc i) zero path other wrong also = absurd (valid_gap_is_not_wrong q costs answer runs tree n other wrong.0 also)
    one_wrong_gap_child (MoreGaps tree trees) (n ∷ ns) (suc i) (suc j) path other wrong also = ap next_sibling (one_wrong_gap_child trees ns i j path other wrong.1 also.1)
    one_wrong_gap_child trees ns i j path other wrong also = absurd wrong

-- at most one fault has the property
abbrev IsOfOne : (CheckFault → Type 0) → Type 0
IsOfOne P = (why other : CheckFault) → P why → P other → why ≡ other

-- a fault of one part of a certificate, or of a later part where this one is right
abbrev OfPart : (X : Type 0) → (X → CheckFault) → (X → Type 0) → Type 0 → (CheckFault → Type 0) → CheckFault → Type 0
OfPart X make Wrong Right Later why = ((x : X) × Wrong x × (why ≡ make x)) ⊎ (Right × Later why)

one_of_part : (X : Type 0) (make : X → CheckFault) (Wrong : X → Type 0) (Right : Type 0) (Later : CheckFault → Type 0) →
    ((x y : X) → Wrong x → Wrong y → make x ≡ make y) → ((x : X) → Wrong x → Right → ⊥) → IsOfOne Later → IsOfOne (OfPart X make Wrong Right Later)
one_of_part X make Wrong Right Later same not_both later why other (inl (x, wrong, is)) (inl (y, also, is_too)) = is ∙ same x y wrong also ∙ sym is_too
one_of_part X make Wrong Right Later same not_both later why other (inl (x, wrong, is)) (inr (right, rest)) = absurd (not_both x wrong right)
one_of_part X make Wrong Right Later same not_both later why other (inr (right, rest)) (inl (y, also, is_too)) = absurd (not_both y also right)
one_of_part X make Wrong Right Later same not_both later why other (inr (right, rest)) (inr (right_too, rest_too)) = later why other rest rest_too

module _ (q : Question) (costs : List ℕ) (c : Certificate) where
  abbrev p : Listing
  p = q.program

  -- the outcomes of the certificate's sequential runs have the property
  abbrev OutcomesHave : (List Outcome → Type 0) → Type 0
  OutcomesHave P = (outcomes : List Outcome) × AreSequentialRuns q c.seq_runs outcomes × P outcomes

  -- they are one list, and so it has both of two properties
  have_both : (P Q : List Outcome → Type 0) → OutcomesHave P → OutcomesHave Q → (outcomes : List Outcome) × P outcomes × Q outcomes
  have_both P Q (outcomes, replayed, has) (others, replayed_too, has_too) =
      (outcomes, has, subst Q (one_list q c.seq_runs others outcomes replayed_too replayed) has_too)

  -- the first wrong node of a cover tree, and a valid one
  abbrev WrongCover : Machine → Cover → List ℕ → Type 0
  WrongCover mode tree path = OutcomesHave (λ outcomes. FirstWrongCover c.rule q mode outcomes tree (empty_sketch q.program) path)

  abbrev RightCover : Machine → Cover → Type 0
  RightCover mode tree = OutcomesHave (λ outcomes. IsValidCoverBy c.rule q mode outcomes tree (empty_sketch q.program))

  one_path : (mode : Machine) (tree : Cover) (path other : List ℕ) → WrongCover mode tree path → WrongCover mode tree other → path ≡ other
  one_path mode tree path other wrong also =
      let (outcomes, left, right) = have_both (λ os. FirstWrongCover c.rule q mode os tree (empty_sketch q.program) path) (λ os. FirstWrongCover c.rule q mode os tree (empty_sketch q.program) other) wrong also in
      one_wrong_node c.rule q mode outcomes tree (empty_sketch q.program) path other left right

  not_wrong : (mode : Machine) (tree : Cover) (path : List ℕ) → WrongCover mode tree path → RightCover mode tree → ⊥
  not_wrong mode tree path wrong valid =
      let (outcomes, left, right) = have_both (λ os. FirstWrongCover c.rule q mode os tree (empty_sketch q.program) path) (λ os. IsValidCoverBy c.rule q mode os tree (empty_sketch q.program)) wrong valid in
      valid_is_not_wrong c.rule q mode outcomes tree (empty_sketch q.program) path right left

  -- the first run that is not foreign, and foreign runs
  abbrev NotForeign : ℕ → Type 0
  NotForeign n = OutcomesHave (λ outcomes. IsFirstWithout (IsRunOutside q outcomes) c.runs n)

  abbrev AreForeign : Type 0
  AreForeign = OutcomesHave (λ outcomes. All (IsRunOutside q outcomes) c.runs)

  one_not_foreign : (n m : ℕ) → NotForeign n → NotForeign m → n ≡ m
  one_not_foreign n m wrong also =
      let (outcomes, left, right) = have_both (λ os. IsFirstWithout (IsRunOutside q os) c.runs n) (λ os. IsFirstWithout (IsRunOutside q os) c.runs m) wrong also in
      one_number (IsRunOutside q outcomes) c.runs n m left right

  not_not_foreign : (n : ℕ) → NotForeign n → AreForeign → ⊥
  not_not_foreign n wrong foreign =
      let (outcomes, left, right) = have_both (λ os. IsFirstWithout (IsRunOutside q os) c.runs n) (λ os. All (IsRunOutside q os) c.runs) wrong foreign in
      none_without (IsRunOutside q outcomes) c.runs n right left

  -- the parts, from the last on
  abbrev OfGaps : CheckFault → Type 0
  OfGaps why = OfPart (List ℕ) fault.GapTree (gaps.FirstWrongGap q costs (names_of q c) c.runs c.gap_tree all_sets) ⊥ (λ why. ⊥) why

  abbrev OfFenced : CheckFault → Type 0
  OfFenced why = OfPart (List ℕ) fault.FencedTree (WrongCover (StoreBufferMachine (gaps_in p c.gaps)) c.fenced_tree) (RightCover (StoreBufferMachine (gaps_in p c.gaps)) c.fenced_tree) OfGaps why

  abbrev OfForeign : CheckFault → Type 0
  OfForeign why = OfPart ℕ fault.NotForeign NotForeign AreForeign OfFenced why

  abbrev OfRuns : CheckFault → Type 0
  OfRuns why = OfPart ℕ fault.Run (IsFirstWithout (IsRunOf p (StoreBufferMachine no_gaps)) c.runs) (All (IsRunOf p (StoreBufferMachine no_gaps)) c.runs) OfForeign why

  abbrev OfTree : CheckFault → Type 0
  OfTree why = OfPart (List ℕ) fault.SequentialTree (WrongCover SequentialMachine c.seq_tree) (RightCover SequentialMachine c.seq_tree) OfRuns why

  abbrev OfSequential : CheckFault → Type 0
  OfSequential why = OfPart ℕ fault.SequentialRun (IsFirstWithout (IsRunOf p SequentialMachine) c.seq_runs) (All (IsRunOf p SequentialMachine) c.seq_runs) OfTree why

  abbrev OfCost : CheckFault → Type 0
  OfCost why = OfPart (Unit {0}) (λ _. fault.Cost) (λ _. HasRightCost q costs c → ⊥) (HasRightCost q costs c) OfSequential why

  abbrev OfSet : CheckFault → Type 0
  OfSet why = OfPart (Unit {0}) (λ _. fault.Set) (λ _. HasRightSet q c.gaps → ⊥) (HasRightSet q c.gaps) OfCost why

  abbrev OfShown : CheckFault → Type 0
  OfShown why = OfPart (Unit {0}) (λ _. fault.Shown) (λ _. c.shown ≡ shows_of q.shown → ⊥) (c.shown ≡ shows_of q.shown) OfSet why

  -- in each part there is one
  one_of_gaps : IsOfOne OfGaps
  one_of_gaps = one_of_part (List ℕ) fault.GapTree (gaps.FirstWrongGap q costs (names_of q c) c.runs c.gap_tree all_sets) ⊥ (λ why. ⊥)
      (λ path other wrong also. ap fault.GapTree (one_wrong_gap q costs (names_of q c) c.runs c.gap_tree all_sets path other wrong also)) (λ path wrong none. none) (λ why other none also. absurd none)

  one_of_fenced : IsOfOne OfFenced
  one_of_fenced = one_of_part (List ℕ) fault.FencedTree (WrongCover (StoreBufferMachine (gaps_in p c.gaps)) c.fenced_tree) (RightCover (StoreBufferMachine (gaps_in p c.gaps)) c.fenced_tree) OfGaps
      (λ path other wrong also. ap fault.FencedTree (one_path (StoreBufferMachine (gaps_in p c.gaps)) c.fenced_tree path other wrong also)) (not_wrong (StoreBufferMachine (gaps_in p c.gaps)) c.fenced_tree) one_of_gaps

  one_of_foreign : IsOfOne OfForeign
  one_of_foreign = one_of_part ℕ fault.NotForeign NotForeign AreForeign OfFenced (λ n m wrong also. ap fault.NotForeign (one_not_foreign n m wrong also)) not_not_foreign one_of_fenced

  one_of_runs : IsOfOne OfRuns
  one_of_runs = one_of_part ℕ fault.Run (IsFirstWithout (IsRunOf p (StoreBufferMachine no_gaps)) c.runs) (All (IsRunOf p (StoreBufferMachine no_gaps)) c.runs) OfForeign
      (λ n m wrong also. ap fault.Run (one_number (IsRunOf p (StoreBufferMachine no_gaps)) c.runs n m wrong also))
      (λ n wrong all. none_without (IsRunOf p (StoreBufferMachine no_gaps)) c.runs n all wrong) one_of_foreign

  one_of_tree : IsOfOne OfTree
  one_of_tree = one_of_part (List ℕ) fault.SequentialTree (WrongCover SequentialMachine c.seq_tree) (RightCover SequentialMachine c.seq_tree) OfRuns
      (λ path other wrong also. ap fault.SequentialTree (one_path SequentialMachine c.seq_tree path other wrong also)) (not_wrong SequentialMachine c.seq_tree) one_of_runs

  one_of_sequential : IsOfOne OfSequential
  one_of_sequential = one_of_part ℕ fault.SequentialRun (IsFirstWithout (IsRunOf p SequentialMachine) c.seq_runs) (All (IsRunOf p SequentialMachine) c.seq_runs) OfTree
      (λ n m wrong also. ap fault.SequentialRun (one_number (IsRunOf p SequentialMachine) c.seq_runs n m wrong also))
      (λ n wrong all. none_without (IsRunOf p SequentialMachine) c.seq_runs n all wrong) one_of_tree

  one_of_cost : IsOfOne OfCost
  one_of_cost = one_of_part (Unit {0}) (λ _. fault.Cost) (λ _. HasRightCost q costs c → ⊥) (HasRightCost q costs c) OfSequential (λ x y wrong also. refl) (λ x wrong right. wrong right) one_of_sequential

  one_of_set : IsOfOne OfSet
  one_of_set = one_of_part (Unit {0}) (λ _. fault.Set) (λ _. HasRightSet q c.gaps → ⊥) (HasRightSet q c.gaps) OfCost (λ x y wrong also. refl) (λ x wrong right. wrong right) one_of_cost

  one_of_shown : IsOfOne OfShown
  one_of_shown = one_of_part (Unit {0}) (λ _. fault.Shown) (λ _. c.shown ≡ shows_of q.shown → ⊥) (c.shown ≡ shows_of q.shown) OfSet (λ x y wrong also. refl) (λ x wrong right. wrong right) one_of_set

  -- what holds before a part
  after_head : (why : CheckFault) → HasHead q costs c → OfSequential why → OfShown why
  after_head why head rest = inr (head.shown, inr (head.right_set, inr (head.cost, rest)))

  after_replays : (why : CheckFault) (outcomes : List Outcome) → HasOutcomes q costs c outcomes → OfTree why → OfShown why
  after_replays why outcomes has rest =
      after_head why has.head (inr (zip_left (IsShownRun q SequentialMachine) (IsRunOf p SequentialMachine) (of_shown q SequentialMachine) c.seq_runs outcomes has.replayed, rest))

  after_tree : (why : CheckFault) (outcomes : List Outcome) → HasEachOutcome q costs c outcomes → OfRuns why → OfShown why
  after_tree why outcomes has rest = after_replays why outcomes has.listed (inr ((outcomes, has.listed.replayed, has.sequential), rest))

  after_runs : (why : CheckFault) (outcomes : List Outcome) → HasRuns q costs c outcomes → OfForeign why → OfShown why
  after_runs why outcomes has rest = after_tree why outcomes has.complete (inr (has.runs, rest))

  after_foreign : (why : CheckFault) (outcomes : List Outcome) → HasForeignRuns q costs c outcomes → OfFenced why → OfShown why
  after_foreign why outcomes has rest = after_runs why outcomes has.replayed (inr ((outcomes, has.replayed.complete.listed.replayed, has.foreign), rest))

  after_fenced : (why : CheckFault) (outcomes : List Outcome) → HasServingSet q costs c outcomes → OfGaps why → OfShown why
  after_fenced why outcomes has rest = after_foreign why outcomes has.runs (inr ((outcomes, has.runs.replayed.complete.listed.replayed, has.fenced), rest))

  of_a_part : (why : CheckFault) → why ≢ fault.OutOfMemory → IsFirstFault q costs c why → OfShown why
  of_a_part fault.Shown known wrong = inl (tt, wrong, refl)
  of_a_part fault.Set known wrong = inr (wrong.0, inl (tt, wrong.1, refl))
  of_a_part fault.Cost known wrong = inr (wrong.0, inr (wrong.1, inl (tt, wrong.2, refl)))
  of_a_part (fault.SequentialRun n) known wrong = after_head (fault.SequentialRun n) wrong.0 (inl (n, wrong.1, refl))
  of_a_part (fault.SequentialTree path) known (outcomes, has, wrong) =
      after_replays (fault.SequentialTree path) outcomes has (inl (path, (outcomes, has.replayed, wrong), refl))
  of_a_part (fault.Run n) known (outcomes, has, wrong) = after_tree (fault.Run n) outcomes has (inl (n, wrong, refl))
  of_a_part (fault.NotForeign n) known (outcomes, has, wrong) =
      after_runs (fault.NotForeign n) outcomes has (inl (n, (outcomes, has.complete.listed.replayed, wrong), refl))
  of_a_part (fault.FencedTree path) known (outcomes, has, wrong) =
      after_foreign (fault.FencedTree path) outcomes has (inl (path, (outcomes, has.replayed.complete.listed.replayed, wrong), refl))
  of_a_part (fault.GapTree path) known (outcomes, has, wrong) = after_fenced (fault.GapTree path) outcomes has (inl (path, wrong, refl))
  of_a_part fault.OutOfMemory known wrong = absurd (known refl)

-- a fault is out of memory, or another one
memory_or_not : (why : CheckFault) → (why ≡ fault.OutOfMemory) ⊎ (why ≢ fault.OutOfMemory)
memory_or_not fault.OutOfMemory = inl refl
memory_or_not why = inr (λ e. cc)

-- by one question there is one first fault, memory aside
pub one_first_fault : (q : Question) (costs : List ℕ) (c : Certificate) (why other : CheckFault) → IsFirstFault q costs c why → IsFirstFault q costs c other →
    (why ≡ other) ⊎ (((why ≡ fault.OutOfMemory) ⊎ (other ≡ fault.OutOfMemory)) × HasHead q costs c)
one_first_fault q costs c why other wrong also = elim (memory_or_not why) [
  | inl memory ↦ inr (inl memory, subst (IsFirstFault q costs c) memory wrong)
  | inr known ↦ elim (memory_or_not other) [
    | inl memory ↦ inr (inr memory, subst (IsFirstFault q costs c) memory also)
    | inr known_too ↦ inl (one_of_shown q costs c why other (of_a_part q costs c why known wrong) (of_a_part q costs c other known_too also))
  ]
]
