-- What a binary search finds among outcomes that ascend.
use Rattle.tree_laws.proofs.Vocabulary.{◌≡◌, ℕ, ◌+◌, List, Contains, get_or, length, slice_get, sym, ap, ◌∙◌, inl, inr, arith, Outcome}
use Rattle.std.specs.Prelude.{IfErr, IfOk, Ok, Err, Result, Some}
use Rattle.std.specs.List.Sorted.{IsSorted, IsSearchInRange, IsBinarySearchResult, IsNonDecreasingBy}
use Rattle.std.specs.Ordering.{is_lt, ordering_index, ordering_reverse}
use Rattle.std.specs.declared.cmp.Ordering.TheVariants.{Equal, Greater, Less}
use Rattle.std.proofs.lemmas.Bool.{cases_lt}
use Rattle.std.proofs.lemmas.List.Sorted.{searchable_from_sorted}
use Rattle.std.proofs.lemmas.Option.{slice_get-get_or}
use Rattle.tso_program.proofs.OutcomesOrdered.{equal_itself, exact_outcomes, outcomes_ordered}
use Rattle.tso_program.specs.Ordered.{outcome_cmp}
use Rattle.tree_laws.specs.Ascending.{Ascend, BelongsAt}

-- a list that ascends is sorted
sorted_of : (os : List Outcome) → Ascend os → IsSorted outcome_cmp os
sorted_of os up k d low high =
    let a = get_or os k d in
    let b = get_or os (k + 1) d in
    ap is_lt (outcomes_ordered.antisymm b a ∙ ap ordering_reverse (up k (k + 1) d (omega arith) high))

rises : (os : List Outcome) (o : Outcome) → Ascend os → IsNonDecreasingBy (λ y. ordering_index (outcome_cmp y o)) os
rises os o up = searchable_from_sorted outcomes_ordered (λ (x : Outcome). x) os o (sorted_of os up)

-- what a binary search tells of a list that ascends
pub searched : (os : List Outcome) (o : Outcome) (r : Result ℕ ℕ) → Ascend os → IsSearchInRange r (length os) → IsBinarySearchResult (λ y. outcome_cmp y o) os r →
    record { there : IfOk r (λ place. slice_get os place ≡ Some o); belongs : IfErr r (BelongsAt os o) }
searched os o (Ok place) up within equal = record {
  there = slice_get-get_or os place o within ∙ ap Some (exact_outcomes (get_or os place o) o (equal o));
  belongs = tt;
}
searched os o (Err place) up within parted = record {
  there = tt;
  belongs = record {
    within = within;
    before = λ k d h. (parted (rises os o up)).0 k d (omega arith) h;
    after = λ k d h l. (parted (rises os o up)).1 k d h l;
  };
}

-- an outcome that belongs at a place is not there yet
pub not_there : (os : List Outcome) (o : Outcome) (p : ℕ) → BelongsAt os o p → Contains os o → ⊥
not_there os o p belongs (k, h, e) = elim (cases_lt k p) [
  | inl low ↦ (let less : Equal ≡ Less = sym (equal_itself o) ∙ ap (λ x. outcome_cmp x o) (sym e) ∙ belongs.before k o low in absurd cc)
  | inr high ↦ (let more : Equal ≡ Greater = sym (equal_itself o) ∙ ap (λ x. outcome_cmp x o) (sym e) ∙ belongs.after k o high h in absurd cc)
]
