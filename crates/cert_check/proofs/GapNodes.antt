-- What a split says, and the gaps by which it splits a region.
use Rattle.cert_check.proofs.Vocabulary.{◌≡◌, ◌↔◌, ℕ, zero, suc, true, false, List, [], ◌∷◌, Some, None, length, Contains, slice_get, refl, sym, ap, ◌∙◌, subst, AllZip-left, AllZip, same_Some, SetOfGaps, Better, Region, Question, Label}
use Rattle.cert_check.proofs.Vocabulary.{ArePassedNames, Gap, Split, Bound, gap_trees_of, one_list_of_gaps, HasNoSplit, FirstWrongGap, AreValidIn, IsWrongChildIn, HavePassed, IsAtRoot, IsBelow, PassesName, IsSplitBy, IsValidGap, gaps_count}
use Rattle.std.specs.List.Sorted.{IsStrictlyIncreasing}
use Rattle.tree_laws.specs.GapTrees.{IsBoundBy}
use Rattle.tree_laws.proofs.BoundedRegions.{by_must}
use Rattle.std.specs.FinSet as set
use Rattle.std.specs.Option.{IsSomeAnd, MatchOption}

-- what is found at a number goes with the labels of this number
pub labels_at : {B : Type 0} (R : List Label → B → Type 0) (runs : List (List Label)) (xs : List B) (n : ℕ) (x : B) → AllZip R runs xs → slice_get xs n ≡ Some x →
    (labels : List Label) × (slice_get runs n ≡ Some labels) × R labels x
labels_at R [] (y ∷ xs) n x each e = absurd each
labels_at R (labels ∷ runs) (y ∷ xs) zero x each e = (labels, refl, subst (R labels) (same_Some y x e) each.0)
labels_at R (labels ∷ runs) (y ∷ xs) (suc n) x each e = labels_at R runs xs n x each.1 e
labels_at R runs [] n x each e = absurd cc

-- there is nothing where there are no labels
pub nothing_at : {B : Type 0} (R : List Label → B → Type 0) (runs : List (List Label)) (xs : List B) (n : ℕ) (labels : List Label) → AllZip R runs xs → slice_get xs n ≡ None →
    slice_get runs n ≡ Some labels → ⊥
nothing_at R runs xs n labels each e h =
    subst (λ o. IsSomeAnd o (R labels)) e (subst (λ o. MatchOption o (Unit {0}) (λ run. IsSomeAnd (slice_get xs n) (R run))) h (AllZip-left R runs xs each n))

module _ (q : Question) (runs : List (List Label)) (passed : List SetOfGaps) (region : Region) (n : ℕ) (each : HavePassed q runs passed) where
  -- no such run
  pub not_there : slice_get passed n ≡ None → (count : ℕ) → HasNoSplit q runs region n count
  not_there none count gaps split e = nothing_at (ArePassedNames q) runs passed n split.labels each none split.is_run

  module _ (these : SetOfGaps) (there : slice_get passed n ≡ Some these) where
    run : (labels : List Label) × (slice_get runs n ≡ Some labels) × ArePassedNames q labels these
    run = labels_at (ArePassedNames q) runs passed n these each there

    same_labels : (gaps : List ℕ) (split : IsSplitBy q runs region n gaps) → run.0 ≡ split.labels
    same_labels gaps split = same_Some run.0 split.labels (sym run.1 ∙ split.is_run)

    -- the run passes a gap that the sets must have
    pub must_pass : (gap : ℕ) → set.contains these gap ≡ true → set.contains region.must gap ≡ true → (count : ℕ) → HasNoSplit q runs region n count
    must_pass gap passes must count gaps split e =
        split.passes_none gap must (subst (λ labels. PassesName q labels gap) (same_labels gaps split) ((run.2 gap).0 passes))

    -- the gaps that it passes and that the sets may have split the region
    pub splits : (gaps : List ℕ) → ((gap : ℕ) → set.contains these gap ≡ true → set.contains region.must gap ≡ true → ⊥) → IsStrictlyIncreasing gaps →
        ((gap : ℕ) → Contains gaps gap ↔ ((set.contains these gap ≡ true) × (set.contains region.never gap ≡ false))) →
        IsSplitBy q runs region n gaps
    splits gaps meets ascending exact = record {
      labels = run.0;
      is_run = run.1;
      passes_none = λ gap must passes. meets gap ((run.2 gap).1 passes) must;
      ascending = ascending;
      exact = λ gap. (
        (λ here. (let (passes, open_gap) = (exact gap).0 here in ((run.2 gap).0 passes, open_gap))),
        (λ (passes, open_gap). (exact gap).1 ((run.2 gap).1 passes, open_gap)),
      );
    }

-- they are not so many
pub not_as_many : (q : Question) (runs : List (List Label)) (region : Region) (n count : ℕ) (gaps : List ℕ) → IsSplitBy q runs region n gaps →
    (length gaps ≡ count → ⊥) → HasNoSplit q runs region n count
not_as_many q runs region n count gaps split differ others other e = differ (ap length (one_list_of_gaps q runs region n gaps others split other) ∙ sym e)

module _ (q : Question) (costs : List ℕ) (answer : SetOfGaps) (runs : List (List Label)) (region : Region) where
  pub bound_here : (path : List ℕ) → IsAtRoot (Better costs region.must answer) path → FirstWrongGap q costs answer runs (Bound []) region path
  bound_here path (at, better) = subst (FirstWrongGap q costs answer runs (Bound []) region) (sym at) (λ bound. (by_must q costs answer runs region).0 bound better)

  pub runs_here : (numbers : List ℕ) (path : List ℕ) → IsAtRoot (¬ IsBoundBy q costs answer runs region numbers) path → FirstWrongGap q costs answer runs (Bound numbers) region path
  runs_here numbers path (at, none) = subst (FirstWrongGap q costs answer runs (Bound numbers) region) (sym at) none

  module _ (n : ℕ) (trees : List Gap) where
    pub split_here : (path : List ℕ) → IsAtRoot (HasNoSplit q runs region n (length trees)) path → FirstWrongGap q costs answer runs (Split n (gap_trees_of trees)) region path
    split_here path (at, none) = subst (FirstWrongGap q costs answer runs (Split n (gap_trees_of trees)) region) (sym at) (λ gaps split e. none gaps split (sym (gaps_count trees) ∙ e))

    module _ (gaps : List ℕ) (split : IsSplitBy q runs region n gaps) where
      pub split_valid : AreValidIn q costs answer runs trees region gaps → IsValidGap q costs answer runs (Split n (gap_trees_of trees)) region
      split_valid valid = (gaps, split, valid)

      pub split_below : length trees ≡ length gaps → (path : List ℕ) → IsBelow (IsWrongChildIn q costs answer runs trees region gaps) path →
          FirstWrongGap q costs answer runs (Split n (gap_trees_of trees)) region path
      split_below as_many [] wrong = absurd wrong
      split_below as_many (child ∷ path) wrong = (gaps, split, gaps_count trees ∙ as_many, wrong)
