-- A run that has no gap in common with a set of a region outside `never` passes none of the set's gaps.
use Rattle.tree_laws.proofs.Vocabulary.{◌≡◌, ℕ, true, false, List, sym, ◌∙◌, inl, inr, Question, SetOfGaps, HasNoneOf, IsInRegion, Region, Label, IsSplitBy, PassesNoNameOf, SomePassesNone}
use Rattle.std.specs.FinSet as set
use Rattle.tree_laws.proofs.{Lists.found_is_here, Regions.true_or_false}

module _ (q : Question) (runs : List (List Label)) (n : Region) (number : ℕ) (gaps : List ℕ) (split : IsSplitBy q runs n number gaps) (other : SetOfGaps) (inside : IsInRegion n other) where
  -- what the run passes and the set has is one of the gaps of the split
  passes_none_of : HasNoneOf other gaps → PassesNoNameOf q other split.labels
  passes_none_of none gap there passed = elim (true_or_false (set.contains n.never gap)) [
    | inl never ↦ (let no : true ≡ false = sym there ∙ inside.avoids gap never in absurd cc)
    | inr free ↦ (let no : true ≡ false = sym there ∙ none gap ((split.exact gap).1 (passed, free)) in absurd cc)
  ]

  pub missed : HasNoneOf other gaps → SomePassesNone q runs other
  missed none = (split.labels, found_is_here runs number split.labels split.is_run, passes_none_of none)
