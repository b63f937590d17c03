-- Of each better set in the region of a valid gap tree one of the runs passes no gap. Where the runs are foreign, no better set there serves.
use Rattle.std.proofs.Common.{ℕ, List, [], ◌∷◌, Contains, inl, inr}
use Rattle.tree_laws.proofs.Vocabulary.{SetOfGaps, child_regions, Region, Question, IsWithinLimits, Label, Gap, Split, Bound, GapTrees, NoGap, MoreGaps, IsSplitBy, IsValidGap, AreValidGaps, SomeRunAvoidsEachBetter}
use Rattle.tree_laws.proofs.Vocabulary.{HaveCosts, AValidGapTreeAvoidsEachBetter, AValidGapTreeLeavesNoBetter, SoNoServingSetIsBetter, TheRootHasEverySet}
use Rattle.tree_laws.proofs.{Lists.none_here, Lists.each_more, AvoidedGaps.avoided_leaves, PassedGaps.missed, BoundedRegions.bound_avoids}
use Rattle.tree_laws.proofs.Regions.{split_loses_no_set, in_root}

module _ (q : Question) (costs : List ℕ) (answer : SetOfGaps) (runs : List (List Label)) where
  -- each of the regions has what a valid tree means
  abbrev EachMeans : List Region → Type 0
  EachMeans ns = (n : Region) → Contains ns n → SomeRunAvoidsEachBetter q costs answer runs n

  by_split : (n : Region) (number : ℕ) (gaps : List ℕ) → IsSplitBy q runs n number gaps → EachMeans (child_regions n gaps) → SomeRunAvoidsEachBetter q costs answer runs n
  by_split n number gaps split each other of_program inside better = elim (split_loses_no_set n gaps other inside) [
    | inl (child, here, in_child) ↦ each child here other of_program in_child better
    | inr none ↦ missed q runs n number gaps split other inside none
  ]

  module _ (within : IsWithinLimits q.program.threads q.program.memory) (have : HaveCosts q.program costs) where
    mutual
      means : (tree : Gap) (n : Region) → IsValidGap q costs answer runs tree n → SomeRunAvoidsEachBetter q costs answer runs n
      means (Split number children) n (gaps, split, valid) = by_split n number gaps split (each_means children (child_regions n gaps) valid)
      means (Bound numbers) n bound = bound_avoids q costs answer runs n numbers within have bound

      each_means : (trees : GapTrees) (ns : List Region) → AreValidGaps q costs answer runs trees ns → EachMeans ns
      each_means NoGap [] valid = λ n here. absurd (none_here n here)
      each_means (MoreGaps tree trees) (n ∷ ns) (now, later) = each_more (SomeRunAvoidsEachBetter q costs answer runs) n ns (means tree n now) (each_means trees ns later)
      each_means trees ns valid = absurd valid

pub each_better_avoided : AValidGapTreeAvoidsEachBetter
each_better_avoided q costs answer runs tree n within have = means q costs answer runs within have tree n

pub no_better_left : AValidGapTreeLeavesNoBetter
no_better_left q costs answer runs tree n within have foreign valid other of_program inside better =
    avoided_leaves q runs other foreign (each_better_avoided q costs answer runs tree n within have valid other of_program inside better)

pub none_serves : SoNoServingSetIsBetter
none_serves q costs answer n each other of_program inside serves better =
    let left = each other of_program inside better in
    left.foreign ((serves left.outcome).0 left.left)

pub root_has_every_set : TheRootHasEverySet
root_has_every_set q costs answer each other of_program better = each other of_program (in_root other) better
