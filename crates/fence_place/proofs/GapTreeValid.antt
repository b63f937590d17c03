-- The gap tree of the record of a search that is done is valid for its answer, and within the limits of a text.
use Rattle.fence_place.proofs.Vocabulary.{◌≡◌, ℕ, suc, ◌+◌, ◌<◌, ◌≤◌, ◌^◌, List, [], ◌∷◌, Some, length, max, refl, sym, ap, ◌∙◌, subst, arith, slice_get, same_Some, slice_get_within, SetOfGaps, Region, Question, Label, IsTheAnswer, Gap, Split, Bound, GapTrees}
use Rattle.fence_place.proofs.Vocabulary.{NoGap, MoreGaps, count_gaps, Foreign, Entry, SearchState, Facts, IsRecorded, AreRecorded, MAX_GAPS, undecided, Each, few_open, without_gap, child_regions, open_gaps, gap_depth, gaps_depth, HasGapNumbers}
use Rattle.fence_place.proofs.Vocabulary.{HaveGapNumbers, IsSplitBy, IsValidGap, AreValidGaps, open_exact, open_ascending, HasNode, IsSplitAt, kids_less, open_undecided, small_set}
use Rattle.std.proofs.lemmas.List.Kept.{AllPairs-from_increasing}
use Rattle.cert_forest.specs.Rule.TheVariants.{Whole}
use Rattle.fence_place.proofs.Bounds.{bounded}
use Rattle.tree_laws.proofs.BoundedRegions.{by_must}

-- as many children as gaps
pub as_many : (n : Region) (gaps : List ℕ) → length (child_regions n gaps) ≡ length gaps
as_many n [] = refl
as_many n (gap ∷ gaps) = let e = as_many (without_gap n gap) gaps in omega arith

module _ (s : SearchState) (facts : Facts s) (answer : SetOfGaps) (is_answer : IsTheAnswer s.question s.costs answer) (runs : List (List Label)) where
  -- the gaps of a split are those that the run passes and that the sets may have
  split_by : (n : Region) (place first number : ℕ) (f : Foreign) → IsSplitAt s.question s.entries place n f first → slice_get runs number ≡ Some f.labels →
      IsSplitBy s.question runs n number (open_gaps f.passed n.never)
  split_by n place first number f at is =
      let small = small_set s.question facts.within f at.of_question at.foreign in
      subst (λ (q : Question). IsSplitBy q runs n number (open_gaps f.passed n.never)) at.of_question (record {
        labels = f.labels;
        is_run = is;
        passes_none = λ gap there passes. at.passes_none gap ((at.foreign.passed gap).1 passes) there;
        ascending = open_ascending f.passed n.never;
        exact = λ gap. (
          (λ here. (let both = (open_exact f.passed n.never small gap).0 here in ((at.foreign.passed gap).0 both.0, both.1))),
          (λ open_gap. (open_exact f.passed n.never small gap).1 ((at.foreign.passed gap).1 open_gap.0, open_gap.1)),
        );
      })

  abbrev Valid : Gap → Region → Type 0
  Valid tree n = IsValidGap s.question s.costs answer runs tree n

  -- valid, no deeper than there are gaps to decide, and with numbers that a text can hold
  pub record IsFine (tree : Gap) (n : Region) : Type 0 where
    pub valid : Valid tree n
    pub deep : gap_depth tree ≤ suc (undecided n)
    pub small_numbers : HasGapNumbers Whole tree

  record AreFine (depth : ℕ) (ts : GapTrees) (ns : List Region) : Type 0 where
    valid : AreValidGaps s.question s.costs answer runs ts ns
    deep : gaps_depth ts ≤ depth
    as_many : count_gaps ts ≡ length ns
    small_numbers : HaveGapNumbers Whole ts

  max_le : (a b c : ℕ) → a ≤ c → b ≤ c → max a b ≤ c
  max_le a b c h i = omega arith

  module _ (few : length runs < 2 ^ 64) where
    mutual
      pub fine : (tree : Gap) (place : ℕ) (n : Region) → IsRecorded s.entries runs tree place → HasNode s.entries place n → IsFine tree n
      fine (Bound (number ∷ numbers)) place n recorded has = absurd recorded
      fine (Bound []) place n (e, there, closed) has =
          let same : e ≡ has.here = same_Some e has.here (sym there ∙ has.there) in
          let is : e.node ≡ n = ap (λ (x : Entry). x.node) same ∙ has.is_node in
          subst (IsFine (Bound [])) is (record {
            valid = (by_must s.question s.costs answer runs e.node).1 (bounded s.question s.costs e.node.must answer facts.within (facts.of_program place e there) is_answer (facts.closed place e there closed));
            deep = omega arith;
            small_numbers = refl;
          })
      fine (Split number kids) place n (e, f, first, there, split, runs_at, recorded) has =
          let same : e ≡ has.here = same_Some e has.here (sym there ∙ has.there) in
          let is : e.node ≡ n = ap (λ (x : Entry). x.node) same ∙ has.is_node in
          let at = facts.split place e f first there split in
          let gaps = open_gaps f.passed e.node.never in
          let small = small_set s.question facts.within f at.of_question at.foreign in
          let less = kids_less e.node gaps (AllPairs-from_increasing gaps (open_ascending f.passed e.node.never)) (open_undecided f.passed e.node small at.passes_none) in
          let each : AreFine (undecided e.node) kids (child_regions e.node gaps) =
          each_fine (undecided e.node) kids first (child_regions e.node gaps) (subst (λ count. AreRecorded s.entries runs kids first count) (sym (as_many e.node gaps)) recorded) at.kids less in
          let deep : gaps_depth kids ≤ undecided e.node = each.deep in
          let count : count_gaps kids ≡ length gaps = each.as_many ∙ as_many e.node gaps in
          let up : length gaps ≤ MAX_GAPS = few_open f.passed e.node.never in
          let within : number < length runs = slice_get_within runs number f.labels runs_at in
          subst (IsFine (Split number kids)) is (record { valid = (gaps, split_by e.node place first number f at runs_at, each.valid); deep = omega arith; small_numbers = (omega arith, omega arith, each.small_numbers) })

      each_fine : (depth : ℕ) (ts : GapTrees) (first : ℕ) (ns : List Region) → AreRecorded s.entries runs ts first (length ns) →
          ((j : ℕ) (c : Region) → slice_get ns j ≡ Some c → HasNode s.entries (first + j) c) → Each (λ (c : Region). undecided c < depth) ns → AreFine depth ts ns
      each_fine depth NoGap first [] recorded has less = record { valid = tt; deep = omega arith; as_many = refl; small_numbers = tt }
      each_fine depth (MoreGaps t ts) first (c ∷ cs) recorded has less =
          let one = fine t first c recorded.0 (subst (λ k. HasNode s.entries k c) (omega arith) (has 0 c refl)) in
          let others = each_fine depth ts (first + 1) cs recorded.1 (λ j d here. subst (λ k. HasNode s.entries k d) (omega arith) (has (suc j) d here)) (λ j d here. less (suc j) d here) in
          let low : undecided c < depth = less 0 c refl in
          let deep : gap_depth t ≤ suc (undecided c) = one.deep in
          let more : count_gaps ts ≡ length cs = others.as_many in
          record { valid = (one.valid, others.valid); deep = max_le (gap_depth t) (gaps_depth ts) depth (omega arith) others.deep; as_many = omega arith; small_numbers = (one.small_numbers, others.small_numbers) }
      each_fine depth ts first ns recorded has less = absurd recorded
