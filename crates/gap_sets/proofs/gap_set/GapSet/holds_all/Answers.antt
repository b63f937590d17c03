use Rattle.gap_sets.proofs.Vocabulary.{ℕ, ◌∙◌, inl, inr, sym, bit_not, w128, bit_and, nat_cmp_total, eqb_tells, false_from_ne_true as not_all}
use mathlib.Core.Bool.{true≢false}
use Rattle.std.specs.FinSet as set
use Rattle.gap_sets.proofs.{WordSets.contains-word, Words.within, Words.not_within}
use Rattle.gap_sets.proofs.gap_set.GapSet.holds_all.Goals as goal

pub returns : goal.returns
returns c =
    let a : ℕ = c.other.inside.bits in
    let b : ℕ = c.self.inside.bits in
    elim (eqb_tells (bit_and a (bit_not w128 b)) 0) [
      | inl s ↦
          s.0 ∙ sym (set.contains-is_subset nat_cmp_total _ _ (λ q p.
          contains-word b q _ c.self.view_is c.self.invariant ∙ within a b c.other.invariant s.1 c.self.invariant q (sym (contains-word a q _ c.other.view_is c.other.invariant) ∙ p)))
      | inr s ↦
          let found = not_within a b c.other.invariant c.self.invariant s.1 in
          let q : ℕ = found.0 in
          s.0 ∙ sym (not_all (set.is_subset c.args.other.now c.args.self.now) (λ all.
          true≢false (sym (set.is_subset-contains nat_cmp_total _ _ all q (contains-word a q _ c.other.view_is c.other.invariant ∙ found.1)) ∙ contains-word b q _ c.self.view_is c.self.invariant ∙ found.2)))
    ]
