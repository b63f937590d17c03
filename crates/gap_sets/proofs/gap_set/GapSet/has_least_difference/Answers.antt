use Rattle.gap_sets.proofs.Vocabulary.{ℕ, sym, ◌∙◌, eqb-true, eq-eqb, w128, trailing_zeros, bit_xor, shr_and_one}
use Rattle.gap_sets.proofs.Words.{is_not_zero}
use Rattle.gap_sets.proofs.Differences.{lowest_bit-lt, differs_at_lowest, least_from_bit, bit_from_least, words_differ}
use Rattle.gap_sets.proofs.gap_set.GapSet.has_least_difference.Goals as goal

pub overflow_shr-result : goal.overflow_shr-result
overflow_shr-result c = lowest_bit-lt _ _ c.self.invariant c.other.invariant c.if-differing-ne0.true

pub returns-then-differing-ne0 : goal.returns-then-differing-ne0
returns-then-differing-ne0 c =
    let a : ℕ = c.self.inside.bits in
    let b : ℕ = c.other.inside.bits in
    let place : ℕ = trailing_zeros w128 (bit_xor a b) in
    let first = differs_at_lowest a b c.self.invariant c.other.invariant c.if-differing-ne0.true in (
      λ one. least_from_bit a b _ _ c.self.view_is c.other.view_is c.self.invariant c.other.invariant place first (sym (shr_and_one a place) ∙ eqb-true _ _ one),
      λ least. eq-eqb _ _ (shr_and_one a place ∙ bit_from_least a b _ _ c.self.view_is c.other.view_is c.self.invariant c.other.invariant place first least),
    )

pub returns-else-differing-ne0 : goal.returns-else-differing-ne0
returns-else-differing-ne0 c = (
  λ some. absurd (is_not_zero _ some c.if-differing-ne0.false),
  λ least. absurd (words_differ _ _ _ _ c.self.view_is c.other.view_is c.self.invariant c.other.invariant least c.if-differing-ne0.false),
)
