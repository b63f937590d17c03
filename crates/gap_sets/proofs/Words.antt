-- Tests on two words, as facts on their sets.
use Rattle.gap_sets.proofs.Vocabulary.{◌≡◌, ℕ, ◌^◌, ◌<◌, inl, inr, min, true, false, refl, sym, ap, ◌∙◌, arith, ◌≢◌, ◌↔◌, IsTrue, not, nat_eq, nat_tests, eqb-true, eq-eqb, bit_at_above, bit_at-lt, bit_at_and, bit_at_not, bit_at-zero, bit_at-trailing_zeros, bit_at, bit_not}
use Rattle.gap_sets.proofs.Vocabulary.{w128, trailing_zeros, bit_and, cases_lt, and_le_l, SetOfGaps, MAX_GAPS, has_bit, gaps_of_bits, bits_of, bits_of-gaps_of}

-- the test of a word that is not 0
pub is_not_zero : (n : ℕ) → IsTrue (not (nat_eq n 0)) → n ≢ 0
is_not_zero n h = grind (arith, nat_tests)

-- a common bit
pub common : (a b : ℕ) → bit_and a b < 2 ^ MAX_GAPS → bit_and a b ≢ 0 → (q : ℕ) × (has_bit a q ≡ true) × (has_bit b q ≡ true)
common a b fits some =
    let q : ℕ = trailing_zeros w128 (bit_and a b) in
    let found = bit_at-trailing_zeros w128 (bit_and a b) (omega arith) fits in
    let least : min (bit_at a q) (bit_at b q) ≡ 1 = sym (bit_at_and a b q) ∙ found.1 in
    let small_a = bit_at-lt a q in
    let small_b = bit_at-lt b q in
    let in_a : bit_at a q ≡ 1 = omega arith in
    let in_b : bit_at b q ≡ 1 = omega arith in
    (q, eq-eqb _ _ in_a, eq-eqb _ _ in_b)

-- with a common bit the words meet
pub no_common : (a b q : ℕ) → has_bit a q ≡ true → has_bit b q ≡ true → bit_and a b ≢ 0
no_common a b q p r e =
    let in_a : bit_at a q ≡ 1 = eqb-true _ _ p in
    let in_b : bit_at b q ≡ 1 = eqb-true _ _ r in
    let both : bit_at (bit_and a b) q ≡ 1 = bit_at_and a b q ∙ rw (in_a, in_b) refl in
    let none : bit_at (bit_and a b) q ≡ 0 = rw e (bit_at-zero q) in
    omega arith

-- a word within another: each of its bits is one of the other's
pub within : (a b : ℕ) → a < 2 ^ MAX_GAPS → bit_and a (bit_not w128 b) ≡ 0 → b < 2 ^ MAX_GAPS → (q : ℕ) → has_bit a q ≡ true → has_bit b q ≡ true
within a b small none small_b q p =
    let in_a : bit_at a q ≡ 1 = eqb-true _ _ p in
    elim (cases_lt q MAX_GAPS) [
      | inl low ↦
          let both = bit_at_and a (bit_not w128 b) q in
          let zero_bit : bit_at (bit_and a (bit_not w128 b)) q ≡ 0 = rw none (bit_at-zero q) in
          let flipped = bit_at_not w128 b q small_b low in
          let lt = bit_at-lt b q in
          let is : bit_at b q ≡ 1 = omega arith in
          eq-eqb _ _ is
      | inr high ↦ absurd (omega (arith, bit_at_above a MAX_GAPS q small high))
    ]

-- a word that is not within another has a bit that the other lacks
pub not_within : (a b : ℕ) → a < 2 ^ MAX_GAPS → b < 2 ^ MAX_GAPS → bit_and a (bit_not w128 b) ≢ 0 → (q : ℕ) × (has_bit a q ≡ true) × (has_bit b q ≡ false)
not_within a b small small_b some =
    let found = common a (bit_not w128 b) (omega (arith, and_le_l a (bit_not w128 b))) some in
    let q : ℕ = found.0 in
    elim (cases_lt q MAX_GAPS) [
      | inl low ↦
          let flipped = bit_at_not w128 b q small_b low in
          let one : bit_at (bit_not w128 b) q ≡ 1 = eqb-true _ _ found.2 in
          let zero_bit : bit_at b q ≡ 0 = omega arith in
          (q, found.1, (rw zero_bit refl))
      | inr high ↦
          let in_a : bit_at a q ≡ 1 = eqb-true _ _ found.1 in
          absurd (omega (arith, bit_at_above a MAX_GAPS q small high))
    ]

-- two words are equal where their sets are
pub same_word : (a b : ℕ) (s t : SetOfGaps) → gaps_of_bits a ≡ s → gaps_of_bits b ≡ t → a < 2 ^ MAX_GAPS → b < 2 ^ MAX_GAPS → IsTrue (nat_eq a b) ↔ (s ≡ t)
same_word a b s t a_is b_is small_a small_b = (
  λ yes. sym a_is ∙ ap gaps_of_bits (eqb-true a b yes) ∙ b_is,
  λ same. eq-eqb a b (sym (bits_of-gaps_of a small_a) ∙ ap bits_of (a_is ∙ same ∙ sym b_is) ∙ bits_of-gaps_of b small_b),
)
