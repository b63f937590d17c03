-- The least gap that is in exactly one of two sets is the lowest bit in which their words differ.
use Rattle.gap_sets.proofs.Vocabulary.{◌≡◌, ◌≢◌, ℕ, ◌+◌, ◌%◌, ◌^◌, ◌<◌, ◌==◌, inl, inr, false, sym, ap, ◌∙◌, arith, eqb-true, eq-eqb, xor_lt, bit_at-lt, bit_at_xor, bit_at-zero, bit_at-trailing_zeros, bit_at, w128, trailing_zeros, bit_xor, cases_lt, nat_tests}
use Rattle.gap_sets.proofs.Vocabulary.{gaps_of_bits, SetOfGaps, HasLeastDifference, MAX_GAPS}
use Rattle.gap_sets.proofs.WordSets.{contains-word}

-- the words differ at this bit and at none below
pub record DiffersFirstAt (a b place : ℕ) : Type 0 where
  pub differs : bit_at a place + bit_at b place ≡ 1
  pub alike : (k : ℕ) → k < place → bit_at a k ≡ bit_at b k

-- two bits of odd sum
odd_sum : (x y : ℕ) → x < 2 → y < 2 → (x + y) % 2 ≡ 1 → x + y ≡ 1
odd_sum x y h i e = omega arith

-- two bits of even sum
even_sum : (x y : ℕ) → x < 2 → y < 2 → (x + y) % 2 ≡ 0 → x ≡ y
even_sum x y h i e = omega arith

-- the lowest bit of the symmetric difference is below MAX_GAPS
pub lowest_bit-lt : (a b : ℕ) → a < 2 ^ MAX_GAPS → b < 2 ^ MAX_GAPS → bit_xor a b ≢ 0 → trailing_zeros w128 (bit_xor a b) < MAX_GAPS
lowest_bit-lt a b small_a small_b some = (bit_at-trailing_zeros w128 (bit_xor a b) (omega arith) (xor_lt MAX_GAPS a b small_a small_b)).0

-- the lowest bit of the symmetric difference
pub differs_at_lowest : (a b : ℕ) → a < 2 ^ MAX_GAPS → b < 2 ^ MAX_GAPS → bit_xor a b ≢ 0 → DiffersFirstAt a b (trailing_zeros w128 (bit_xor a b))
differs_at_lowest a b small_a small_b some =
    let found = bit_at-trailing_zeros w128 (bit_xor a b) (omega arith) (xor_lt MAX_GAPS a b small_a small_b) in
    record {
      differs = odd_sum _ _ (bit_at-lt a _) (bit_at-lt b _) (sym (bit_at_xor a b _) ∙ found.1);
      alike = λ k h. even_sum _ _ (bit_at-lt a k) (bit_at-lt b k) (sym (bit_at_xor a b k) ∙ found.2 k h);
    }

-- a bit that is 0
bit_is_not : (x : ℕ) → x ≡ 0 → (x == 1) ≡ false
bit_is_not x e = grind (arith, nat_tests)

-- a bit that is not 1
bit_is_zero : (x : ℕ) → x < 2 → (x == 1) ≡ false → x ≡ 0
bit_is_zero x h e = grind (arith, nat_tests)

-- bits that are 1 alike
same_bits : (x y : ℕ) → x < 2 → y < 2 → (x == 1) ≡ (y == 1) → x ≡ y
same_bits x y h i e = grind (arith, nat_tests)

module _ (a b : ℕ) (s t : SetOfGaps) (a_is : gaps_of_bits a ≡ s) (b_is : gaps_of_bits b ≡ t) (small_a : a < 2 ^ MAX_GAPS) (small_b : b < 2 ^ MAX_GAPS) where
  -- where the first word has it, its set has the least gap of the difference
  pub least_from_bit : (place : ℕ) → DiffersFirstAt a b place → bit_at a place ≡ 1 → HasLeastDifference s t
  least_from_bit place d one =
      let zero_bit : bit_at b place ≡ 0 = let both = d.differs in omega arith in
      record {
        gap = place;
        in_first = contains-word a place s a_is small_a ∙ eq-eqb _ _ one;
        not_in_second = contains-word b place t b_is small_b ∙ bit_is_not _ zero_bit;
        alike_below = λ k h. contains-word a k s a_is small_a ∙ ap (λ x. x == 1) (d.alike k h) ∙ sym (contains-word b k t b_is small_b);
      }

  -- the least gap is a bit of the first word
  bit_in : (l : HasLeastDifference s t) → bit_at a l.gap ≡ 1
  bit_in l = eqb-true _ _ (sym (contains-word a l.gap s a_is small_a) ∙ l.in_first)

  -- and none of the second
  bit_out : (l : HasLeastDifference s t) → bit_at b l.gap ≡ 0
  bit_out l = bit_is_zero _ (bit_at-lt b l.gap) (sym (contains-word b l.gap t b_is small_b) ∙ l.not_in_second)

  -- so the words differ
  pub words_differ : HasLeastDifference s t → bit_xor a b ≢ 0
  words_differ l e =
      let odd = bit_at_xor a b l.gap in
      let none : bit_at (bit_xor a b) l.gap ≡ 0 = rw e (bit_at-zero l.gap) in
      let one = bit_in l in
      let other = bit_out l in
      omega arith

  -- and the lowest bit in which they differ is in the first
  pub bit_from_least : (place : ℕ) → DiffersFirstAt a b place → HasLeastDifference s t → bit_at a place ≡ 1
  bit_from_least place d l =
      let one = bit_in l in
      let other = bit_out l in
      elim (cases_lt l.gap place) [
        | inl early ↦ let same = d.alike l.gap early in absurd (omega arith)
        | inr not_early ↦
            elim (cases_lt place l.gap) [
              | inl late ↦
                  let both = d.differs in
                  let same : bit_at a place ≡ bit_at b place = same_bits _ _ (bit_at-lt a place) (bit_at-lt b place) (sym (contains-word a place s a_is small_a) ∙ l.alike_below place late ∙ contains-word b place t b_is small_b) in
                  absurd (omega arith)
              | inr not_late ↦ let here : place ≡ l.gap = omega arith in rw here one
            ]
      ]
