-- What a word's set contains, and what setting and clearing a bit does to it.
use Rattle.gap_sets.proofs.Vocabulary.{◌≡◌, ℕ, ◌*◌, ◌%◌, ◌^◌, ◌<◌, ◌==◌, inl, inr, true, false, zero, suc, min, ◌&&◌, ◌||◌, not, refl, sym, ap, ◌∙◌, arith, bit_or, bit_and, nat_cmp, eq_by_cmp, or_lt, and_le_l, bit_at_above, bit_at_and, bit_at_or, bit_at_not, bit_at-lt, bit_at_set_same, bit_at_set_other}
use Rattle.gap_sets.proofs.Vocabulary.{bit_at_clear_same, bit_at_clear_other, bit_at-zero, bit_at, bit_not, w128, nat_cmp_total, cases_lt, nat_tests, eqb_tells, has_bit, gaps_of_bits, IsGapSet, MAX_GAPS, contains-gaps_of, no_bit}
use Rattle.std.specs.FinSet as set
use Rattle.std.proofs.Math.Nat.{mod-lt}
use Prim.Native.Nat.{max, ◌-◌}

-- sets that contain alike are equal
same_gaps : (s t : set.FinSet nat_cmp) → ((q : ℕ) → set.contains s q ≡ set.contains t q) → s ≡ t
same_gaps s t alike = set.same_set nat_cmp_total set.nat_cmp-IsAntisymmetric s t alike

-- the word 0 is the empty set
pub gaps_of-zero : gaps_of_bits 0 ≡ set.empty
gaps_of-zero =
    same_gaps _ _ (λ q. contains-gaps_of 0 q (omega arith) ∙ (let none : bit_at 0 q ≡ 0 = bit_at-zero q in rw none refl) ∙ sym (set.contains-empty nat_cmp q))

-- the order of numbers holds equal numbers alone for the same
pub is_same : (q g : ℕ) → eq_by_cmp nat_cmp q g ≡ (q == g)
is_same q g = grind (arith, nat_tests)

-- the bits after one is set
set_bit : (bits g q : ℕ) → g < MAX_GAPS → has_bit (bit_or bits (1 * 2 ^ g % 2 ^ MAX_GAPS)) q ≡ ((q == g) || has_bit bits q)
set_bit bits g q h =
    elim (eqb_tells q g) [
      | inl s ↦ let one : bit_at (bit_or bits (1 * 2 ^ g % 2 ^ MAX_GAPS)) q ≡ 1 = rw s.1 (bit_at_set_same w128 bits g h) in rw (s.0, one) refl
      | inr s ↦ let alike : bit_at (bit_or bits (1 * 2 ^ g % 2 ^ MAX_GAPS)) q ≡ bit_at bits q = bit_at_set_other w128 bits g h q s.1 in rw (s.0, alike) refl
    ]

-- to set a bit is to insert its number
pub gaps_of-insert : (bits g : ℕ) → bits < 2 ^ MAX_GAPS → g < MAX_GAPS → bit_or bits (1 * 2 ^ g % 2 ^ MAX_GAPS) < 2 ^ MAX_GAPS → gaps_of_bits (bit_or bits (1 * 2 ^ g % 2 ^ MAX_GAPS)) ≡ set.insert (gaps_of_bits bits) g
gaps_of-insert bits g h below fits =
    same_gaps _ _ (λ q.
    contains-gaps_of _ q fits ∙ set_bit bits g q below
    ∙ sym (set.contains-insert nat_cmp_total (gaps_of_bits bits) g q ∙ (λ i. is_same q g i || contains-gaps_of bits q h i)))

-- the bits after one is cleared
clear_bit : (bits g q : ℕ) → bits < 2 ^ MAX_GAPS → g < MAX_GAPS → has_bit (bit_and bits (bit_not w128 (1 * 2 ^ g % 2 ^ MAX_GAPS))) q ≡ (not (q == g) && has_bit bits q)
clear_bit bits g q below h =
    elim (eqb_tells q g) [
      | inl s ↦ let none : bit_at (bit_and bits (bit_not w128 (1 * 2 ^ g % 2 ^ MAX_GAPS))) q ≡ 0 = rw s.1 (bit_at_clear_same w128 bits g h) in rw (s.0, none) refl
      | inr s ↦
          elim (cases_lt q MAX_GAPS) [
            | inl low ↦ let alike : bit_at (bit_and bits (bit_not w128 (1 * 2 ^ g % 2 ^ MAX_GAPS))) q ≡ bit_at bits q = bit_at_clear_other w128 bits g h q low s.1 in rw (s.0, alike) refl
            | inr high ↦
                let none : bit_at bits q ≡ 0 = bit_at_above bits MAX_GAPS q below high in
                let both : bit_at (bit_and bits (bit_not w128 (1 * 2 ^ g % 2 ^ MAX_GAPS))) q ≡ 0 = bit_at_and bits _ q ∙ rw none (omega arith) in
                rw (s.0, both, none) refl
          ]
    ]

-- to clear a bit is to remove its number
pub gaps_of-remove : (bits g : ℕ) → bits < 2 ^ MAX_GAPS → g < MAX_GAPS → gaps_of_bits (bit_and bits (bit_not w128 (1 * 2 ^ g % 2 ^ MAX_GAPS))) ≡ set.remove (gaps_of_bits bits) g
gaps_of-remove bits g h below =
    same_gaps _ _ (λ q.
    contains-gaps_of _ q (omega (arith, and_le_l bits (bit_not w128 (1 * 2 ^ g % 2 ^ MAX_GAPS)))) ∙ clear_bit bits g q h below
    ∙ sym (set.contains-remove nat_cmp_total (gaps_of_bits bits) g q ∙ (λ i. not (is_same q g i) && contains-gaps_of bits q h i)))

-- of two bits, whether either is 1
either : (x y : ℕ) → x < 2 → y < 2 → (max x y == 1) ≡ ((x == 1) || (y == 1))
either zero zero p r = refl
either zero (suc zero) p r = refl
either (suc zero) zero p r = refl
either (suc zero) (suc zero) p r = refl
either zero (suc (suc y)) p r = absurd (omega arith)
either (suc zero) (suc (suc y)) p r = absurd (omega arith)
either (suc (suc x)) y p r = absurd (omega arith)

-- the union of two words' sets is that of the bits of either
pub gaps_of-union : (a b : ℕ) → a < 2 ^ MAX_GAPS → b < 2 ^ MAX_GAPS → gaps_of_bits (bit_or a b) ≡ set.union (gaps_of_bits a) (gaps_of_bits b)
gaps_of-union a b small_a small_b =
    same_gaps _ _ (λ q.
    contains-gaps_of _ q (or_lt MAX_GAPS a b small_a small_b) ∙ rw (bit_at_or a b q) (either _ _ (bit_at-lt a q) (bit_at-lt b q))
    ∙ sym (set.contains-union nat_cmp_total (gaps_of_bits a) (gaps_of_bits b) q ∙ (λ i. contains-gaps_of a q small_a i || contains-gaps_of b q small_b i)))

-- of two bits, whether the first alone is 1
first_alone : (x y : ℕ) → x < 2 → y < 2 → (min x (1 - y) == 1) ≡ ((x == 1) && not (y == 1))
first_alone zero zero p r = refl
first_alone zero (suc zero) p r = refl
first_alone (suc zero) zero p r = refl
first_alone (suc zero) (suc zero) p r = refl
first_alone zero (suc (suc y)) p r = absurd (omega arith)
first_alone (suc zero) (suc (suc y)) p r = absurd (omega arith)
first_alone (suc (suc x)) y p r = absurd (omega arith)

-- the bits of a word that another lacks
lacked_bit : (a b q : ℕ) → a < 2 ^ MAX_GAPS → b < 2 ^ MAX_GAPS → has_bit (bit_and a (bit_not w128 b)) q ≡ (has_bit a q && not (has_bit b q))
lacked_bit a b q small_a small_b =
    elim (cases_lt q MAX_GAPS) [
      | inl low ↦ rw (bit_at_and a (bit_not w128 b) q, bit_at_not w128 b q small_b low) (first_alone _ _ (bit_at-lt a q) (bit_at-lt b q))
      | inr high ↦
          let none : bit_at a q ≡ 0 = bit_at_above a MAX_GAPS q small_a high in
          let both : bit_at (bit_and a (bit_not w128 b)) q ≡ 0 = bit_at_and a _ q ∙ rw none (omega arith) in
          rw (both, none) refl
    ]

-- the difference of two words' sets is that of the bits that the second lacks
pub gaps_of-difference : (a b : ℕ) → a < 2 ^ MAX_GAPS → b < 2 ^ MAX_GAPS → gaps_of_bits (bit_and a (bit_not w128 b)) ≡ set.difference (gaps_of_bits a) (gaps_of_bits b)
gaps_of-difference a b small_a small_b =
    same_gaps _ _ (λ q.
    contains-gaps_of _ q (omega (arith, and_le_l a (bit_not w128 b))) ∙ lacked_bit a b q small_a small_b
    ∙ sym (set.contains-difference nat_cmp_total (gaps_of_bits a) (gaps_of_bits b) q ∙ (λ i. contains-gaps_of a q small_a i && not (contains-gaps_of b q small_b i))))

-- what a value of the model contains, from the word that it was opened to
pub contains-word : (bits q : ℕ) (s : set.FinSet nat_cmp) → gaps_of_bits bits ≡ s → bits < 2 ^ MAX_GAPS → set.contains s q ≡ has_bit bits q
contains-word bits q s is h = ap (λ t. set.contains t q) (sym is) ∙ contains-gaps_of bits q h

-- a word holds no gap from MAX_GAPS on
pub IsGapSet-word : (bits : ℕ) (s : set.FinSet nat_cmp) → gaps_of_bits bits ≡ s → bits < 2 ^ MAX_GAPS → IsGapSet s
IsGapSet-word bits s is h gap there =
    elim (cases_lt gap MAX_GAPS) [
      | inl low ↦ low
      | inr high ↦ let none : true ≡ false = sym there ∙ contains-word bits gap s is h ∙ sym (no_bit bits gap h high) in cc
    ]

-- the word after a bit is set fits
pub or_fits : (bits g : ℕ) → bits < 2 ^ MAX_GAPS → bit_or bits (1 * 2 ^ g % 2 ^ MAX_GAPS) < 2 ^ MAX_GAPS
or_fits bits g h = or_lt MAX_GAPS bits _ h (mod-lt _ (omega arith))
