-- A word's set contains the numbers of the bits that are 1, and gives the word back.
use Rattle.std.proofs.Common.{◌≡◌, ℕ, zero, suc, ◌+◌, ◌*◌, ◌%◌, ◌^◌, ◌<◌, ◌≤◌, ◌==◌, inl, inr, nat_eq, Bool, true, false, List, ◌∷◌, cond, ◌||◌, refl, sym, ap, ◌∙◌, arith, ◌≢◌}
use Rattle.std.specs.List.{filter, range_with_len, list_any}
use Rattle.std.specs.Int.{bit_at}
use Rattle.std.specs.FinSet as set
use Rattle.std.proofs.lemmas.Bool.{cases_lt}
use Rattle.std.proofs.lemmas.Bool.Decides.{nat_tests}
use Rattle.std.proofs.Math.Arith.{mod-mul}
use Rattle.std.proofs.lemmas.Nat.{pow_pos}
use native.Mathlib.Numerals.{unary_clauses}
use Rattle.std.proofs.lemmas.Nat.Bits.{bit_at_above, bit_at-lt}
use Rattle.gap_sets.specs.Internal.Bits.{has_bit, list_of, gaps_of_bits, bits_below, bits_of}
use Rattle.gap_sets.specs.declared.gap_set.TheConstants.{MAX_GAPS}

-- whether a number is in the list
abbrev any : ℕ → List ℕ → Bool
any q xs = list_any (λ y. nat_eq y q) xs

-- the test of two numbers that differ
other : (a q : ℕ) → a ≢ q → nat_eq a q ≡ false
other a q h = grind (arith, nat_tests)

itself : (a : ℕ) → nat_eq a a ≡ true
itself a = grind (arith, nat_tests)

-- a number is not found at another one
skip : (b : Bool) (a q : ℕ) (xs : List ℕ) → a ≢ q → any q (cond b (a ∷ xs) xs) ≡ any q xs
skip true a q xs h = ap (λ t. t || any q xs) (other a q h)
skip false a q xs h = refl

-- a number is found where it was taken
take_it : (b : Bool) (a : ℕ) (xs : List ℕ) → any a xs ≡ false → any a (cond b (a ∷ xs) xs) ≡ b
take_it true a xs h = ap (λ t. t || any a xs) (itself a)
take_it false a xs h = h

-- the numbers from a on that pass hold none below a
pub any-below : (p : ℕ → Bool) (a n q : ℕ) → q < a → any q (filter p (range_with_len a n)) ≡ false
any-below p a zero q h = refl
any-below p a (suc n) q h = skip (p a) a q _ (omega arith) ∙ any-below p (a + 1) n q (omega arith)

-- nor one past the end of the range
any-above : (p : ℕ → Bool) (a n q : ℕ) → a + n ≤ q → any q (filter p (range_with_len a n)) ≡ false
any-above p a zero q h = refl
any-above p a (suc n) q h = skip (p a) a q _ (omega arith) ∙ any-above p (a + 1) n q (omega arith)

-- and in the range they are those that pass
any-inside : (p : ℕ → Bool) (a n q : ℕ) → a ≤ q → q < a + n → any q (filter p (range_with_len a n)) ≡ p q
any-inside p a zero q low h = absurd (omega arith)
any-inside p a (suc n) q low h =
    elim (cases_lt a q) [
      | inl more ↦ skip (p a) a q _ (omega arith) ∙ any-inside p (a + 1) n q (omega arith) (omega arith)
      | inr same ↦ let here : a ≡ q = omega arith in rw here (take_it (p q) q _ (any-below p (q + 1) n q (omega arith)))
    ]

-- a word has no bit from MAX_GAPS on
pub no_bit : (bits q : ℕ) → bits < 2 ^ MAX_GAPS → MAX_GAPS ≤ q → false ≡ has_bit bits q
no_bit bits q h high = let none : bit_at bits q ≡ 0 = bit_at_above bits MAX_GAPS q h high in rw none

-- a word's set contains the numbers of its bits
pub contains-gaps_of : (bits q : ℕ) → bits < 2 ^ MAX_GAPS → set.contains (gaps_of_bits bits) q ≡ has_bit bits q
unfolding gaps_of_bits list_of
contains-gaps_of bits q h =
    set.contains-from_list_nat _ q
    ∙ elim (cases_lt q MAX_GAPS) [
      | inl low ↦ any-inside (has_bit bits) 0 MAX_GAPS q (omega arith) low
      | inr high ↦ any-above (has_bit bits) 0 MAX_GAPS q high ∙ no_bit bits q h high
    ]

-- a bit adds its power of two or nothing
bit_times : (bit power low : ℕ) → bit < 2 → low + cond (bit == 1) power 0 ≡ bit * power + low
bit_times zero power low h = omega arith
bit_times (suc zero) power low h = omega arith
bit_times (suc (suc bit)) power low h = absurd (omega arith)

-- twice a power of two
double : (n : ℕ) → 2 * 2 ^ n ≡ 2 ^ suc n
double n = simp unary_clauses (omega arith)

-- the bits of a word below n make its remainder
bits_below-has_bit : (bits n : ℕ) → bits_below (has_bit bits) n ≡ bits % 2 ^ n
unfolding bits_below
bits_below-has_bit bits zero = omega arith
bits_below-has_bit bits (suc n) =
    ap (λ low. low + cond (has_bit bits n) (2 ^ n) 0) (bits_below-has_bit bits n)
    ∙ bit_times (bit_at bits n) (2 ^ n) (bits % 2 ^ n) (bit_at-lt bits n)
    ∙ sym (mod-mul bits {m = 2} {c = 2 ^ n} (omega arith) (pow_pos n))
    ∙ ap (λ power. bits % power) (double n)

-- tests that answer alike give the same word
bits_below_alike : (p q : ℕ → Bool) (n : ℕ) → ((k : ℕ) → p k ≡ q k) → bits_below p n ≡ bits_below q n
unfolding bits_below
bits_below_alike p q zero alike = refl
bits_below_alike p q (suc n) alike = λ i. bits_below_alike p q n alike i + cond (alike n i) (2 ^ n) 0

-- a word's set gives the word back
pub bits_of-gaps_of : (bits : ℕ) → bits < 2 ^ MAX_GAPS → bits_of (gaps_of_bits bits) ≡ bits
unfolding bits_of
bits_of-gaps_of bits h =
    bits_below_alike _ (has_bit bits) MAX_GAPS (λ k. contains-gaps_of bits k h)
    ∙ bits_below-has_bit bits MAX_GAPS
    ∙ omega arith
