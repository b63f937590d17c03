-- The members of a word in order.
use Rattle.gap_sets.proofs.Vocabulary.{◌≡◌, ◌≢◌, ℕ, zero, suc, ◌+◌, ◌*◌, ◌%◌, ◌^◌, ◌<◌, ◌≤◌, ◌==◌, inl, inr, Bool, true, false, List, [], ◌∷◌, cond, length, get_or, refl, sym, ap, ◌∙◌, arith, filter, range_with_len, bit_at, bit_not, w128, trailing_zeros}
use Rattle.gap_sets.proofs.Vocabulary.{bit_and, cases_lt, bit_at-zero, bit_at-trailing_zeros, bit_at_clear_same, bit_at_clear_other, has_bit, list_of, gaps_of_bits, SetOfGaps, numbers_of_set, MAX_GAPS}
use Rattle.std.specs.List.Sorted.{IsStrictlyIncreasing}
use Rattle.std.specs.FinSet as set
use Rattle.gap_sets.proofs.{WordSets.contains-word, Ranges.filter_alike}

-- where no number passes the list is empty
filter_none : (p : ℕ → Bool) (a n : ℕ) → ((q : ℕ) → p q ≡ false) → filter p (range_with_len a n) ≡ []
filter_none p a zero each = refl
filter_none p a (suc n) each = rw (each a) (filter_none p (a + 1) n each)

-- the word 0 has no bit
pub list_of-zero : list_of 0 ≡ []
unfolding list_of
list_of-zero = filter_none (has_bit 0) 0 MAX_GAPS (λ q. let none : bit_at 0 q ≡ 0 = bit_at-zero q in rw none refl)

-- the first number that passes comes first, and the others follow
filter_first : (p r : ℕ → Bool) (a n t : ℕ) → a ≤ t → t < a + n → ((q : ℕ) → q < t → p q ≡ false) → p t ≡ true → r t ≡ false → ((q : ℕ) → q < a + n → q ≢ t → p q ≡ r q) → filter p (range_with_len a n) ≡ t ∷ filter r (range_with_len a n)
filter_first p r a zero t low high before here gone others = absurd (omega arith)
filter_first p r a (suc n) t low high before here gone others =
    elim (cases_lt a t) [
      | inl more ↦
          let no_a : p a ≡ false = before a more in
          let nor_a : r a ≡ false = sym (others a (omega arith) (omega arith)) ∙ no_a in
          rw (no_a, nor_a) (filter_first p r (a + 1) n t (omega arith) (omega arith) before here gone (λ q h d. others q (omega arith) d))
      | inr same ↦
          let is : a ≡ t = omega arith in
          let one : p a ≡ true = rw is here in
          let none : r a ≡ false = rw is gone in
          rw (one, none) (λ i. is i ∷ filter_alike p r (a + 1) n (λ q l h. others q (omega arith) (omega arith)) i)
    ]

-- the lowest bit comes first, and then the bits of the word without it
pub list_of-first : (bits : ℕ) → bits ≢ 0 → bits < 2 ^ MAX_GAPS → list_of bits ≡ trailing_zeros w128 bits ∷ list_of (bit_and bits (bit_not w128 (1 * 2 ^ trailing_zeros w128 bits % 2 ^ MAX_GAPS)))
unfolding list_of
list_of-first bits some fits =
    let t : ℕ = trailing_zeros w128 bits in
    let found = bit_at-trailing_zeros w128 bits (omega arith) fits in
    filter_first (has_bit bits) (has_bit (bit_and bits (bit_not w128 (1 * 2 ^ t % 2 ^ MAX_GAPS)))) 0 MAX_GAPS t (omega arith) found.0
    (λ q h. let none : bit_at bits q ≡ 0 = found.2 q h in rw none refl)
    (let one : bit_at bits t ≡ 1 = found.1 in rw one refl)
    (let none : bit_at (bit_and bits (bit_not w128 (1 * 2 ^ t % 2 ^ MAX_GAPS))) t ≡ 0 = bit_at_clear_same w128 bits t found.0 in rw none refl)
    (λ q h d. ap (λ b. b == 1) (sym (bit_at_clear_other w128 bits t found.0 q h d)))

-- the first number after one is taken or left
first_of_two : (t : Bool) (a : ℕ) (xs : List ℕ) → (0 < length xs → a + 1 ≤ get_or xs 0 0) → 0 < length (cond t (a ∷ xs) xs) → a ≤ get_or (cond t (a ∷ xs) xs) 0 0
first_of_two true a xs low l = omega arith
first_of_two false a xs low l = let more = low l in omega arith

-- the first of the numbers from a on that pass is no less than a, and each is below the next
low_first : (p : ℕ → Bool) (a n : ℕ) → 0 < length (filter p (range_with_len a n)) → a ≤ get_or (filter p (range_with_len a n)) 0 0
low_first p a zero h = absurd (omega arith)
low_first p a (suc n) h = first_of_two (p a) a _ (low_first p (a + 1) n) h

-- the list still rises after one number is taken or left
rises_on : (t : Bool) (a j : ℕ) (xs : List ℕ) → (0 < length xs → a + 1 ≤ get_or xs 0 0) → ((k : ℕ) → suc k < length xs → get_or xs k 0 < get_or xs (suc k) 0) → suc j < length (cond t (a ∷ xs) xs) → get_or (cond t (a ∷ xs) xs) j 0 < get_or (cond t (a ∷ xs) xs) (suc j) 0
rises_on true a zero xs low rest l = let more = low (omega arith) in omega arith
rises_on true a (suc j) xs low rest l = rest j (omega arith)
rises_on false a j xs low rest l = rest j l

-- the numbers that pass rise
rises : (p : ℕ → Bool) (a n k : ℕ) → suc k < length (filter p (range_with_len a n)) → get_or (filter p (range_with_len a n)) k 0 < get_or (filter p (range_with_len a n)) (suc k) 0
rises p a zero k h = absurd (omega arith)
rises p a (suc n) k h = rises_on (p a) a k _ (low_first p (a + 1) n) (rises p (a + 1) n) h

-- the bits of a word rise
pub list_of-rises : (bits : ℕ) → IsStrictlyIncreasing (list_of bits)
unfolding list_of
list_of-rises bits k h =
    let one : k + 1 ≡ suc k = omega arith in
    rw one (rises (has_bit bits) 0 MAX_GAPS k (omega arith))

-- they are the gaps of the word's set
pub list_of-gaps_in : (bits : ℕ) (s : SetOfGaps) → gaps_of_bits bits ≡ s → bits < 2 ^ MAX_GAPS → list_of bits ≡ numbers_of_set s
unfolding list_of numbers_of_set
list_of-gaps_in bits s is h = filter_alike (has_bit bits) (set.contains s) 0 MAX_GAPS (λ q _ _. sym (contains-word bits q s is h))
