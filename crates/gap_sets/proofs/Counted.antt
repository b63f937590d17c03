-- How many members a word's set has.
use Rattle.gap_sets.proofs.Vocabulary.{◌≡◌, ℕ, zero, suc, ◌+◌, ◌/◌, ◌^◌, ◌<◌, ◌==◌, Bool, true, false, List, ◌∷◌, cond, length, refl, sym, ap, ◌∙◌, arith, count_ones, bit_at-suc, bit_at-lt, bit_at_lowest, filter, range_with_len, bit_at, nat_cmp, nat_cmp_total}
use Rattle.gap_sets.proofs.Vocabulary.{has_bit, list_of, gaps_of_bits, MAX_GAPS, any-below}
use Rattle.std.specs.FinSet as set
use native.Mathlib.Numerals.{unary_clauses}
use lib.Count.{ones_step}

-- a number that is not there yet makes the set larger by one
one_more : (t : Bool) (a : ℕ) (rest : List ℕ) → set.contains (set.from_list {R = nat_cmp} rest) a ≡ false → set.len (set.from_list {R = nat_cmp} rest) ≡ length rest → set.len (set.from_list {R = nat_cmp} (cond t (a ∷ rest) rest)) ≡ length (cond t (a ∷ rest) rest)
one_more true a rest absent len = set.len-insert nat_cmp_total (set.from_list rest) a ∙ rw absent (omega arith)
one_more false a rest absent len = len

-- the numbers that pass are as many as their set
pub len-from_list : (p : ℕ → Bool) (a n : ℕ) → set.len (set.from_list {R = nat_cmp} (filter p (range_with_len a n))) ≡ length (filter p (range_with_len a n))
len-from_list p a zero = set.len-empty nat_cmp
len-from_list p a (suc n) = one_more (p a) a _ (set.contains-from_list_nat _ a ∙ any-below p (a + 1) n a (omega arith)) (len-from_list p (a + 1) n)

-- the length after one number is taken or left
length-cond : (t : Bool) (a : ℕ) (xs : List ℕ) → length (cond t (a ∷ xs) xs) ≡ cond t 1 0 + length xs
length-cond true a xs = omega arith
length-cond false a xs = omega arith

-- the bits from a + 1 on are those of the half from a on
shifted : (n a k : ℕ) → length (filter (has_bit n) (range_with_len (a + 1) k)) ≡ length (filter (has_bit (n / 2)) (range_with_len a k))
shifted n a zero = refl
shifted n a (suc k) =
    let one : a + 1 ≡ suc a = omega arith in
    let alike : has_bit n (a + 1) ≡ has_bit (n / 2) a = rw one (ap (λ b. b == 1) (bit_at-suc n a)) in
    length-cond (has_bit n (a + 1)) _ _ ∙ (λ i. cond (alike i) 1 0 + shifted n (a + 1) k i) ∙ sym (length-cond (has_bit (n / 2) a) _ _)

-- a bit is 1 or 0
bit_value : (b : ℕ) → b < 2 → b ≡ cond (b == 1) 1 0
bit_value (suc (suc b)) h = absurd (omega arith)
bit_value b h = refl

-- half of a word has one bit less
halved : (k n : ℕ) → n < 2 ^ suc k → n / 2 < 2 ^ k
halved k n h = let h' = simp unary_clauses at h in omega arith

-- as many bits are 1 as numbers are listed
ones-members : (k n : ℕ) → n < 2 ^ k → count_ones n ≡ length (filter (has_bit n) (range_with_len 0 k))
unfolding count_ones
ones-members zero n h = let none : n ≡ 0 = omega arith in rw none refl
ones-members (suc k) n h =
    ones_step n
    ∙ (λ i. (sym (bit_at_lowest n) ∙ bit_value (bit_at n 0) (bit_at-lt n 0)) i + (ones-members k (n / 2) (halved k n h) ∙ sym (shifted n 0 k)) i)
    ∙ sym (length-cond (has_bit n 0) _ _)

-- as many bits are 1 as gaps are in the set
pub len-gaps_of : (bits : ℕ) → bits < 2 ^ MAX_GAPS → count_ones bits ≡ set.len (gaps_of_bits bits)
unfolding gaps_of_bits list_of
len-gaps_of bits h = ones-members MAX_GAPS bits h ∙ sym (len-from_list (has_bit bits) 0 MAX_GAPS)
