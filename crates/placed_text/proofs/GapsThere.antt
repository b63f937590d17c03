-- Gaps that a program has are all there.
use Rattle.placed_text.proofs.Vocabulary.{◌≡◌, ◌<◌, ℕ, Bool, true, false, List, [], ◌∷◌, None, find, nat_le, arith, refl, filter, range_with_len, nat_tests, Listing, SetOfGaps, gap_count, numbers_of_set, first_missing, MAX_GAPS}
use Rattle.std.specs.FinSet as set
use Rattle.tso_machine.specs.Outcomes.{AreGapsOf}

not_above : (n gap : ℕ) → gap < n → nat_le n gap ≡ false
not_above n gap below = grind (arith, nat_tests)

none_next : (p q : ℕ → Bool) (x : ℕ) (xs : List ℕ) → find p (filter q xs) ≡ None → (q x ≡ true → p x ≡ false) → (b : Bool) → q x ≡ b → find p (filter q (x ∷ xs)) ≡ None
none_next p q x xs rest fails true e = rw (e, fails e) rest
none_next p q x xs rest fails false e = rw e rest

-- where what one test keeps fails the other, nothing is found
none_found : (p q : ℕ → Bool) (xs : List ℕ) → ((x : ℕ) → q x ≡ true → p x ≡ false) → find p (filter q xs) ≡ None
none_found p q [] fails = refl
none_found p q (x ∷ xs) fails = none_next p q x xs (none_found p q xs fails) (fails x) (q x) refl

-- so none of them is missing
pub none_missing : (p : Listing) (gaps : SetOfGaps) → AreGapsOf p gaps → first_missing p gaps ≡ None
unfolding numbers_of_set
none_missing p gaps there = none_found (λ gap. nat_le (gap_count p.threads) gap) (set.contains gaps) (range_with_len 0 MAX_GAPS) (λ gap has. not_above (gap_count p.threads) gap (there gap has))
