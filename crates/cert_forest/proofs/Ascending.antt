-- Sets of numbers, and their numbers in order.
use Rattle.cert_forest.proofs.Vocabulary.{◌≡◌, ℕ, zero, suc, ◌+◌, ◌<◌, ◌≤◌, Bool, true, false, cond, List, [], ◌∷◌, ◌++◌, refl, sym, ap, ◌∙◌, append_assoc, arith, inl, inr, nat_eq, filter, range_with_len, list_any, cases_lt, nat_tests, append-nil, MAX_GAPS}
use Rattle.cert_forest.proofs.Vocabulary.{SetOfGaps, numbers_of_set}
use Rattle.std.specs.FinSet as set
use Rattle.std.specs.FinSet.{contains-from_list_nat}
use Rattle.std.specs.Cmp.{nat_cmp_total}

-- numbers from the least on, below the limit, each greater than the one before
abbrev pub Ascend : ℕ → ℕ → List ℕ → Type 0
Ascend limit least [] = Unit {0}
Ascend limit least (n ∷ ns) = (least ≤ n) × (n < limit) × Ascend limit (n + 1) ns

-- each number of the set is below the limit
abbrev pub IsBelow : ℕ → SetOfGaps → Type 0
IsBelow limit s = (n : ℕ) → set.contains s n ≡ true → n < limit

abbrev is_in : List ℕ → ℕ → Bool
is_in ns q = list_any (λ y. nat_eq y q) ns

differs : (n q : ℕ) → q < n → nat_eq n q ≡ false
differs n q lt = grind (arith, nat_tests)

exceeds : (n q : ℕ) → n < q → nat_eq n q ≡ false
exceeds n q lt = grind (arith, nat_tests)

itself : (n : ℕ) → nat_eq n n ≡ true
itself n = grind (arith, nat_tests)

-- what is below the least is not there, and neither is what is past the limit
none_below : (limit least q : ℕ) (ns : List ℕ) → q < least → Ascend limit least ns → is_in ns q ≡ false
none_below limit least q [] lt up = refl
none_below limit least q (n ∷ ns) lt up = rw (differs n q (omega (arith, up.0)), none_below limit (n + 1) q ns (omega (arith, up.0)) up.2) refl

none_past : (limit least q : ℕ) (ns : List ℕ) → limit ≤ q → Ascend limit least ns → is_in ns q ≡ false
none_past limit least q [] le up = refl
none_past limit least q (n ∷ ns) le up = rw (exceeds n q (omega (arith, up.1)), none_past limit (n + 1) q ns le up.2) refl

-- the numbers from a on that a test picks, which are those of the list
picks : (limit : ℕ) (p : ℕ → Bool) (a n : ℕ) (ns : List ℕ) → limit ≤ a + n → Ascend limit a ns → ((q : ℕ) → a ≤ q → p q ≡ is_in ns q) → filter p (range_with_len a n) ≡ ns
picks limit p a zero [] le up same = refl
picks limit p a zero (m ∷ ns) le up same = absurd (omega (arith, up.0, up.1))
picks limit p a (suc n) [] le up same =
    let no : p a ≡ false = same a (omega arith) in
    rw no (picks limit p (a + 1) n [] (omega arith) tt (λ q le. same q (omega arith)))
picks limit p a (suc n) (m ∷ ns) le up same =
    elim (cases_lt a m) [
      | inl lt ↦
          let up-here : Ascend limit (a + 1) (m ∷ ns) = (omega arith, up.1, up.2) in
          let no : p a ≡ false = same a (omega arith) ∙ none_below limit (a + 1) a (m ∷ ns) (omega arith) up-here in
          rw no (picks limit p (a + 1) n (m ∷ ns) (omega arith) up-here (λ q le. same q (omega arith)))
      | inr ge ↦
          let is : a ≡ m = omega (arith, up.0) in
          let yes : p a ≡ true = same a (omega arith) ∙ rw (is, itself m) refl in
          let up-here : Ascend limit (a + 1) ns = rw is up.2 in
          let others : filter p (range_with_len (a + 1) n) ≡ ns = picks limit p (a + 1) n ns (omega arith) up-here (λ q le. same q (omega arith) ∙ rw (exceeds m q (omega arith)) refl) in
          rw yes (λ i. is i ∷ others i)
    ]

-- ascending numbers are those of their set
pub numbers_back : (limit : ℕ) (ns : List ℕ) → limit ≤ MAX_GAPS → Ascend limit 0 ns → numbers_of_set (set.from_list ns) ≡ ns
unfolding numbers_of_set
numbers_back limit ns le up = picks limit (set.contains (set.from_list ns)) 0 MAX_GAPS ns (omega arith) up (λ q _. contains-from_list_nat ns q)

pub ascending_are_below : (limit : ℕ) (ns : List ℕ) → Ascend limit 0 ns → IsBelow limit (set.from_list ns)
ascending_are_below limit ns up q there =
    elim (cases_lt q limit) [ inl lt ↦ lt | inr ge ↦ let bad = sym there ∙ contains-from_list_nat ns q ∙ none_past limit 0 q ns (omega arith) up in absurd cc ]

-- ---- the numbers of a set

sooner : (limit a b : ℕ) (ns : List ℕ) → a ≤ b → Ascend limit b ns → Ascend limit a ns
sooner limit a b [] h up = tt
sooner limit a b (n ∷ ns) h up = ((let low : b ≤ n = up.0 in omega arith), up.1, up.2)

taken_or_left : (limit a : ℕ) (rest : List ℕ) (b : Bool) → (b ≡ true → a < limit) → Ascend limit (a + 1) rest → Ascend limit a (cond b (a ∷ rest) rest)
taken_or_left limit a rest true low up = (omega arith, low refl, up)
taken_or_left limit a rest false low up = sooner limit a (a + 1) rest (omega arith) up

picked_ascend : (limit : ℕ) (p : ℕ → Bool) → ((n : ℕ) → p n ≡ true → n < limit) → (a n : ℕ) → Ascend limit a (filter p (range_with_len a n))
picked_ascend limit p low a zero = tt
picked_ascend limit p low a (suc n) = taken_or_left limit a (filter p (range_with_len (a + 1) n)) (p a) (low a) (picked_ascend limit p low (a + 1) n)

pub numbers_ascend : (limit : ℕ) (s : SetOfGaps) → IsBelow limit s → Ascend limit 0 (numbers_of_set s)
unfolding numbers_of_set
numbers_ascend limit s low = picked_ascend limit (set.contains s) low 0 MAX_GAPS

passed_by : (b : Bool) (a q : ℕ) (ns : List ℕ) → nat_eq a q ≡ false → is_in (cond b (a ∷ ns) ns) q ≡ is_in ns q
passed_by true a q ns apart = rw apart refl
passed_by false a q ns apart = refl

taken : (b : Bool) (a : ℕ) (ns : List ℕ) → is_in ns a ≡ false → is_in (cond b (a ∷ ns) ns) a ≡ b
taken true a ns none = rw (itself a) refl
taken false a ns none = none

-- a number that the test picks is there, no other is
picked : (limit : ℕ) (p : ℕ → Bool) → ((n : ℕ) → p n ≡ true → n < limit) → (a n q : ℕ) → a ≤ q → q < a + n → is_in (filter p (range_with_len a n)) q ≡ p q
picked limit p low a zero q le lt = absurd (omega arith)
picked limit p low a (suc n) q le lt =
    elim (cases_lt a q) [
      | inl more ↦ passed_by (p a) a q (filter p (range_with_len (a + 1) n)) (exceeds a q more) ∙ picked limit p low (a + 1) n q (omega arith) (omega arith)
      | inr same ↦
          let here : a ≡ q = omega arith in
          let none : is_in (filter p (range_with_len (a + 1) n)) a ≡ false = none_below limit (a + 1) a (filter p (range_with_len (a + 1) n)) (omega arith) (picked_ascend limit p low (a + 1) n) in
          ap (is_in (cond (p a) (a ∷ filter p (range_with_len (a + 1) n)) (filter p (range_with_len (a + 1) n)))) (sym here) ∙ taken (p a) a (filter p (range_with_len (a + 1) n)) none ∙ ap p here
    ]

not_past : (limit q : ℕ) (b : Bool) → (b ≡ true → q < limit) → limit ≤ q → false ≡ b
not_past limit q true low le = let lt = low refl in absurd (omega arith)
not_past limit q false low le = refl

-- a set is that of its numbers
pub set_back : (limit : ℕ) (s : SetOfGaps) → limit ≤ MAX_GAPS → IsBelow limit s → set.from_list (numbers_of_set s) ≡ s
unfolding numbers_of_set
set_back limit s le low = set.same_set nat_cmp_total set.nat_cmp-IsAntisymmetric (set.from_list (filter (set.contains s) (range_with_len 0 MAX_GAPS))) s (λ q.
    contains-from_list_nat (filter (set.contains s) (range_with_len 0 MAX_GAPS)) q
    ∙ elim (cases_lt q MAX_GAPS) [
      | inl lt ↦ picked limit (set.contains s) low 0 MAX_GAPS q (omega arith) lt
      | inr ge ↦ none_past limit 0 q (filter (set.contains s) (range_with_len 0 MAX_GAPS)) (omega arith) (picked_ascend limit (set.contains s) low 0 MAX_GAPS) ∙ not_past limit q (set.contains s q) (low q) (omega arith)
    ])

-- ---- numbers that are put into a set one after the other

abbrev pub with_all : SetOfGaps → List ℕ → SetOfGaps
with_all s [] = s
with_all s (n ∷ ns) = with_all (set.insert s n) ns

after_those : (done ns : List ℕ) → with_all (set.from_list done) ns ≡ set.from_list (done ++ ns)
after_those done [] = ap set.from_list (sym (append-nil done))
after_those done (n ∷ ns) =
    ap (λ (s : SetOfGaps). with_all s ns) (sym (set.from_list_push nat_cmp_total set.nat_cmp-IsAntisymmetric done n))
    ∙ after_those (done ++ n ∷ []) ns
    ∙ ap set.from_list (append_assoc done (n ∷ []) ns)

pub all_from_none : (ns : List ℕ) → with_all set.empty ns ≡ set.from_list ns
all_from_none ns = after_those [] ns
