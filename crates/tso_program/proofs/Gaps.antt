-- Gaps and their numbers.
use Rattle.tso_program.proofs.Vocabulary.{◌≡◌, ℕ, zero, suc, ◌+◌, ◌-◌, ◌<◌, ◌≤◌, Bool, true, false, ◌&&◌, List, [], ◌∷◌, length, take, Some, None, refl, sym, ap, ◌∙◌, arith, inl, inr, leb-true, ltb-true, nat_lt, nat_le, if◌then◌else◌, nat_cmp, nat_cmp_total}
use Rattle.tso_program.proofs.Vocabulary.{cases_lt, nat_tests, Thread, sum_by-cons, code_of, gap_count, gap_number, gaps_of_thread}
use Rattle.std.specs.FinSet as set

-- the gaps of a thread that may not be there
abbrev gaps_at : List Thread → ℕ → ℕ
gaps_at threads t = length (code_of threads t) - 1

pub count_first : (x : Thread) (xs : List Thread) → gap_count (x ∷ xs) ≡ (length x.code - 1) + gap_count xs
count_first x xs = sum_by-cons gaps_of_thread x xs

count_before : (threads : List Thread) (t u : ℕ) → t < u → gap_count (take t threads) + gaps_at threads t ≤ gap_count (take u threads)
count_before [] zero zero h = omega arith
count_before [] zero (suc u) h = omega arith
count_before [] (suc t) zero h = omega arith
count_before [] (suc t) (suc u) h = omega arith
count_before (x ∷ xs) t zero h = absurd (omega arith)
count_before (x ∷ xs) zero (suc u) h = omega (arith, count_first x (take u xs))
count_before (x ∷ xs) (suc t) (suc u) h = omega (arith, count_before xs t u (omega arith), count_first x (take t xs), count_first x (take u xs))

count_within : (threads : List Thread) (t : ℕ) → gap_count (take t threads) + gaps_at threads t ≤ gap_count threads
count_within [] zero = omega arith
count_within [] (suc t) = omega arith
count_within (x ∷ xs) zero = omega (arith, count_first x xs)
count_within (x ∷ xs) (suc t) = omega (arith, count_within xs t, count_first x xs, count_first x (take t xs))

pub record IsGap (threads : List Thread) (t k gap : ℕ) : Type 0 where
  pub low : 1 ≤ k
  pub high : k < length (code_of threads t)
  pub number : gap ≡ gap_count (take t threads) + (k - 1)

of_test : (a b : Bool) (n gap : ℕ) → (if a && b then Some n else None) ≡ Some gap → (a ≡ true) × (b ≡ true) × (n ≡ gap)
of_test true true n gap e = (refl, refl, (let q : n ≡ gap = cc in q))
of_test a b n gap e = absurd cc

pub gap_facts : (threads : List Thread) (t k gap : ℕ) → gap_number threads t k ≡ Some gap → IsGap threads t k gap
gap_facts threads t k gap e =
    let f = of_test (nat_le 1 k) (nat_lt k (length (code_of threads t))) (gap_count (take t threads) + (k - 1)) gap e in
    record { low = leb-true 1 k f.0; high = ltb-true k (length (code_of threads t)) f.1; number = sym f.2 }

-- a gap's number is below the number of gaps
pub gap_below : (threads : List Thread) (t k gap : ℕ) → gap_number threads t k ≡ Some gap → gap < gap_count threads
gap_below threads t k gap e =
    let f = gap_facts threads t k gap e in
    omega (arith, count_within threads t)

pub number_below : (threads : List Thread) (t k : ℕ) → 1 ≤ k → k < length (code_of threads t) → gap_count (take t threads) + (k - 1) < gap_count threads
number_below threads t k low high = omega (arith, count_within threads t)

-- one number, one gap
pub gap_same : (threads : List Thread) (t k u j gap : ℕ) → gap_number threads t k ≡ Some gap → gap_number threads u j ≡ Some gap → (t ≡ u) × (k ≡ j)
gap_same threads t k u j gap e f =
    let a = gap_facts threads t k gap e in
    let b = gap_facts threads u j gap f in
    elim (cases_lt t u) [
      | inl h ↦ absurd (omega (arith, count_before threads t u h))
      | inr h ↦
          elim (cases_lt u t) [
            | inl g ↦ absurd (omega (arith, count_before threads u t g))
            | inr g ↦
                let same : t ≡ u = omega arith in
                let counts : gap_count (take t threads) ≡ gap_count (take u threads) = ap (λ n. gap_count (take n threads)) same in
                (same, omega arith)
          ]
    ]

-- a gap's number where it is a place of the program
pub gap_is : (threads : List Thread) (t k gap : ℕ) → 1 ≤ k → k < length (code_of threads t) → gap ≡ gap_count (take t threads) + (k - 1) → gap_number threads t k ≡ Some gap
gap_is threads t k gap low high number =
    let a : nat_le 1 k ≡ true = grind (arith, nat_tests) in
    let b : nat_lt k (length (code_of threads t)) ≡ true = grind (arith, nat_tests) in
    rw (a, b) (ap Some (sym number))

-- the set of the gaps below a number, and one more

pub none_below : (gap : ℕ) (s : set.FinSet nat_cmp) → s ≡ set.empty → set.contains s gap ≡ nat_lt gap 0
none_below gap s is = ap (λ (t : set.FinSet nat_cmp). set.contains t gap) is ∙ set.contains-empty nat_cmp gap ∙ (let no : false ≡ nat_lt gap 0 = grind (arith, nat_tests) in no)

pub one_more : (gaps more : set.FinSet nat_cmp) (n : ℕ) → ((gap : ℕ) → set.contains gaps gap ≡ nat_lt gap n) → more ≡ set.insert gaps n → (gap : ℕ) → set.contains more gap ≡ nat_lt gap (n + 1)
one_more gaps more n so_far is gap =
    ap (λ (t : set.FinSet nat_cmp). set.contains t gap) is
    ∙ set.contains-insert nat_cmp_total gaps n gap
    ∙ rw (so_far gap) (grind (arith, nat_tests))
