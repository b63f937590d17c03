-- Sets of a program's gaps.
use Rattle.cert_check.proofs.Vocabulary.{◌≡◌, ℕ, ◌<◌, true, nat_lt, sym, ◌∙◌, ltb-true, lt-ltb, nat_cmp_total, SetOfGaps}
use Rattle.std.specs.FinSet as set

module _ (gaps every : SetOfGaps) (n : ℕ) (is_every : (gap : ℕ) → set.contains every gap ≡ nat_lt gap n) where
  pub all_within : set.is_subset gaps every ≡ true → (gap : ℕ) → set.contains gaps gap ≡ true → gap < n
  all_within e gap h = ltb-true gap n (sym (is_every gap) ∙ set.is_subset-contains nat_cmp_total gaps every e gap h)

  pub within_all : ((gap : ℕ) → set.contains gaps gap ≡ true → gap < n) → set.is_subset gaps every ≡ true
  within_all within = set.contains-is_subset nat_cmp_total gaps every (λ gap h. is_every gap ∙ lt-ltb gap n (within gap h))
