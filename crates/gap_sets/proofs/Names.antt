-- When names are those of ties.
use Rattle.gap_sets.proofs.Vocabulary.{◌≡◌, ℕ, ◌+◌, ◌<◌, ◌≤◌, ◌⊎◌, inl, inr, List, Some, length, get_or, min, ap, arith, sym, ◌∙◌, true, false, cases_lt, MAX_GAPS, SetOfGaps}
use Rattle.std.proofs.Common.{slice_get, subst}
use Rattle.std.proofs.lemmas.Option.{get_or_from_slice_get, slice_get_within}
use Rattle.gap_sets.specs.Ties.{AreTies}

-- the name is no greater than the gap, and its own
abbrev pub IsNameIn : List ℕ → ℕ → ℕ → Type 0
IsNameIn names gap name = (name ≤ gap) × (slice_get names name ≡ Some name)

-- with the names before a gap and its own, those up to it are names
pub one_more_name : (names : List ℕ) (at : ℕ) → ((gap name : ℕ) → gap < at → slice_get names gap ≡ Some name → IsNameIn names gap name) → IsNameIn names at (get_or names at 0)
    → (gap name : ℕ) → gap < at + 1 → slice_get names gap ≡ Some name → IsNameIn names gap name
one_more_name names at before own gap name below there = by_place (cases_lt gap at)
  where
    here : gap ≡ at → name ≡ get_or names at 0
    here is = sym (get_or_from_slice_get names gap name 0 there) ∙ ap (λ g. get_or names g 0) is

    by_place : (gap < at) ⊎ (at ≤ gap) → IsNameIn names gap name
    by_place (inl less) = before gap name less there
    by_place (inr not_less) =
        let is : gap ≡ at = omega (arith, below, not_less) in
        subst (λ g. IsNameIn names g name) (sym is) (subst (IsNameIn names at) (sym (here is)) own)

-- names that are each found are those of ties
pub are_ties : (names : List ℕ) (end : ℕ) → length names ≤ MAX_GAPS → length names ≤ end → ((gap name : ℕ) → gap < end → slice_get names gap ≡ Some name → IsNameIn names gap name) → AreTies names
are_ties names end few all each = record {
  few = few;
  least = λ gap name there. each gap name (let within = slice_get_within names gap name there in omega (arith, within, all)) there;
}
