-- Ties one after the other.
use Rattle.documents.proofs.Vocabulary.{◌≡◌, ◌∙◌, ℕ, ◌+◌, ◌<◌, List, [], ◌∷◌, ◌++◌, ap, arith, map, map-append, refl, codes, range_with_len, gaps_array, member}
use Rattle.std.proofs.Common.{Bool, append-nil, cond, false, nat_lt, true, ◌≤◌}
use Rattle.std.proofs.lemmas.Bool.Decides.{nat_tests}
use Rattle.std.proofs.lemmas.List.FromFn.{filter_of_map_range_with_len_more}
use Rattle.std.specs.List.{filter}
use Rattle.std.specs.FinSet as set
use Rattle.gap_sets.specs.{Gaps.SetOfGaps, Ties.spread}
use Rattle.tso_program.specs.declared.listing.Thread.{Thread}
use Rattle.documents.specs.Parts.{ties_array, tie_members}

module _ (threads : List Thread) (ties : List ℕ) where
  abbrev pub tie_of : ℕ → SetOfGaps
  tie_of name = spread ties (set.insert set.empty name)

  abbrev pub several : SetOfGaps → Bool
  several tie = nat_lt 1 (set.len tie)

  -- those of the ties of the first names that have several gaps
  abbrev pub told_ties : ℕ → List (List ℕ)
  told_ties count = map (gaps_array threads) (filter several (map tie_of (range_with_len 0 count)))

  told_more : (count : ℕ) → told_ties (count + 1) ≡ told_ties count ++ map (gaps_array threads) (cond (several (tie_of count)) (tie_of count ∷ []) [])
  told_more count =
      ap (map (gaps_array threads)) (filter_of_map_range_with_len_more several tie_of 0 count count (omega arith))
      ∙ map-append (gaps_array threads) (filter several (map tie_of (range_with_len 0 count))) (cond (several (tie_of count)) (tie_of count ∷ []) [])

  -- one that has several gaps
  pub one_told : (count : ℕ) → 1 < set.len (tie_of count) → told_ties (count + 1) ≡ told_ties count ++ gaps_array threads (tie_of count) ∷ []
  one_told count some =
      let is : several (tie_of count) ≡ true = grind (arith, nat_tests) in
      told_more count ∙ ap (λ (b : Bool). told_ties count ++ map (gaps_array threads) (cond b (tie_of count ∷ []) [])) is

  -- one that has no more than one
  pub none_told : (count : ℕ) → set.len (tie_of count) ≤ 1 → told_ties (count + 1) ≡ told_ties count
  none_told count one =
      let is : several (tie_of count) ≡ false = grind (arith, nat_tests) in
      told_more count ∙ ap (λ (b : Bool). told_ties count ++ map (gaps_array threads) (cond b (tie_of count ∷ []) [])) is ∙ append-nil (told_ties count)

-- where gaps go together, that is said
pub some_tied : (threads : List Thread) (ties : List ℕ) → (ties ≡ [] → ⊥) → tie_members threads ties ≡ member (codes "ties") (ties_array threads ties) ∷ []
some_tied threads [] some = absurd (some refl)
some_tied threads (name ∷ ties) some = refl

-- where none do nothing is
pub none_tied : (threads : List Thread) (ties : List ℕ) → ties ≡ [] → tie_members threads ties ≡ []
none_tied threads [] none = refl
none_tied threads (name ∷ ties) none = cc
