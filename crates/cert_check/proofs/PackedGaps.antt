-- The cheapest gap of a set, and the gaps of one run more.
use Rattle.cert_check.proofs.Vocabulary.{◌≡◌, ◌↔◌, ◌⊎◌, ℕ, Bool, true, false, ◌||◌, List, [], ◌∷◌, Some, None, Contains, refl, sym, ap, ◌∙◌, subst, inl, inr, nat_cmp_total, SetOfGaps, IsGapSet, numbers_of_set, listed, unlisted}
use Rattle.std.specs.FinSet as set
use Rattle.std.specs.Prelude.{Option, MatchOption}
use Rattle.tree_laws.specs.Packings.{IsCheapestOf}
use Rattle.tree_laws.proofs.Lists.{none_here, first_or_later, first_is_here, later_is_here}
use Rattle.tree_laws.proofs.CheapestGaps.{first_alone, or_first, or_later}
use Rattle.cert_check.specs.declared.packing.Packing.{Packing}
use Rattle.cert_check.specs.Internal.Packed.{IsCheaperOf, IsPackedWith}

-- ---- the cheapest gap

module _ (costs all : List ℕ) where
  -- the best of the gaps that are not left, if there are any
  abbrev pub IsBestSoFar : Option ℕ → List ℕ → Type 0
  IsBestSoFar None left = all ≡ left
  IsBestSoFar (Some best) left = (seen : List ℕ) × ((g : ℕ) → Contains all g ↔ (Contains seen g ⊎ Contains left g)) × IsCheapestOf costs seen best

  pub one_seen : (best : Option ℕ) (left rest : List ℕ) (gap new : ℕ) → left ≡ gap ∷ rest → IsBestSoFar best left → IsCheaperOf costs best gap new → IsBestSoFar (Some new) rest
  one_seen None left rest gap new next so is = (
    gap ∷ [],
    (λ g. (
      (λ here. elim (first_or_later gap rest g (subst (λ (gs : List ℕ). Contains gs g) (so ∙ next) here)) [
        | inl e ↦ inl (subst (Contains (gap ∷ [])) e (first_is_here gap []))
        | inr later ↦ inr later
      ]),
      (λ either. subst (λ (gs : List ℕ). Contains gs g) (sym (so ∙ next)) (elim either [
        | inl one ↦ elim (first_or_later gap [] g one) [ inl e ↦ subst (Contains (gap ∷ rest)) e (first_is_here gap rest) | inr later ↦ absurd (none_here g later) ]
        | inr later ↦ later_is_here gap rest g later
      ])),
    )),
    subst (IsCheapestOf costs (gap ∷ [])) (sym is) (first_alone costs gap),
  )
  one_seen (Some best) left rest gap new next (seen, are, cheapest) is = (
    gap ∷ seen,
    (λ g. (
      (λ here. elim ((are g).0 here) [
        | inl old ↦ inl (later_is_here gap seen g old)
        | inr later ↦ elim (first_or_later gap rest g (subst (λ (gs : List ℕ). Contains gs g) next later)) [
          | inl e ↦ inl (subst (Contains (gap ∷ seen)) e (first_is_here gap seen))
          | inr there ↦ inr there
        ]
      ]),
      (λ either. (are g).1 (elim either [
        | inl one ↦ elim (first_or_later gap seen g one) [
          | inl e ↦ inr (subst (λ (gs : List ℕ). Contains gs g) (sym next) (subst (Contains (gap ∷ rest)) e (first_is_here gap rest)))
          | inr old ↦ inl old
        ]
        | inr later ↦ inr (subst (λ (gs : List ℕ). Contains gs g) (sym next) (later_is_here gap rest g later))
      ])),
    )),
    elim is [
      | inl old ↦ subst (IsCheapestOf costs (gap ∷ seen)) (sym old.0) (or_later costs gap best seen cheapest old.1)
      | inr now ↦ subst (IsCheapestOf costs (gap ∷ seen)) (sym now.0) (or_first costs gap best seen cheapest now.1)
    ],
  )

  -- no gap is left
  pub all_seen : (best : Option ℕ) (left : List ℕ) → left ≡ [] → IsBestSoFar best left → MatchOption best (all ≡ []) (IsCheapestOf costs all)
  all_seen None left none so = so ∙ none
  all_seen (Some best) left none (seen, are, cheapest) = record {
    is_one = (are best).1 (inl cheapest.is_one);
    none_cheaper = λ g here. cheapest.none_cheaper g (seen_too g here);
    first = λ g here. cheapest.first g (seen_too g here);
  }
    where
      seen_too : (g : ℕ) → Contains all g → Contains seen g
      seen_too g here = elim ((are g).0 here) [ inl old ↦ old | inr later ↦ absurd (none_here g (subst (λ (gs : List ℕ). Contains gs g) none later)) ]

-- ---- one run more

or_parts : (a b : Bool) → (a || b) ≡ true → (a ≡ true) ⊎ (b ≡ true)
or_parts true b e = inl refl
or_parts false b e = inr e

or_first_true : (a b : Bool) → a ≡ true → (a || b) ≡ true
or_first_true a b e = rw e refl

or_second_true : (a b : Bool) → b ≡ true → (a || b) ≡ true
or_second_true true b e = refl
or_second_true false b e = e

module _ (costs : List ℕ) (packing new : Packing) (gaps : SetOfGaps) (small : IsGapSet gaps)
    (is : new.gaps ≡ set.union packing.gaps gaps) where
  both : (g : ℕ) → set.contains new.gaps g ≡ (set.contains packing.gaps g || set.contains gaps g)
  both g = ap (λ (s : SetOfGaps). set.contains s g) is ∙ set.contains-union nat_cmp_total packing.gaps gaps g

  in_both : (g : ℕ) → (set.contains new.gaps g ≡ true) ↔ ((set.contains packing.gaps g ≡ true) ⊎ Contains (numbers_of_set gaps) g)
  in_both g = (
    (λ there. elim (or_parts (set.contains packing.gaps g) (set.contains gaps g) (sym (both g) ∙ there)) [ inl old ↦ inl old | inr now ↦ inr (listed gaps g (small g now) now) ]),
    (λ either. both g ∙ elim either [
      | inl old ↦ or_first_true (set.contains packing.gaps g) (set.contains gaps g) old
      | inr now ↦ or_second_true (set.contains packing.gaps g) (set.contains gaps g) (unlisted gaps g now)
    ]),
  )

  -- with its cheapest gap
  pub packed_by : (gap : ℕ) → IsCheapestOf costs (numbers_of_set gaps) gap → new.least ≡ set.insert packing.least gap → new.has_none ≡ packing.has_none → IsPackedWith costs packing (numbers_of_set gaps) new
  packed_by gap cheapest least same = record {
    packed = in_both;
    cheapest = λ some. (sym same ∙ some, (gap, cheapest, least));
    none = λ none. inl (sym same ∙ none);
  }

  -- it has none
  pub packed_none : numbers_of_set gaps ≡ [] → new.has_none ≡ true → IsPackedWith costs packing (numbers_of_set gaps) new
  packed_none empty none = record {
    packed = in_both;
    cheapest = λ some. absurd (let no : true ≡ false = sym none ∙ some in cc);
    none = λ h. inr empty;
  }
