-- The children of a region: a set of the region is in the child for the first of the gaps that it has.
use Rattle.tree_laws.proofs.Vocabulary.{◌≡◌, ◌⊎◌, ℕ, true, false, [], ◌∷◌, sym, ◌∙◌, subst, inl, inr, nat_cmp, nat_cmp_total, SetOfGaps, all_sets, with_gap, without_gap, IsInRegion, child_regions, Region}
use Rattle.tree_laws.proofs.Vocabulary.{ASplitLosesNoSet}
use Rattle.std.specs.FinSet as set
use Rattle.tree_laws.proofs.Lists.{none_here, first_is_here, later_is_here, each_more}
pub use Rattle.std.proofs.lemmas.Bool.{cases_Bool as true_or_false}
use Rattle.tso_program.proofs.Places.{tied}

-- a gap of a set with one more is that one or one of the others
pub new_or_old : (s : SetOfGaps) (gap q : ℕ) → set.contains (set.insert s gap) q ≡ true → (gap ≡ q) ⊎ (set.contains s q ≡ true)
new_or_old s gap q h = tied q gap (set.contains s q) (sym (set.contains-insert nat_cmp_total s gap q) ∙ h)

module _ (n : Region) (other : SetOfGaps) (inside : IsInRegion n other) (gap : ℕ) where
  with_it : set.contains other gap ≡ true → IsInRegion (with_gap n gap) other
  with_it there = record {
    holds = λ q h. elim (new_or_old n.must gap q h) [ inl e ↦ subst (λ (g : ℕ). set.contains other g ≡ true) e there | inr old ↦ inside.holds q old ];
    avoids = inside.avoids;
  }

  without_it : set.contains other gap ≡ false → IsInRegion (without_gap n gap) other
  without_it missing = record {
    holds = inside.holds;
    avoids = λ q h. elim (new_or_old n.never gap q h) [ inl e ↦ subst (λ (g : ℕ). set.contains other g ≡ false) e missing | inr old ↦ inside.avoids q old ];
  }

-- the first of the gaps that the set has picks the child
pub split_loses_no_set : ASplitLosesNoSet
split_loses_no_set n [] other inside = inr (λ gap here. absurd (none_here gap here))
split_loses_no_set n (gap ∷ gaps) other inside =
    let first : Region = with_gap n gap in
    let rest : Region = without_gap n gap in
    elim (true_or_false (set.contains other gap)) [
      | inl there ↦ inl (first, first_is_here first (child_regions rest gaps), with_it n other inside gap there)
      | inr missing ↦ elim (split_loses_no_set rest gaps other (without_it n other inside gap missing)) [
        | inl (child, here, in_child) ↦ inl (child, later_is_here first (child_regions rest gaps) child here, in_child)
        | inr none ↦ inr (each_more (λ (g : ℕ). set.contains other g ≡ false) gap gaps missing none)
      ]
    ]

-- every set is in the region of all sets
pub in_root : (other : SetOfGaps) → IsInRegion all_sets other
in_root other = record {
  holds = λ q h. (let no : true ≡ false = sym h ∙ set.contains-empty nat_cmp q in absurd cc);
  avoids = λ q h. (let no : true ≡ false = sym h ∙ set.contains-empty nat_cmp q in absurd cc);
}
