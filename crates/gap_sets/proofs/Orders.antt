-- The order on sets of gaps is strict and total.
use Rattle.gap_sets.proofs.Vocabulary.{◌≡◌, ◌≢◌, ℕ, ◌⊎◌, inl, inr, Bool, true, false, refl, sym, ◌∙◌, arith, nat_cmp_total, cases_lt, SetOfGaps, IsGapSet, total, HasLeastDifference, MAX_GAPS, NoSetIsBetterThanItself, BetterIsTransitive, BetterIsTotal}
use Rattle.std.specs.FinSet as set
use Rattle.gap_sets.proofs.Tests.{AlikeBelow, first_difference, alike_beyond}

-- a set does not differ from itself
differs_not : (a : SetOfGaps) → HasLeastDifference a a → ⊥
differs_not a d = let no : true ≡ false = sym d.in_first ∙ d.not_in_second in cc

-- no set is better than itself
pub not_itself : NoSetIsBetterThanItself
not_itself costs a (inl less) = omega arith
not_itself costs a (inr d) = differs_not a d.1

-- the lower of two least differences is one of the outer sets
chain : (a b c : SetOfGaps) → HasLeastDifference a b → HasLeastDifference b c → HasLeastDifference a c
chain a b c d e =
    elim (cases_lt d.gap e.gap) [
      | inl below ↦ record { gap = d.gap; in_first = d.in_first; not_in_second = sym (e.alike_below d.gap below) ∙ d.not_in_second; alike_below = λ k h. d.alike_below k h ∙ e.alike_below k (omega arith) }
      | inr above ↦
          elim (cases_lt e.gap d.gap) [
            | inl less ↦ record { gap = e.gap; in_first = d.alike_below e.gap less ∙ e.in_first; not_in_second = e.not_in_second; alike_below = λ k h. d.alike_below k (omega arith) ∙ e.alike_below k h }
            | inr not_less ↦ let same : e.gap ≡ d.gap = omega arith in let here : set.contains b d.gap ≡ true = rw (sym same) e.in_first in let no : true ≡ false = sym here ∙ d.not_in_second in cc
          ]
    ]

-- better than a better set is better
pub chained : BetterIsTransitive
chained costs a b c (inl less) (inl more) = inl (omega arith)
chained costs a b c (inl less) (inr d) = inl (omega arith)
chained costs a b c (inr d) (inl more) = inl (omega arith)
chained costs a b c (inr d) (inr e) = inr (d.0 ∙ e.0, chain a b c d.1 e.1)

-- the set that has the first gap at which two sets differ
least : (a b : SetOfGaps) (g : ℕ) (v w : Bool) → set.contains a g ≡ v → set.contains b g ≡ w → v ≢ w → AlikeBelow (set.contains a) (set.contains b) g → HasLeastDifference a b ⊎ HasLeastDifference b a
least a b g true false e f differ alike = inl (record { gap = g; in_first = e; not_in_second = f; alike_below = alike })
least a b g false true e f differ alike = inr (record { gap = g; in_first = f; not_in_second = e; alike_below = λ k h. sym (alike k h) })
least a b g v w e f differ alike = absurd (differ refl)

-- two sets of gaps are equal, or one of them has the least gap of the difference
pub compared : (a b : SetOfGaps) → IsGapSet a → IsGapSet b → (a ≡ b) ⊎ (HasLeastDifference a b ⊎ HasLeastDifference b a)
compared a b small_a small_b =
    elim (first_difference (set.contains a) (set.contains b) MAX_GAPS) [
      | inl alike ↦ inl (set.same_set nat_cmp_total set.nat_cmp-IsAntisymmetric a b (alike_beyond (set.contains a) (set.contains b) MAX_GAPS alike small_a small_b))
      | inr found ↦ inr (least a b found.0 (set.contains a found.0) (set.contains b found.0) refl refl found.1 found.2)
    ]

-- of two sets of gaps that differ one is better
pub decided : BetterIsTotal
decided costs a b small_a small_b =
    elim (cases_lt (total costs a) (total costs b)) [
      | inl less ↦ inr (inl (inl less))
      | inr not_less ↦
          elim (cases_lt (total costs b) (total costs a)) [
            | inl more ↦ inr (inr (inl more))
            | inr not_more ↦
                let same : total costs a ≡ total costs b = omega arith in
                elim (compared a b small_a small_b) [
                  | inl equal ↦ inl equal
                  | inr (inl first) ↦ inr (inl (inr (same, first)))
                  | inr (inr second) ↦ inr (inr (inr (sym same, second)))
                ]
          ]
    ]
