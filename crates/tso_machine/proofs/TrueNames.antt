-- Each number of an answer is the name of a tie.
use Rattle.std.proofs.Common.{◌≡◌, ◌≢◌, ℕ, ◌≤◌, true, false, List, All, length, inl, inr, refl, sym, ap, ◌∙◌, subst, arith}
use Rattle.std.proofs.lemmas.Bool.{and_parts}
use Rattle.std.proofs.lemmas.Bool.Decides.{eqb_tells, nat_tests}
use Rattle.std.specs.Ordering.{eq_by_cmp, nat_cmp}
use Rattle.std.specs.Cmp.{nat_cmp_total}
use Rattle.std.specs.FinSet as set
use Rattle.gap_sets.specs.Gaps.{SetOfGaps, IsGapSet}
use Rattle.gap_sets.specs.Order.{Better}
use Rattle.gap_sets.specs.Ties.{AreTies, name_of, names_in, spread}
use Rattle.gap_sets.proofs.{Allowed.names_of_spread, Allowed.stands_for_nothing, Subsets.cheaper}
use Rattle.tso_program.specs.declared.question.Question.{Question}
use Rattle.tso_program.specs.Fences.{gaps_in}
use Rattle.tso_program.specs.Limits.{IsWithinLimits}
use Rattle.tso_program.specs.Listings.{gap_count}
use Rattle.tso_machine.specs.Outcomes.{IsStoreBufferOutcome, IsTheAnswer, LeavesOutcome}

module _ (q : Question) (costs : List ℕ) (names : SetOfGaps) (within : IsWithinLimits q.program.threads q.program.memory) (one_each : length costs ≡ gap_count q.program.threads)
    (positive : All (λ cost. 1 ≤ cost) costs) (are : AreTies q.ties) (answer : IsTheAnswer q costs names) where
  -- without a number that names no tie the set would serve too, and be better
  module _ (gap : ℕ) (held : set.contains names gap ≡ true) (differs : name_of q.ties gap ≢ gap) where
    abbrev other : SetOfGaps
    other = set.remove names gap

    within_names : (k : ℕ) → set.contains other k ≡ true → set.contains names k ≡ true
    within_names k there = (and_parts _ _ (sym (set.contains-remove nat_cmp_total names gap k) ∙ there)).1

    small : IsGapSet names
    small k there = omega (arith, answer.of_program k there, within.few_gaps)

    gone : set.contains other gap ≡ false
    gone = set.contains-remove nat_cmp_total names gap gap ∙ (let one : eq_by_cmp nat_cmp gap gap ≡ true = grind (arith, nat_tests) in rw one refl)

    is_other : other ≢ names
    is_other same = (let no : true ≡ false = sym held ∙ ap (λ (s : SetOfGaps). set.contains s gap) (sym same) ∙ gone in cc)

    better : Better costs other names
    better = cheaper costs other names positive small (λ k there. omega (arith, answer.of_program k there, one_each)) (set.contains-is_subset nat_cmp_total other names within_names) is_other

    no_other : ⊥
    no_other =
        let left : LeavesOutcome q other = answer.least other (λ k there. answer.of_program k (within_names k there)) better in
        left.foreign ((answer.serves left.outcome).0
        (subst (λ (gaps : SetOfGaps). IsStoreBufferOutcome q (gaps_in q.program gaps) left.outcome) (stands_for_nothing q.ties are names gap differs) left.left))

  pub true_names : (name : ℕ) → set.contains names name ≡ true → name_of q.ties name ≡ name
  true_names name held = elim (eqb_tells (name_of q.ties name) name) [
    | inl same ↦ same.1
    | inr apart ↦ absurd (no_other name held apart.1)
  ]

  -- so they are the names of the gaps that they stand for
  pub names_again : names_in q.ties (spread q.ties names) ≡ names
  names_again = names_of_spread q.ties names are true_names
