use Rattle.gap_sets.proofs.Vocabulary.{◌≢◌, ℕ, ◌∙◌, sym, arith, IsTrue, not, nat_eq, nat_tests, and_le_l}
use Rattle.gap_sets.proofs.{WordSets.contains-word, Words.is_not_zero, Words.common, Words.no_common}
use Rattle.gap_sets.proofs.gap_set.GapSet.meets.Goals as goal

none : (n : ℕ) → n ≢ 0 → IsTrue (not (nat_eq n 0))
none n h = grind (arith, nat_tests)

pub returns : goal.returns
returns c =
    let a : ℕ = c.self.inside.bits in
    let b : ℕ = c.other.inside.bits in (
      λ yes.
          let found = common a b (omega (arith, and_le_l a b)) (is_not_zero _ yes) in
          (found.0, contains-word a _ _ c.self.view_is c.self.invariant ∙ found.1, contains-word b _ _ c.other.view_is c.other.invariant ∙ found.2),
      λ both. none _ (no_common a b both.0 (sym (contains-word a _ _ c.self.view_is c.self.invariant) ∙ both.1) (sym (contains-word b _ _ c.other.view_is c.other.invariant) ∙ both.2)),
    )
