use Rattle.gap_sets.proofs.Vocabulary.{◌≡◌, sym, arith, bit_at, shr_and_one, bit_at_above, nat_tests, MAX_GAPS}
use Rattle.gap_sets.proofs.WordSets.{contains-word}
use Rattle.gap_sets.proofs.gap_set.GapSet.has.Goals as goal

pub returns-then-gap-lt-MAX_GAPS-clause-value : goal.returns-then-gap-lt-MAX_GAPS-clause-value
returns-then-gap-lt-MAX_GAPS-clause-value c = rw shr_and_one (sym (contains-word c.self.inside.bits c.args.gap _ c.self.view_is c.self.invariant))

pub returns-else-gap-lt-MAX_GAPS-clause-value : goal.returns-else-gap-lt-MAX_GAPS-clause-value
returns-else-gap-lt-MAX_GAPS-clause-value c =
    let none : bit_at c.self.inside.bits c.args.gap ≡ 0 = bit_at_above _ MAX_GAPS _ c.self.invariant c.if-gap-lt-MAX_GAPS.false in
    let not_there = contains-word c.self.inside.bits c.args.gap _ c.self.view_is c.self.invariant in
    let at_none = rw none at not_there in
    grind (arith, nat_tests)
