use Rattle.gap_sets.proofs.{Listed.list_of-rises, Listed.list_of-gaps_in, Ranges.below_end}
use Rattle.gap_sets.proofs.Vocabulary.{refl, list_of, gaps_of_bits, has_bit, MAX_GAPS}
use Rattle.gap_sets.proofs.gap_set.GapSet.iter.Goals as goal

pub returns-clause-value : goal.returns-clause-value
returns-clause-value c = list_of-gaps_in c.self.inside.bits c.args.self.now c.self.view_is c.self.invariant

pub returns-clause-ascending : goal.returns-clause-ascending
returns-clause-ascending c = list_of-rises c.self.inside.bits

pub returns-clause-members : goal.returns-clause-members
unfolding gaps_of_bits
returns-clause-members c = c.self.view_is

pub returns-clause-below : goal.returns-clause-below
unfolding list_of
returns-clause-below c = below_end (has_bit c.self.inside.bits) 0 MAX_GAPS MAX_GAPS refl
