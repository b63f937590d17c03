use Rattle.gap_sets.proofs.Vocabulary.{◌∙◌, or_lt, MAX_GAPS}
use Rattle.std.specs.FinSet as set
use Rattle.gap_sets.proofs.WordSets.{gaps_of-union}
use Rattle.gap_sets.proofs.gap_set.GapSet.joined.Goals as goal

pub invariant_of-result : goal.invariant_of-result
invariant_of-result c = or_lt MAX_GAPS c.self.inside.bits c.other.inside.bits c.self.invariant c.other.invariant

pub returns : goal.returns
returns c =
    gaps_of-union c.self.inside.bits c.other.inside.bits c.self.invariant c.other.invariant
    ∙ (λ i. set.union (c.self.view_is i) (c.other.view_is i))
