use Rattle.gap_sets.proofs.Vocabulary.{◌∙◌}
use Rattle.std.specs.FinSet as set
use Rattle.gap_sets.proofs.WordSets.{gaps_of-difference}
use Rattle.gap_sets.proofs.gap_set.GapSet.minus.Goals as goal

pub returns : goal.returns
returns c =
    gaps_of-difference c.self.inside.bits c.other.inside.bits c.self.invariant c.other.invariant
    ∙ (λ i. set.difference (c.self.view_is i) (c.other.view_is i))
