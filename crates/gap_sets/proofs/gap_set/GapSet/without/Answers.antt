use Rattle.gap_sets.proofs.Vocabulary.{ap, ◌∙◌}
use Rattle.std.specs.FinSet as set
use Rattle.gap_sets.proofs.WordSets.{gaps_of-remove}
use Rattle.gap_sets.proofs.gap_set.GapSet.without.Goals as goal

pub returns : goal.returns
returns c =
    gaps_of-remove c.self.inside.bits c.args.gap c.self.invariant c.requires
    ∙ ap (λ s. set.remove s c.args.gap) c.self.view_is
