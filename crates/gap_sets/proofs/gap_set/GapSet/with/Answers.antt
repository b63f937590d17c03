use Rattle.gap_sets.proofs.Vocabulary.{ap, ◌∙◌}
use Rattle.std.specs.FinSet as set
use Rattle.gap_sets.proofs.WordSets.{gaps_of-insert, or_fits}
use Rattle.gap_sets.proofs.gap_set.GapSet.with.Goals as goal

pub invariant_of-result : goal.invariant_of-result
invariant_of-result c = or_fits c.self.inside.bits c.args.gap c.self.invariant

pub returns : goal.returns
returns c =
    gaps_of-insert c.self.inside.bits c.args.gap c.self.invariant c.requires (or_fits c.self.inside.bits c.args.gap c.self.invariant)
    ∙ ap (λ s. set.insert s c.args.gap) c.self.view_is
