use Rattle.gap_sets.proofs.Vocabulary.{ap, ◌∙◌}
use Rattle.std.specs.FinSet as set
use Rattle.gap_sets.proofs.{WordSets.IsGapSet-word, Counted.len-gaps_of}
use Rattle.gap_sets.proofs.gap_set.GapSet.len.Goals as goal

pub returns-clause-value : goal.returns-clause-value
returns-clause-value c = len-gaps_of c.self.inside.bits c.self.invariant ∙ ap (λ s. set.len s) c.self.view_is

pub returns-clause-gaps : goal.returns-clause-gaps
returns-clause-gaps c = IsGapSet-word c.self.inside.bits c.args.self.now c.self.view_is c.self.invariant
