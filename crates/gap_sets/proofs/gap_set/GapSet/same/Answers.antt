use Rattle.gap_sets.proofs.Words.{same_word}
use Rattle.gap_sets.proofs.gap_set.GapSet.same.Goals as goal

pub returns : goal.returns
returns c = same_word _ _ _ _ c.self.view_is c.other.view_is c.self.invariant c.other.invariant
