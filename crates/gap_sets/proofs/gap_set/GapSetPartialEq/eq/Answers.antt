use Rattle.gap_sets.specs.SameGaps.{alike, have_same_gaps-same}
use Rattle.gap_sets.proofs.gap_set.GapSetPartialEq.eq.Goals as goal

pub returns : goal.returns
returns c =
    let sets = have_same_gaps-same c.args.self.now c.args.other.now in
    alike _ _ (λ yes. sets.1 (c.same.ensures.0 yes)) (λ yes. c.same.ensures.1 (sets.0 yes))
