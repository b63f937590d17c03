use Rattle.gap_list.proofs.Vocabulary.{◌≡◌}
use Rattle.gap_list.specs.TiedFiles.{dearest}
use Rattle.gap_list.proofs.dearest_ties.dearest.Given as goal

-- the dearest of the gaps so far
abbrev pub invariant-loop-other : goal.invariant-loop-other
invariant-loop-other l = l.most ≡ dearest l.other l.costs l.ties l.gap
