use Rattle.std.proofs.Common.{◌≡◌, map, take}
use Rattle.gap_sets.specs.Ties.{names_in}
use Rattle.cert_check.proofs.checker.names_passed.Given as goal

-- the names so far
abbrev pub invariant-loop-gaps : goal.invariant-loop-gaps
invariant-loop-gaps l = l.names.items ≡ map (names_in l.ties) (take l.gaps-index l.passed)
