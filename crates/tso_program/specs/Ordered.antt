-- The order of outcomes.
use Rattle.std.specs.Ordering.{nat_cmp, ordering_then}
use Rattle.std.specs.declared.cmp.Ordering.{Ordering}
use Rattle.std.specs.Cmp.Lexicographic.{slice_cmp}
use Rattle.tso_program.specs.declared.outcome.Outcome.{Outcome}

-- by the registers of the threads, then by the locations, each as numbers
abbrev pub outcome_cmp : Outcome → Outcome → Ordering
outcome_cmp a b = ordering_then (slice_cmp (slice_cmp nat_cmp) a.registers b.registers) (slice_cmp nat_cmp a.memory b.memory)
