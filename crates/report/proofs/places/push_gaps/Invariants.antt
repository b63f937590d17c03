use Rattle.std.proofs.Common.{◌≡◌, ◌++◌}
use Rattle.std.specs.Prelude.{string_bytes}
use Rattle.std.specs.List.{flat_map}
use Rattle.report.specs.Places.{gap_text}
use Rattle.report.proofs.places.push_gaps.Given as goal

-- the gaps so far are printed
abbrev pub invariant-loop-gap : goal.invariant-loop-gap
invariant-loop-gap l = string_bytes l.line ≡ string_bytes l.initial.line ++ flat_map (gap_text l.program.threads) l.yielded
