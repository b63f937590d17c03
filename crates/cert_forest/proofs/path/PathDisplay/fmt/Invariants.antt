use Rattle.std.specs.Prelude.{take}
use Rattle.std.specs.List.{flat_map}
use Rattle.std.specs.Fmt.{HasWritten, IsPlainFormatter}
use Rattle.cert_forest.specs.Paths.{child_text}
use Rattle.cert_forest.proofs.path.PathDisplay.fmt.Given as goal

-- the children so far are written
abbrev pub invariant-loop-number : goal.invariant-loop-number
invariant-loop-number g l = IsPlainFormatter l.initial.f → HasWritten g.W.Write.write_str_gives l.initial.f (flat_map child_text (take l.number-index l.number-items)) l.f
