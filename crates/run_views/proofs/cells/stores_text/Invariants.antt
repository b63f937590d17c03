use Rattle.std.proofs.Common.{◌≡◌, map, take}
use Rattle.std.specs.List.{join_with_byte}
use Rattle.run_views.specs.Tables.{pending_text}
use Rattle.run_views.proofs.cells.stores_text.Given as goal

-- the stores so far, joined
abbrev pub invariant-loop-index : goal.invariant-loop-index
invariant-loop-index l = l.out.items ≡ join_with_byte 32 (map (pending_text l.names) (take l.index l.stores))
