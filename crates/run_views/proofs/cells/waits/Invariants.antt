use Rattle.std.proofs.Common.{◌≡◌, false, take}
use Rattle.run_views.specs.Tables.{waits}
use Rattle.run_views.proofs.cells.waits.Given as goal

-- none of the stores so far is to the location
abbrev pub invariant-loop-store : goal.invariant-loop-store
invariant-loop-store l = waits (take l.store-index l.stores) l.location ≡ false
