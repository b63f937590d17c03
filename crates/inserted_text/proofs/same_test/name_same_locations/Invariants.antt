use Rattle.std.proofs.Common.{◌≡◌, take}
use Rattle.inserted_text.proofs.same_test.name_same_locations.Given as goal

-- the locations so far are the same
abbrev pub invariant-loop-number : goal.invariant-loop-number
invariant-loop-number l = take l.number l.one.locations ≡ take l.number l.other.locations
