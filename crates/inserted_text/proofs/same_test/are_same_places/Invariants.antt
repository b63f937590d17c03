use Rattle.std.proofs.Common.{◌≡◌, take}
use Rattle.inserted_text.proofs.same_test.are_same_places.Given as goal

-- the places so far are the same
abbrev pub invariant-loop-place : goal.invariant-loop-place
invariant-loop-place l = take l.place l.one ≡ take l.place l.other
