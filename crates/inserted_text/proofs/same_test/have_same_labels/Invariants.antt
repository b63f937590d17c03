use Rattle.std.proofs.Common.{◌≡◌, take}
use Rattle.inserted_text.proofs.same_test.have_same_labels.Given as goal

-- the threads' labels so far are the same
abbrev pub invariant-loop-thread : goal.invariant-loop-thread
invariant-loop-thread l = take l.thread l.one ≡ take l.thread l.other
