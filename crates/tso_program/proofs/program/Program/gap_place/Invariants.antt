use Rattle.tso_program.proofs.Vocabulary.{◌≡◌, ◌+◌, take, gap_count}
use Rattle.tso_program.proofs.program.Program.gap_place.Given as goal

-- the gaps of the threads so far are passed over
abbrev pub invariant-loop-t : goal.invariant-loop-t
invariant-loop-t l = gap_count (take l.t l.self.threads) + l.left ≡ l.gap
