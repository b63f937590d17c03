use Rattle.std.proofs.Common.{◌≤◌, ◌-◌, take, length}
use Rattle.std.specs.Io.KnownBytes.{Appends}
use Rattle.program_streams.proofs.streams.write_bytes.Given as goal

-- the bytes so far were written
abbrev pub invariant-loop-sent : goal.invariant-loop-sent
invariant-loop-sent g l = record {
  known : Appends (g.W.Write.contents l.fn.output) (g.W.Write.contents l.output) (take l.sent l.bytes);
  within : l.sent ≤ length l.bytes;
}

abbrev pub decreases-loop-sent : goal.decreases-loop-sent
decreases-loop-sent g l = length l.bytes - l.sent
