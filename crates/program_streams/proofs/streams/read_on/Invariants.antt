use Rattle.std.proofs.Common.{◌≤◌, ◌-◌, vec_len}
use Rattle.program_streams.specs.Streams.{ReadsOn}
use Rattle.program_streams.proofs.streams.read_on.Given as goal

-- the bytes that the reader gave stand after those before
abbrev pub invariant-loop-buffer : goal.invariant-loop-buffer
invariant-loop-buffer g l = record {
  more : ReadsOn (g.R.Read.remaining l.fn.input) (g.R.Read.remaining l.input) l.fn.bytes.items l.bytes.items;
  within : vec_len l.bytes ≤ l.most;
}

abbrev pub decreases-loop-buffer : goal.decreases-loop-buffer
decreases-loop-buffer g l = l.most - vec_len l.bytes
