use Rattle.std.proofs.Common.{◌≢◌, ◌≤◌, ◌+◌, ◌-◌, vec_len}
use Rattle.std.specs.Prelude.{All}
use Rattle.std.specs.Io.KnownBytes.{Consumes}
use Rattle.program_streams.proofs.streams.read_line_up_to.Given as goal

-- the bytes so far were read, and no line feed is among them
abbrev pub invariant-loop-byte : goal.invariant-loop-byte
invariant-loop-byte g l = record {
  known : Consumes (g.R.Read.remaining l.fn.input) (g.R.Read.remaining l.input) l.line.items;
  one_line : All (λ b. b ≢ 10) l.line.items;
  within : vec_len l.line ≤ l.limit + 1;
}

abbrev pub decreases-loop-byte : goal.decreases-loop-byte
decreases-loop-byte g l = l.limit + 1 - vec_len l.line
