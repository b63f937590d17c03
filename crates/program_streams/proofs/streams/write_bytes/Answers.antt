use Rattle.std.proofs.Common.{arith}
use Rattle.program_streams.proofs.StreamLaws.{sends_more}
use Rattle.program_streams.proofs.streams.write_bytes.Goals as goal

pub loop-sent-preserved : goal.loop-sent-preserved
loop-sent-preserved g c = record {
  known = sends_more _ _ _ c.args.bytes.now c.loop-sent.sent c.in-Ok.count c.loop-sent.invariant.known (rw c.split_at.ensures.back at c.in-Ok.ensures.bytes);
  within = omega (arith, c.in-Ok.ensures.bound, c.split_at.ensures.back_len);
}
