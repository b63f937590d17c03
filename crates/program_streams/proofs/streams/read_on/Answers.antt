use Rattle.std.proofs.Common.{List, ℕ, ◌-◌, arith, take, vec_len}
use Rattle.std.proofs.lemmas.List.{length-take}
use Rattle.program_streams.proofs.StreamLaws.{takes_more}
use Rattle.program_streams.proofs.streams.read_on.Goals as goal

pub returns-then-is_err-clause-taken : goal.returns-then-is_err-clause-taken
returns-then-is_err-clause-taken g c =
    let part : List ℕ = take c.in-Ok.count c.read.new.buf in
    let bound = c.in-Ok.ensures.bound in
    takes_more _ _ _ c.args.bytes.now.items c.loop-buffer.bytes.items part c.args.most (c.args.most - vec_len c.args.bytes.now) c.loop-buffer.invariant.more c.in-Ok.ensures.bytes.0
    (omega (arith, bound.0, bound.1, c.loop-buffer.bytes.ok.0, length-take c.in-Ok.count c.read.new.buf, length-take c.min-part.result c.loop-buffer.buffer))
    (omega (arith, c.args.bytes.now.ok.0))
