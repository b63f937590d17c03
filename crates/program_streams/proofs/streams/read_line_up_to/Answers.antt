use Rattle.std.proofs.Common.{ℕ, List, [], ◌+◌, arith, refl, take}
use Rattle.std.proofs.lemmas.List.{length-take}
use Rattle.program_streams.proofs.StreamLaws.{takes_more}
use Rattle.program_streams.proofs.streams.read_line_up_to.Goals as goal

pub returns-then-byte-eq10-clause-taken : goal.returns-then-byte-eq10-clause-taken
returns-then-byte-eq10-clause-taken g c =
    let part : List ℕ = take c.in-Ok.field-0 c.read.new.buf in
    let bound = c.in-Ok.ensures.bound in
    takes_more _ _ _ [] c.loop-byte.line.items part (c.args.limit + 1) (c.args.limit + 1) (c.loop-byte.line.items, c.loop-byte.invariant.known, refl) c.in-Ok.ensures.bytes.0
    (omega (arith, bound.0, bound.1, c.loop-byte.line.ok.0, length-take c.in-Ok.field-0 c.read.new.buf))
    (omega arith)

pub returns-then-is_err-clause-taken : goal.returns-then-is_err-clause-taken
returns-then-is_err-clause-taken g c =
    let part : List ℕ = take c.in-Ok.field-0 c.read.new.buf in
    let bound = c.in-Ok.ensures.bound in
    takes_more _ _ _ [] c.loop-byte.line.items part (c.args.limit + 1) (c.args.limit + 1) (c.loop-byte.line.items, c.loop-byte.invariant.known, refl) c.in-Ok.ensures.bytes.0
    (omega (arith, bound.0, bound.1, c.loop-byte.line.ok.0, length-take c.in-Ok.field-0 c.read.new.buf))
    (omega arith)
