use Rattle.std.proofs.Common.{◌+◌, ◌-◌, arith, vec_len}
use Rattle.program_streams.proofs.StreamLaws.{takes_both, takes_past}
use Rattle.program_streams.proofs.streams.read_rest_up_to.Goals as goal

pub returns-in_err-is_at_end-clause-taken : goal.returns-in_err-is_at_end-clause-taken
returns-in_err-is_at_end-clause-taken g c =
    takes_both _ _ _ (c.args.limit - vec_len c.args.bytes.now) 1 (c.args.limit + 1 - vec_len c.args.bytes.now) c.read_on.ensures.taken c.is_at_end.ensures.taken (omega (arith, c.requires))

pub returns-then-branch-2-clause-taken : goal.returns-then-branch-2-clause-taken
returns-then-branch-2-clause-taken g c =
    takes_both _ _ _ (c.args.limit - vec_len c.args.bytes.now) 1 (c.args.limit + 1 - vec_len c.args.bytes.now) c.read_on.ensures.taken c.is_at_end.ensures.taken (omega (arith, c.requires))

pub returns-else-branch-2-clause-err : goal.returns-else-branch-2-clause-err
returns-else-branch-2-clause-err g c =
    takes_past _ _ _ c.args.bytes.now.items c.read_on.new.bytes.items 1 (c.args.limit + 1 - vec_len c.args.bytes.now) c.in_ok-read_on.ensures.more (c.in_ok-is_at_end.ensures.more c.if-branch-2.false)
    (omega (arith, c.requires, c.args.bytes.now.ok.0, c.read_on.new.bytes.ok.0, c.in_ok-read_on.ensures.full c.if-branch.false))

pub returns-else-branch-2-clause-taken : goal.returns-else-branch-2-clause-taken
returns-else-branch-2-clause-taken g c =
    takes_both _ _ _ (c.args.limit - vec_len c.args.bytes.now) 1 (c.args.limit + 1 - vec_len c.args.bytes.now) c.read_on.ensures.taken c.is_at_end.ensures.taken (omega (arith, c.requires))
