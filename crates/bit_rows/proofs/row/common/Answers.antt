use Rattle.bit_rows.proofs.Bits.{is_in_and}
use Rattle.bit_rows.proofs.row.common.Goals as goal

pub returns : goal.returns
returns c k = is_in_and c.args.a c.args.b k
