use Rattle.bit_rows.proofs.Vocabulary.{arith}
use Rattle.bit_rows.proofs.Bits.{is_in_raised}
use Rattle.bit_rows.proofs.row.raised.Goals as goal

pub returns : goal.returns
returns c k = is_in_raised c.args.row c.args.by k (omega arith)
