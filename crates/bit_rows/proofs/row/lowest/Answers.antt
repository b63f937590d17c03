use Rattle.bit_rows.proofs.Vocabulary.{arith}
use Rattle.bit_rows.proofs.Bits.{lowest_is}
use Rattle.bit_rows.proofs.row.lowest.Goals as goal

pub returns : goal.returns
returns c = lowest_is c.args.row (omega arith) (let some = c.if-row-eq0.false in omega arith)
