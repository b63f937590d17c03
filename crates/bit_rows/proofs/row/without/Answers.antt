use Rattle.bit_rows.proofs.Vocabulary.{arith}
use Rattle.bit_rows.proofs.Bits.{is_in_without, less_without}
use Rattle.bit_rows.proofs.row.without.Goals as goal

pub returns-clause-numbers : goal.returns-clause-numbers
returns-clause-numbers c k = is_in_without c.args.row c.args.number k (omega arith) c.requires

pub returns-clause-less : goal.returns-clause-less
returns-clause-less c = less_without c.args.row c.args.number c.requires
