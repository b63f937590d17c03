use Rattle.tso_program.proofs.Vocabulary.{◌≡◌, arith, length, take, ap, code_of, gap_count}
use Rattle.tso_program.proofs.Gaps.{number_below}
use Rattle.tso_program.proofs.program.Program.gap_number.Goals as goal

pub returns-clause-below : goal.returns-clause-below
returns-clause-below c =
    let len : c.code_len.result ≡ length (code_of c.threads-threads.result.now c.args.t) = c.code_len.ensures in
    let before : c.all_gaps-before.result ≡ gap_count (take c.args.t c.threads-threads.result.now) = c.all_gaps-before.ensures in
    let few = c.threads-threads.ensures.within.few_gaps in
    let same = ap gap_count c.threads-threads.ensures.value in
    let below = number_below c.threads-threads.result.now c.args.t c.args.k c.if-k-lt1.false (omega arith) in
    omega arith
