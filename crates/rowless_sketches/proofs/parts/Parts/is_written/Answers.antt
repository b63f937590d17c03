use Rattle.rowless_sketches.proofs.Vocabulary.{ap, length, arith, IsWritten, IsWrittenBy, each_index, no, not_by}
use Rattle.rowless_sketches.proofs.Ends.{thread_within}
use Rattle.rowless_sketches.proofs.parts.Parts.is_written.Goals as goal

pub overflow_cast-threads : goal.overflow_cast-threads
overflow_cast-threads c =
    let same = c.self.invariant.one_each in
    let few = c.self.invariant.lawful.within.shared.few_threads in
    omega arith

pub loop-t-preserved : goal.loop-t-preserved
loop-t-preserved c = each_index (λ t. IsWrittenBy c.args.self.now t c.args.location → ⊥) c.loop-t.t c.loop-t.invariant (not_by _ _ c.thread_writes.ensures c.if-thread_writes.false)

pub returns : goal.returns
returns c = no (IsWritten c.args.self.now c.args.location)
    (λ h. (
    let same = ap (λ s. length s.program.threads) c.self.view_is in
    let threads = c.self.invariant.one_each in
    let within = thread_within c.args.self.now h.0 c.args.location h.1 in
    c.loop-t.invariant h.0 (omega arith) h.1))
