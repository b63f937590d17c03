use Rattle.rowless_sketches.proofs.Vocabulary.{arith, At, WritesTo, IsWrittenBy, each_index, yes, no, not_by}
use Rattle.rowless_sketches.proofs.Ends.{write_within}
use Rattle.rowless_sketches.proofs.parts.Parts.thread_writes.Goals as goal

pub returns-then-writes : goal.returns-then-writes
returns-then-writes c = yes (IsWrittenBy c.args.self.now c.args.t c.args.location) (c.loop-i.i, c.writes.ensures.0 c.if-writes.true)

pub loop-i-preserved : goal.loop-i-preserved
loop-i-preserved c = each_index (λ k. WritesTo c.args.self.now (At c.args.t k) c.args.location → ⊥) c.loop-i.i c.loop-i.invariant (not_by _ _ c.writes.ensures c.if-writes.false)

pub returns : goal.returns
returns c = no (IsWrittenBy c.args.self.now c.args.t c.args.location)
    (λ h. (let within = write_within c.args.self.now c.args.t h.0 c.args.location h.1 in c.loop-i.invariant h.0 (omega arith) h.1))
