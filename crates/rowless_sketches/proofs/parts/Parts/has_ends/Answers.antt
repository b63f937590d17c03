use Rattle.rowless_sketches.proofs.Vocabulary.{ℕ, ◌<◌, ap, length, arith, Event, At, trace_in, IsOwn, each_index, yes, HasEndOf}
use Rattle.rowless_sketches.proofs.MemoryEnds.{own_ends}
use Rattle.rowless_sketches.proofs.parts.Parts.has_ends.Goals as goal

pub loop-t-preserved : goal.loop-t-preserved
loop-t-preserved c =
    each_index (λ t. (i : ℕ) → i < length (trace_in c.args.self.now t).accesses → HasEndOf c.args.self.now c.args.shown.now c.args.memory.now (At t i)) c.loop-t.t c.loop-t.invariant (c.thread_has_ends.ensures.0 c.if-not-thread_has_ends.false)

pub returns : goal.returns
returns c =
    let same = ap (λ s. length s.program.threads) c.self.view_is in
    let threads = c.self.invariant.one_each in
    yes ((e : Event) → IsOwn c.args.self.now e → HasEndOf c.args.self.now c.args.shown.now c.args.memory.now e)
    (own_ends c.args.self.now c.args.shown.now c.args.memory.now (λ t h. c.loop-t.invariant t (omega arith)))
