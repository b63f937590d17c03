use Rattle.rowless_sketches.proofs.Vocabulary.{ℕ, sym, subst, arith, IsSome, ProgramSketch, mode_in, next_read, reads_there, each_index, yes, no, not_by}
use Rattle.candidate_executions.specs.Settled.{IsOfOther, MayStillWrite}
use Rattle.rowless_sketches.proofs.parts.Parts.others_may_write.Goals as goal

pub overflow_cast-threads : goal.overflow_cast-threads
overflow_cast-threads c =
    let same = c.self.invariant.one_each in
    let few = c.self.invariant.lawful.within.shared.few_threads in
    omega arith

pub returns-then-other_may_write : goal.returns-then-other_may_write
returns-then-other_may_write c =
    let s = c.args.self.now in
    let found = c.other_may_write.ensures.0 c.if-other_may_write.true in
    yes ((u : ℕ) × IsOfOther u c.args.event × MayStillWrite s.program (mode_in s) s.chosen u c.args.location c.args.value) (c.loop-u.u, found.0, found.1)

pub loop-u-preserved : goal.loop-u-preserved
loop-u-preserved c =
    let s = c.args.self.now in
    each_index (λ t. IsOfOther t c.args.event × MayStillWrite s.program (mode_in s) s.chosen t c.args.location c.args.value → ⊥) c.loop-u.u c.loop-u.invariant (not_by _ _ c.other_may_write.ensures c.if-other_may_write.false)

pub returns : goal.returns
returns c =
    let s = c.args.self.now in
    no ((u : ℕ) × IsOfOther u c.args.event × MayStillWrite s.program (mode_in s) s.chosen u c.args.location c.args.value)
    (λ (u, other, may). (
    let some = subst (λ (k : ProgramSketch). IsSome (next_read k.program (mode_in k) k.chosen u)) (sym c.self.view_is) may.goes_on in
    let there = reads_there _ _ _ _ _ c.self.invariant u some in
    c.loop-u.invariant u (omega arith) (other, may)))
