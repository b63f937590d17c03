use Rattle.sequential_states.proofs.Vocabulary.{sym, subst, Walk, WalksOn, HasNoStep, IsLonger, IsWalkOn}
use Rattle.sequential_states.proofs.Steps.{at_end}
use Rattle.sequential_states.proofs.Ending.{no_further, further, both_further, less_left}
use Rattle.sequential_states.proofs.walk.Walk.end_thread.Goals as goal

pub loop-init : goal.loop-init
loop-init c = no_further c.args.program.now c.args.self.now c.requires

pub step-requires : goal.step-requires
step-requires c = c.loop.invariant.walked.fits

pub loop-smaller : goal.loop-smaller
loop-smaller c =
    let longer : IsLonger c.args.program.now c.loop.self c.args.t c.step.new.self = subst (WalksOn c.args.program.now c.loop.self c.args.t c.step.new.self) c.if-branch.true c.in_ok-step.ensures in
    less_left c.args.program.now c.loop.self.state c.step.new.self.state c.args.t c.recall_facts.ensures.within.shared.forward_jumps longer.leads

pub loop-preserved : goal.loop-preserved
loop-preserved c =
    let longer : IsLonger c.args.program.now c.loop.self c.args.t c.step.new.self = subst (WalksOn c.args.program.now c.loop.self c.args.t c.step.new.self) c.if-branch.true c.in_ok-step.ensures in
    both_further c.args.program.now c.args.self.now c.loop.self c.step.new.self c.loop.invariant (further c.args.program.now c.loop.self c.step.new.self c.args.t c.loop.invariant.walked longer)

pub returns-clause-longer : goal.returns-clause-longer
returns-clause-longer c =
    let (same, none) = subst (WalksOn c.args.program.now c.loop.self c.args.t c.step.new.self) c.if-branch.false c.in_ok-step.ensures in
    subst (IsWalkOn c.args.program.now c.args.self.now) (sym same) c.loop.invariant

pub returns-clause-ended : goal.returns-clause-ended
returns-clause-ended c =
    let (same, none) = subst (WalksOn c.args.program.now c.loop.self c.args.t c.step.new.self) c.if-branch.false c.in_ok-step.ensures in
    at_end c.args.program.now c.step.new.self.state c.args.t (subst (λ (w : Walk). HasNoStep c.args.program.now w.state c.args.t) (sym same) none)
