use Rattle.sequential_states.proofs.Vocabulary.{sym, subst, Listing, TellsAll, IsExecuted, IsRunThrough}
use Rattle.sequential_states.proofs.Ending.{walks_on}
use Rattle.sequential_states.proofs.Answering.{back, walk_is, nowhere, stands_still, still, moved, through}
use Rattle.sequential_states.proofs.states.SequentialStates.run_through.Goals as goal

pub walk_to-requires-clause-back : goal.walk_to-requires-clause-back
walk_to-requires-clause-back c =
    let all : TellsAll c.self.inside.program c.as_slice-listed.result.now = subst (TellsAll c.self.inside.program) (sym c.as_slice-listed.ensures.value) c.self.invariant in
    back c.self.inside.program c.args.t c.args.k c.as_slice-listed.result.now all

pub step-requires : goal.step-requires
step-requires c =
    let all : TellsAll c.self.inside.program c.as_slice-listed.result.now = subst (TellsAll c.self.inside.program) (sym c.as_slice-listed.ensures.value) c.self.invariant in
    let (is, stands) = walk_is c.self.inside.program c.args.t c.args.k c.as_slice-listed.result.now all c.in-Some.place c.in_ok-walk-in-Some.walk c.in-Some.ensures.found c.in_ok-walk-in-Some.ensures in
    is.fits

pub returns-then-not-branch : goal.returns-then-not-branch
returns-then-not-branch c =
    let all : TellsAll c.self.inside.program c.as_slice-listed.result.now = subst (TellsAll c.self.inside.program) (sym c.as_slice-listed.ensures.value) c.self.invariant in
    let (is, stands) = walk_is c.self.inside.program c.args.t c.args.k c.as_slice-listed.result.now all c.in-Some.place c.in_ok-walk-in-Some.walk c.in-Some.ensures.found c.in_ok-walk-in-Some.ensures in
    subst (λ (p : Listing). IsExecuted p c.args.t c.args.k → ⊥) c.self.view_is
    (stands_still c.self.inside.program c.args.t c.args.k c.in_ok-walk-in-Some.walk.state stands
    (still c.self.inside.program c.args.t c.args.k c.in_ok-step-in-Some.field-0 c.in_ok-walk-in-Some.walk c.step.new.self c.in_ok-step-in-Some.ensures c.if-not-branch.true))

pub end-requires : goal.end-requires
end-requires c =
    let all : TellsAll c.self.inside.program c.as_slice-listed.result.now = subst (TellsAll c.self.inside.program) (sym c.as_slice-listed.ensures.value) c.self.invariant in
    let (is, stands) = walk_is c.self.inside.program c.args.t c.args.k c.as_slice-listed.result.now all c.in-Some.place c.in_ok-walk-in-Some.walk c.in-Some.ensures.found c.in_ok-walk-in-Some.ensures in
    walks_on c.self.inside.program c.in_ok-walk-in-Some.walk c.step.new.self c.args.t is
    (moved c.self.inside.program c.args.t c.args.k c.in_ok-step-in-Some.field-0 c.in_ok-walk-in-Some.walk c.step.new.self c.in_ok-step-in-Some.ensures c.if-not-branch.false)

pub returns-in_ok-end-in-Some : goal.returns-in_ok-end-in-Some
returns-in_ok-end-in-Some c =
    let all : TellsAll c.self.inside.program c.as_slice-listed.result.now = subst (TellsAll c.self.inside.program) (sym c.as_slice-listed.ensures.value) c.self.invariant in
    let (is, stands) = walk_is c.self.inside.program c.args.t c.args.k c.as_slice-listed.result.now all c.in-Some.place c.in_ok-walk-in-Some.walk c.in-Some.ensures.found c.in_ok-walk-in-Some.ensures in
    let longer = moved c.self.inside.program c.args.t c.args.k c.in_ok-step-in-Some.field-0 c.in_ok-walk-in-Some.walk c.step.new.self c.in_ok-step-in-Some.ensures c.if-not-branch.false in
    subst (λ (p : Listing). IsRunThrough p c.end.new.self.labels c.args.t c.args.k) c.self.view_is
    (through c.self.inside.program c.args.t c.args.k c.in_ok-walk-in-Some.walk c.step.new.self c.end.new.self is stands longer c.in_ok-end-in-Some.ensures.longer c.in_ok-end-in-Some.ensures.ended)

pub returns-in-None : goal.returns-in-None
returns-in-None c =
    let all : TellsAll c.self.inside.program c.as_slice-listed.result.now = subst (TellsAll c.self.inside.program) (sym c.as_slice-listed.ensures.value) c.self.invariant in
    subst (λ (p : Listing). IsExecuted p c.args.t c.args.k → ⊥) c.self.view_is
    (nowhere c.self.inside.program c.args.t c.args.k c.as_slice-listed.result.now all c.in-None.ensures.none)
