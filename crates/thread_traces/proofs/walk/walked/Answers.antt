use Rattle.thread_traces.proofs.Vocabulary.{◌∙◌, ap, subst, length, arith, action, code_of, fenced_gaps, trace_by, entered, machine_of_mode, GoesOn}
use Rattle.thread_traces.proofs.EventsCounted.{thread_few}
use Rattle.thread_traces.proofs.TraceSteps.{begun, stepped, halted, finished, code_there, registers_there, entered_by}
use Rattle.thread_traces.proofs.walk.walked.Goals as goal

pub loop-step-init : goal.loop-step-init
loop-step-init c =
    let there = code_there c.args.program.now.threads c.threads.result.now c.args.t c.len-step-end.result c.index-threads-t.result c.threads.ensures.value c.requires c.index-threads-t.is c.len-step-end.ensures in
    record {
      made = begun c.args.program.now (machine_of_mode c.args.program.now c.args.mode) c.args.t c.args.given.now c.index-threads-t.result c.in_ok-walk.walk c.requires there.0 c.in_ok-walk.ensures.start;
      sections = omega (arith, ap (λ w. w.section) c.in_ok-walk.ensures.start);
    }

pub enter-requires : goal.enter-requires
enter-requires c =
    let there = code_there c.args.program.now.threads c.threads.result.now c.args.t c.len-step-end.result c.index-threads-t.result c.threads.ensures.value c.requires c.index-threads-t.is c.len-step-end.ensures in
    let short = c.threads.ensures.within.shared.short_threads c.args.t in
    omega arith

pub go_on-requires : goal.go_on-requires
go_on-requires c =
    let there = code_there c.args.program.now.threads c.threads.result.now c.args.t c.len-step-end.result c.index-threads-t.result c.threads.ensures.value c.requires c.index-threads-t.is c.len-step-end.ensures in
    let short = c.threads.ensures.within.shared.short_threads c.args.t in
    let once = entered_by c.ends_section-fenced.result c.loop-step.walk c.enter.new.self c.enter.ensures in
    omega arith

pub loop-step-preserved : goal.loop-step-preserved
loop-step-preserved c =
    let there = code_there c.args.program.now.threads c.threads.result.now c.args.t c.len-step-end.result c.index-threads-t.result c.threads.ensures.value c.requires c.index-threads-t.is c.len-step-end.ensures in
    let once = entered_by c.ends_section-fenced.result c.loop-step.walk c.enter.new.self c.enter.ensures in
    let more = c.in_ok-go_on.ensures.section in
    let entering = c.enter.ensures ∙ ap (λ b. record c.loop-step.walk { section = entered b c.loop-step.walk.section }) c.ends_section-fenced.ensures in
    let goes = subst (λ a. GoesOn c.enter.new.self.section c.enter.new.self c.go_on.new.self a c.args.given.now c.in_ok-go_on.field-0) c.action-action.ensures.value c.in_ok-go_on.ensures.goes in
    record {
      made = stepped _ (action c.args.program.now.threads c.args.t) (fenced_gaps (machine_of_mode c.args.program.now c.args.mode) c.args.t) (length (code_of c.args.program.now.threads c.args.t)) c.loop-step.step c.args.given.now
          c.loop-step.walk c.enter.new.self c.go_on.new.self c.in_ok-go_on.field-0 (omega arith) c.loop-step.invariant.made entering goes c.if-not-branch.false;
      sections = omega arith;
    }

pub returns-then-not-branch : goal.returns-then-not-branch
returns-then-not-branch c =
    let there = code_there c.args.program.now.threads c.threads.result.now c.args.t c.len-step-end.result c.index-threads-t.result c.threads.ensures.value c.requires c.index-threads-t.is c.len-step-end.ensures in
    let entering = c.enter.ensures ∙ ap (λ b. record c.loop-step.walk { section = entered b c.loop-step.walk.section }) c.ends_section-fenced.ensures in
    let goes = subst (λ a. GoesOn c.enter.new.self.section c.enter.new.self c.go_on.new.self a c.args.given.now c.in_ok-go_on.field-0) c.action-action.ensures.value c.in_ok-go_on.ensures.goes in
    let made = halted _ (action c.args.program.now.threads c.args.t) (fenced_gaps (machine_of_mode c.args.program.now c.args.mode) c.args.t) (length (code_of c.args.program.now.threads c.args.t)) c.loop-step.step c.args.given.now
    c.loop-step.walk c.enter.new.self c.go_on.new.self c.in_ok-go_on.field-0 (omega arith) c.loop-step.invariant.made entering goes c.if-not-branch.true in
    let few = thread_few c.args.program.now (machine_of_mode c.args.program.now c.args.mode) (λ u. c.args.given.now) c.threads.ensures.within c.args.t c.requires in
    let same = ap length made.0 in
    record {
      accesses = made.0;
      last = made.1;
      few = omega arith;
      registers = registers_there c.args.program.now.threads c.args.t c.index-threads-t.result c.requires there.0 ∙ c.in_ok-walk.ensures.six;
    }

pub returns : goal.returns
returns c =
    let there = code_there c.args.program.now.threads c.threads.result.now c.args.t c.len-step-end.result c.index-threads-t.result c.threads.ensures.value c.requires c.index-threads-t.is c.len-step-end.ensures in
    let made = finished (trace_by c.args.program.now (machine_of_mode c.args.program.now c.args.mode) (λ u. c.args.given.now) c.args.t) (action c.args.program.now.threads c.args.t) (fenced_gaps (machine_of_mode c.args.program.now c.args.mode) c.args.t) (length (code_of c.args.program.now.threads c.args.t)) c.loop-step.step c.args.given.now c.loop-step.walk (omega arith) c.loop-step.invariant.made in
    let few = thread_few c.args.program.now (machine_of_mode c.args.program.now c.args.mode) (λ u. c.args.given.now) c.threads.ensures.within c.args.t c.requires in
    let same = ap length made.0 in
    record {
      accesses = made.0;
      last = made.1;
      few = omega arith;
      registers = registers_there c.args.program.now.threads c.args.t c.index-threads-t.result c.requires there.0 ∙ c.in_ok-walk.ensures.six;
    }
