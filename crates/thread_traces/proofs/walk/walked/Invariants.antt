use Rattle.thread_traces.proofs.Vocabulary.{◌≡◌, ◌≤◌, ◌-◌, ◌*◌, drop, length, action, code_of, trace, trace_by, fenced_gaps, machine_of_mode, with_accesses}
use Rattle.thread_traces.proofs.walk.walked.Given as goal

-- the accesses so far, and then the trace from here, make the whole trace
abbrev pub invariant-loop-step : goal.invariant-loop-step
invariant-loop-step l = record {
  made : trace_by l.program (machine_of_mode l.program l.mode) (λ u. l.given) l.t
      ≡ with_accesses l.walk.accesses (trace (action l.program.threads l.t) (fenced_gaps (machine_of_mode l.program l.mode) l.t) (length (code_of l.program.threads l.t) - l.step)
      l.walk.section l.walk.last (drop l.walk.taken l.given));
  sections : l.walk.section ≤ 2 * l.step;
}
