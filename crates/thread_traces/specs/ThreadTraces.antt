-- A thread's trace as it is made, an instruction at a time.
use Rattle.std.specs.Prelude.{◌≡◌, ◌≤◌, ◌<◌, ℕ, Bool, IfSome, true, false, List, ◌++◌, drop, length}
use Rattle.tso_program.specs.declared.action.Local.{Local}
use Rattle.tso_program.specs.declared.action.Action.{Action}
use Rattle.tso_program.specs.declared.listing.Listing.{Listing}
use Rattle.tso_program.specs.Listings.{start_of, action}
use Rattle.tso_machine.specs.Machine.{Machine}
use Rattle.candidate_executions.specs.Sketches.{read_by}
use Rattle.candidate_executions.specs.declared.access.Access.{Access}
use Rattle.candidate_executions.specs.Traces.{Trace, traced, stopped, trace_by}
use Rattle.thread_traces.specs.declared.thread_trace.ThreadTrace.{ThreadTrace}
use Rattle.thread_traces.specs.declared.walk.TraceSoFar.{TraceSoFar}
use Rattle.tso_program.specs.declared.limits.TheConstants.{MAX_ACCESSES}

-- a thread at its start
abbrev pub first_local : List ℕ → Local
first_local registers = record { place = 0; registers = registers; flag = false }

-- the trace with these accesses before its own
abbrev pub with_accesses : List Access → Trace → Trace
with_accesses accesses trace = record trace { accesses = accesses ++ trace.accesses }

-- the thread goes on as its trace does, or stops where that stops; the section is that of the instruction
abbrev pub GoesOn : ℕ → TraceSoFar → TraceSoFar → Action → List ℕ → Bool → Type 0
GoesOn section w next a given true = (rest : ℕ → Local → List ℕ → Trace) →
    with_accesses w.accesses (traced rest section w.last a (drop w.taken given)) ≡ with_accesses next.accesses (rest next.section next.last (drop next.taken given))
GoesOn section w next a given false = (next.accesses ≡ w.accesses) × (next.last ≡ w.last) ×
    ((rest : ℕ → Local → List ℕ → Trace) → traced rest section w.last a (drop w.taken given) ≡ stopped w.last (drop w.taken given))

-- the accesses of thread t under the given values, and its state where it stops; it starts with six registers
pub record IsTraceSoFarOf (p : Listing) (mode : Machine) (t : ℕ) (given : List ℕ) (w : TraceSoFar) : Type 0 where
  pub accesses : (trace_by p mode (λ u. given) t).accesses ≡ w.accesses
  pub last : (trace_by p mode (λ u. given) t).last ≡ w.last
  pub few : length w.accesses ≤ MAX_ACCESSES
  pub registers : length (start_of p.threads t).registers ≡ 6

-- the trace of thread t: the given values, its accesses under them, its state, and the location of the read where it stops
pub record IsThreadTraceOf (p : Listing) (mode : Machine) (t : ℕ) (given : List ℕ) (c : ThreadTrace) : Type 0 where
  pub given_is : c.given ≡ given
  pub accesses : (trace_by p mode (λ u. given) t).accesses ≡ c.accesses
  pub last : (trace_by p mode (λ u. given) t).last ≡ c.last
  pub next : c.next ≡ read_by (action p.threads t c.last)
  pub located : IfSome c.next (λ location. location < length p.memory)
  pub few : length c.accesses ≤ MAX_ACCESSES
  pub registers : length (start_of p.threads t).registers ≡ 6
