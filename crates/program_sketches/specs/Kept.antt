-- What a sketch keeps.
use Rattle.std.specs.Prelude.{◌≡◌, ◌≢◌, ◌⊎◌, ℕ, List, Some, [], slice_get, unwrap_or, map, length, Contains}
use Rattle.std.specs.List.{AllPairs}
use Rattle.tso_program.specs.declared.listing.Listing.{Listing}
use Rattle.tso_program.specs.Limits.{IsWithinLimits}
use Rattle.candidate_executions.specs.declared.access.Access.{Access}
use Rattle.candidate_executions.specs.declared.event.Event.{Event}
use Rattle.candidate_executions.specs.Values.{IsValueOf}
use Rattle.candidate_executions.specs.Sketches.{IsSketch, IsWhole}
use Rattle.tso_machine.specs.declared.mode.Mode.{Mode}
use Rattle.thread_traces.specs.declared.thread_trace.ThreadTrace.{ThreadTrace}
use Rattle.tso_machine.specs.Modes.{machine_of_mode}
use Rattle.program_sketches.specs.ProgramSketches.{ProgramSketch, mode_in, access_in}
use Rattle.thread_traces.specs.ThreadTraces.{IsThreadTraceOf}

-- two pairs of writes are not of the same two
abbrev pub AreOtherTwo : Event × Event → Event × Event → Type 0
AreOtherTwo a b = (a ≢ b) × (a ≢ (b.1, b.0))

-- what is chosen is of the program, and nothing is chosen twice
pub record IsLawful (s : ProgramSketch) : Type 0 where
  pub within : IsWithinLimits s.program.threads s.program.memory
  pub is_sketch : IsSketch s.program (mode_in s) s.chosen
  -- a value that is given is one of its location's
  pub values : (e : Event) (x : Access) (v : ℕ) → access_in s e ≡ Some x → x.read ≡ Some v → IsValueOf s.program x.location v
  -- a read has one source
  pub one_source : AllPairs (λ (a b : Event × Event). a.0 ≢ b.0) s.chosen.sources
  -- two writes have one order
  pub one_order : AllPairs AreOtherTwo s.chosen.pairs

-- values come first: sources and pairs are chosen once each read has its value
pub record HasValuesFirst (s : ProgramSketch) : Type 0 where
  pub whole : (d e : Event) → Contains s.chosen.sources (d, e) ⊎ Contains s.chosen.pairs (d, e) → IsWhole s.program (mode_in s) s.chosen

-- the values given to each thread
abbrev pub given_lists : List ThreadTrace → List (List ℕ)
given_lists thread_traces = map (λ (c : ThreadTrace). c.given) thread_traces

-- the values given to thread t, none where there is no such thread
abbrev pub given_in : List ThreadTrace → ℕ → List ℕ
given_in thread_traces t = unwrap_or (slice_get (given_lists thread_traces) t) []

-- what a program, a mode, the threads' traces and the chosen sources and pairs are seen as
abbrev pub view_of : Listing → Mode → List ThreadTrace → List (Event × Event) → List (Event × Event) → ProgramSketch
view_of p mode thread_traces sources pairs = record { program = p; mode = mode; chosen = record { given = given_lists thread_traces; sources = sources; pairs = pairs } }

-- each thread's trace is the one under its given values
pub record KeepsTraces (p : Listing) (mode : Mode) (thread_traces : List ThreadTrace) (sources pairs : List (Event × Event)) : Type 0 where
  pub lawful : IsLawful (view_of p mode thread_traces sources pairs)
  pub one_each : length thread_traces ≡ length p.threads
  pub traces_are : (t : ℕ) (c : ThreadTrace) → slice_get thread_traces t ≡ Some c → IsThreadTraceOf p (machine_of_mode p mode) t c.given c
