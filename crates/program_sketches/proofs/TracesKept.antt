-- The trace that is kept of each thread is the trace under its given values.
use Rattle.program_sketches.proofs.Vocabulary.{◌≡◌, ℕ, ◌<◌, ◌≤◌, List, [], Some, None, slice_get, length, ap, ◌∙◌, subst, inl, inr, IsSome, arith, cases_lt, Listing, action, code_of, start_of, Event, trace, fenced_gaps, get_some, Mode, ThreadTrace, machine_of_mode}
use Rattle.program_sketches.proofs.Vocabulary.{ProgramSketch, trace_in, given_in, view_of, KeepsTraces, HaveAllRegisters}
use Rattle.candidate_executions.specs.Sketches as sketches
use Rattle.program_sketches.proofs.Lawful.{given_at}
use Rattle.thread_traces.proofs.TracesKept.{past_end, no_code, no_action}

module _ (p : Listing) (mode : Mode) (thread_traces : List ThreadTrace) (sources pairs : List (Event × Event)) (kept : KeepsTraces p mode thread_traces sources pairs) where
  abbrev s : ProgramSketch
  s = view_of p mode thread_traces sources pairs

  pub trace_accesses : (t : ℕ) (c : ThreadTrace) → slice_get thread_traces t ≡ Some c → (trace_in s t).accesses ≡ c.accesses
  trace_accesses t c e =
      ap (λ given. (trace (action p.threads t) (fenced_gaps (machine_of_mode p mode) t) (length (code_of p.threads t)) 0 (start_of p.threads t) given).accesses) (given_at thread_traces t c e)
      ∙ (kept.traces_are t c e).accesses

  pub trace_last : (t : ℕ) (c : ThreadTrace) → slice_get thread_traces t ≡ Some c → (trace_in s t).last ≡ c.last
  trace_last t c e =
      ap (λ given. (trace (action p.threads t) (fenced_gaps (machine_of_mode p mode) t) (length (code_of p.threads t)) 0 (start_of p.threads t) given).last) (given_at thread_traces t c e)
      ∙ (kept.traces_are t c e).last

  pub no_trace : (t : ℕ) → slice_get thread_traces t ≡ None → length p.threads ≤ t
  no_trace t e = let h = past_end thread_traces t e in let same = kept.one_each in omega arith

  pub no_accesses : (t : ℕ) → slice_get thread_traces t ≡ None → (trace_in s t).accesses ≡ []
  no_accesses t e =
      ap (λ code. (trace (action p.threads t) (fenced_gaps (machine_of_mode p mode) t) (length code) 0 (start_of p.threads t) (given_in thread_traces t)).accesses)
      (no_code p.threads t (no_trace t e))

  pub trace_next : (t : ℕ) (c : ThreadTrace) → slice_get thread_traces t ≡ Some c →
      sketches.next_read p (machine_of_mode p mode) s.chosen t ≡ sketches.read_by (action p.threads t c.last)
  trace_next t c e = ap (λ l. sketches.read_by (action p.threads t l)) (trace_last t c e)

  pub past_next : (t : ℕ) → length p.threads ≤ t → sketches.next_read p (machine_of_mode p mode) s.chosen t ≡ None
  past_next t h = ap sketches.read_by (no_action p.threads t (trace_in s t).last h)

  -- a thread with a next read is there
  pub reads_there : (t : ℕ) → IsSome (sketches.next_read p (machine_of_mode p mode) s.chosen t) → t < length thread_traces
  reads_there t some = elim (cases_lt t (length thread_traces)) [
    | inl h ↦ h
    | inr h ↦ (let same = kept.one_each in
        let none : IsSome {T = ℕ} None = subst (λ o. IsSome o) (past_next t (omega arith)) some in absurd (cc))
  ]

  -- each thread has six registers
  pub six_registers : HaveAllRegisters p.threads
  six_registers t h = (let same = kept.one_each in let (c, at) = get_some thread_traces t (omega arith) in (kept.traces_are t c at).registers)
