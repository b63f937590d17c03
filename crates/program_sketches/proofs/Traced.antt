-- Accesses and ends of threads, by what is kept of them and by the definition.
use Rattle.program_sketches.proofs.Vocabulary.{◌≡◌, ◌↔◌, ℕ, ◌<◌, ◌≤◌, List, [], Option, Some, None, slice_get, length, refl, sym, ap, ◌∙◌, arith, option_map_or, Listing, Event, Initial, At, Mode, ThreadTrace, ProgramSketch, mode_in, trace_in}
use Rattle.program_sketches.proofs.Vocabulary.{access_in, view_of, KeepsTraces, accesses_at, traced_access, IsOfThreads, EachEnds, IsAccess, IsWhole, given_to, next_read, none_past_by}
use Rattle.program_sketches.proofs.TracesKept.{trace_accesses, no_accesses, no_trace, trace_next, past_next}

pub none_past : (s : ProgramSketch) (u i : ℕ) → length s.program.threads ≤ u → i < length (trace_in s u).accesses → ⊥
none_past s u i h l = none_past_by s.program (mode_in s) (given_to s.chosen) u i h l

module _ (p : Listing) (mode : Mode) (thread_traces : List ThreadTrace) (sources pairs : List (Event × Event)) (kept : KeepsTraces p mode thread_traces sources pairs) where
  abbrev s : ProgramSketch
  s = view_of p mode thread_traces sources pairs

  pub accesses_same : (t : ℕ) → accesses_at thread_traces t ≡ (trace_in s t).accesses
  accesses_same t = go (slice_get thread_traces t) refl
    where
      go : (o : Option ThreadTrace) → slice_get thread_traces t ≡ o → accesses_at thread_traces t ≡ (trace_in s t).accesses
      go (Some c) e = ap (λ q. option_map_or (λ (x : ThreadTrace). x.accesses) q []) e ∙ sym (trace_accesses p mode thread_traces sources pairs kept t c e)
      go None e = ap (λ q. option_map_or (λ (x : ThreadTrace). x.accesses) q []) e ∙ sym (no_accesses p mode thread_traces sources pairs kept t e)

  pub is_access : (e : Event) → IsAccess s.program (mode_in s) (given_to s.chosen) e ↔ IsOfThreads thread_traces e
  is_access (Initial l) = (λ h. h, λ h. h)
  is_access (At t i) = let same = ap length (accesses_same t) in (λ h. omega arith, λ h. omega arith)

  pub access_same : (e : Event) → IsOfThreads thread_traces e → traced_access thread_traces e ≡ access_in s e
  access_same (Initial l) h = absurd h
  access_same (At t i) h = ap (λ xs. slice_get xs i) (accesses_same t)

  -- once each read has its value, each thread has come to its end
  pub whole_ends : IsWhole s.program (mode_in s) s.chosen → EachEnds thread_traces
  whole_ends whole t c at = (kept.traces_are t c at).next ∙ sym (trace_next p mode thread_traces sources pairs kept t c at) ∙ whole t

  -- and the other way round
  pub ends_whole : EachEnds thread_traces → IsWhole s.program (mode_in s) s.chosen
  ends_whole ends t = go (slice_get thread_traces t) refl
    where
      go : (o : Option ThreadTrace) → slice_get thread_traces t ≡ o → next_read s.program (mode_in s) s.chosen t ≡ None
      go (Some c) e = trace_next p mode thread_traces sources pairs kept t c e ∙ sym (kept.traces_are t c e).next ∙ ends t c e
      go None e = past_next p mode thread_traces sources pairs kept t (no_trace p mode thread_traces sources pairs kept t e)
