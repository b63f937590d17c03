-- What many proofs of this crate speak of, imported once.
pub use Rattle.std.proofs.Common.{Bool, Contains, IsSome, List, None, Option, Some, [], ap, append-nil, append_assoc, ap₂, arith, cond, drop, eq-eqb, eqb-true, false, get_or, if◌then◌else◌, inl, inr}
pub use Rattle.std.proofs.Common.{length, length-append, length-set, lit<, map, ne_eqb, not, option_and_then, option_map, refl, set, slice_get, slice_index, subst, suc, sym, take, true, zero, ℕ}
pub use Rattle.std.proofs.Common.{◌++◌, ◌+◌, ◌-◌, ◌<◌, ◌==◌, ◌↔◌, ◌∙◌, ◌∷◌, ◌≡◌, ◌≢◌, ◌≤◌, ◌⊎◌}
pub use Rattle.std.proofs.lemmas.Bool.{cases_eq, cases_lt, cases_order, eqb-false}
pub use Rattle.std.proofs.lemmas.Grind.{same_number_lists}
pub use Rattle.std.proofs.lemmas.List.{length-map, map_push}
pub use Rattle.std.proofs.lemmas.List.Elements.{Contains-append_cases, Contains-append_left, Contains-append_right, Contains-get_or}
pub use Rattle.std.proofs.lemmas.List.FromFn.{get_or-map-range_with_len, length-map-range_with_len}
pub use Rattle.std.proofs.lemmas.Option.{get_or_from_slice_get, same_Some, slice_get-get_or, slice_get-map, slice_get_past, slice_get_within}
pub use Rattle.std.specs.List.{AllPairs, count_by, range_with_len}
pub use Rattle.std.specs.Option.{option_map_or}
pub use Rattle.std.specs.Prelude.{unwrap_or}
pub use Rattle.tso_machine.proofs.StepCases.{exec_by, flush_by}
pub use Rattle.tso_machine.specs.Machine.{HasEnded, IsRun, Machine, SequentialMachine, State, StoreBufferMachine, buffered, direct, flushed, found, newest, no_gaps, or_else, outcome_at, past_gap, put}
pub use Rattle.tso_machine.specs.Machine.{run, start, step, when_empty}
pub use Rattle.tso_machine.specs.declared.label.Label.{Label, TheVariants.Exec, TheVariants.Flush}
pub use Rattle.tso_machine.specs.declared.label.Pending.{Pending}
pub use Rattle.tso_program.specs.Actions.{act, jumped, loaded}
pub use Rattle.tso_program.specs.Fences.{Gaps}
pub use Rattle.tso_program.specs.Instructions.{number}
pub use Rattle.tso_program.specs.Limits.{JumpForward}
pub use Rattle.tso_program.specs.Listings.{action, code_of, instr_at, start_of}
pub use Rattle.tso_program.specs.declared.action.Action.{Action, TheVariants.Go, TheVariants.Read, TheVariants.Stop, TheVariants.Swap, TheVariants.Wait, TheVariants.Write}
pub use Rattle.tso_program.specs.declared.action.Local.{Local}
pub use Rattle.tso_program.specs.declared.instruction.Instr.{Instr, TheVariants.Copy, TheVariants.Je, TheVariants.Jmp, TheVariants.Jne, TheVariants.LoadImm, TheVariants.Store, TheVariants.StoreImm}
pub use Rattle.tso_program.specs.declared.instruction.Instr.{TheVariants.Xchg}
pub use Rattle.tso_program.specs.declared.instruction.Reg.{Reg}
pub use Rattle.tso_program.specs.declared.listing.Listing.{Listing}
pub use Rattle.tso_program.specs.declared.listing.Thread.{Thread}
pub use Rattle.tso_program.specs.declared.outcome.Outcome.{Outcome}
pub use mathlib.Core.Path.{fun_ext}
pub use Rattle.candidate_executions.specs.Candidates.{Candidate, EndsWith, HasOutcome, HasShownOutcome, IsCandidate, Writes, access, access_by, trace_of}
pub use Rattle.candidate_executions.specs.Consistency.{Edge, FromReads, IsAcyclic, IsConsistent, IsCycle, IsOfMode, KeepsOrder, Leads, Precedes, ReadsFrom, Relates, SameThread, WriteOrder}
pub use Rattle.candidate_executions.specs.Laws.{AKnownCycleIsACycle, AKnownEdgeIsAnEdge, APairKeepsASketch, ASourceKeepsASketch, AValueKeepsASketch, ConsistentCandidatesReadHeldValues, CyclesAreOfAccesses, EachCompletionEndsSo}
pub use Rattle.candidate_executions.specs.Laws.{EachCompletionHasASettledSource, EachCompletionHasASource, EachCompletionHasAValue, EachCompletionHasAnOrder, EachCompletionHasTheValues, EachConsistentCompletionHasAHeldValue, EmptyIsASketch, EveryCandidateCompletesEmpty}
pub use Rattle.candidate_executions.specs.Laws.{EveryCandidateIsARun, EveryOrderIsARun, EveryRunIsACandidate, EveryRunIsACompletion, HasItsCandidate, HeldValuesAreValues, KeptOrderIsTold}
pub use Rattle.candidate_executions.specs.Laws.{KnownCyclesAreOfAccesses, NoEdgeLeadsIntoInitial, NoKnownEdgeLeadsIntoInitial, OutcomesAreOne, ReadsHeldValues, SectionsTellFences, WholeSketchesAreSettled}
pub use Rattle.candidate_executions.specs.Orders.{IsOrder, Steps, counted, execs, flush_of, flushes, followed_union, labels_along, made_at, steps, steps_by, to_ends}
pub use Rattle.candidate_executions.specs.Paths.{IsFenceOrExchange, IsParted, IsStepOf, LiesBetween, executed, is_access, path, path_of}
pub use Rattle.candidate_executions.specs.RunCandidates.{ArriveInOrder, Arrives, IsCandidateOf, IsStored, Mark, Origins, ReadsValue, Takes, buffered_marks, buffered_origins, direct_marks}
pub use Rattle.candidate_executions.specs.RunCandidates.{direct_origins, first_origins, flushed_marks, flushed_origins, found_write, marks, marks_at, marks_of, origins_after, with_made, with_memory}
pub use Rattle.candidate_executions.specs.RunCandidates.{with_waiting}
pub use Rattle.candidate_executions.specs.Settled.{IsOfOther, IsSettled, MayStillWrite, MayStore}
pub use Rattle.candidate_executions.specs.Sketches.{Completes, IsBefore, IsConsistentCompletion, IsKnownCycle, IsPair, IsPrefixOf, IsSketch, IsSourceOf, IsWhole, KnownEdge, KnownEdgeOfMode}
pub use Rattle.candidate_executions.specs.Sketches.{KnownFromReads, KnownRelates, Sketch, empty_sketch, given_to, next_read, read_by, with_pair, with_source, with_value}
pub use Rattle.candidate_executions.specs.Traces.{Trace, entered, exchange_of, fenced_gaps, load_of, stopped, store_of, trace, trace_by, traced, with_access}
pub use Rattle.candidate_executions.specs.Values.{IsHeldValue, IsKnown, IsValueOf}
pub use Rattle.candidate_executions.specs.declared.access.Access.{Access}
pub use Rattle.candidate_executions.specs.declared.event.Event.{Event, TheVariants.Access as At, TheVariants.Initial}
pub use Rattle.candidate_executions.specs.declared.event.Kind.{Kind}
