-- What many proofs of this crate speak of, imported once.
pub use Rattle.std.proofs.Common.{Bool, Contains, Global, IsSome, IsTrue, List, MatchOption, None, Option, Some, Vec, [], ap, arith, drop, false, get_or, inl, inr, length, map, not, refl, rules, set}
pub use Rattle.std.proofs.Common.{slice_get, subst, suc, sym, take, true, zero, ℕ, ◌++◌, ◌+◌, ◌<◌, ◌↔◌, ◌∙◌, ◌∷◌, ◌≡◌, ◌≢◌, ◌≤◌, ◌⊎◌}
pub use Rattle.std.proofs.lemmas.Bool.{cases_eq, cases_lt}
pub use Rattle.std.proofs.lemmas.List.{get_or-set_other, get_or-set_same, get_or_append_left, get_or_push, length-set, take_all, take_more}
pub use Rattle.std.proofs.lemmas.List.Elements.{Contains-append_left, Contains-get_or, Contains-push, Contains-push_cases}
pub use Rattle.std.proofs.lemmas.List.FromFn.{get_or-map-range_with_len, length-map-range_with_len}
pub use Rattle.std.proofs.lemmas.Option.{MatchOption-at_none, get_or_from_slice_get, same_Some, slice_get-get_or, slice_get_past, slice_get_read, slice_get_within}
pub use Rattle.std.proofs.lemmas.Result.{IfOk-weaker}
pub use Rattle.std.specs.Arc.{arc_value}
pub use Rattle.std.specs.List.{AllPairs, range_with_len, remove}
pub use Rattle.std.specs.Prelude.{IfSome, slice_index, slice_index_or, slice_set}
pub use Rattle.bit_rows.specs.Rows.{IsIn, RowHas}
pub use Rattle.candidate_executions.proofs.Candidates.EdgesAreDecidable.{same_event}
pub use Rattle.candidate_executions.proofs.Orders.Lists.{first_is_here, first_or_later, later_is_here, none_here}
pub use Rattle.candidate_executions.specs.Candidates.{IsAccess, Writes}
pub use Rattle.candidate_executions.specs.Consistency.{IsCycle, IsOfMode, Leads}
pub use Rattle.candidate_executions.specs.Events.{ComesBefore}
pub use Rattle.candidate_executions.specs.Sketches.{EndsInValues, IsBefore, IsKnownCycle, IsPair, IsSourceOf, IsWhole, KnownAtom, KnownEdge, KnownEdgeOfMode, KnownRelates, MustEndAs}
pub use Rattle.candidate_executions.specs.Sketches.{given_to}
pub use Rattle.candidate_executions.specs.Values.{IsValueOf}
pub use Rattle.candidate_executions.specs.declared.access.Access.{Access}
pub use Rattle.candidate_executions.specs.declared.event.Event.{Event, TheVariants.Access as At, TheVariants.Initial}
pub use Rattle.candidate_executions.specs.declared.event.Kind.{Kind}
pub use Rattle.program_sketches.proofs.BranchesCounted.{few_sources, few_values}
pub use Rattle.program_sketches.proofs.ChoicesCounted.{choices_few, events, events_has, few_accesses}
pub use Rattle.program_sketches.proofs.Chosen.{has_source_by}
pub use Rattle.known_edges.proofs.Found.{cycle_of_accesses, none_fenced, none_sequential}
pub use Rattle.program_sketches.proofs.Lawful.{more_kept, more_parts, new_kept_by, none_chosen, none_in, unchosen}
pub use Rattle.program_sketches.proofs.Lookups.{each_more, none_by, on_err_by}
pub use Rattle.known_edges.proofs.Numbered.{access_number, at_numbers, chosen_numbers, contained, courses_few, courses_short, later_test, never_last, number_access}
pub use Rattle.program_sketches.proofs.Traced.{access_same, ends_whole, is_access}
pub use Rattle.known_edges.proofs.Numbered.{number_exact, number_own, ordered_numbers, rows_of_kind}
pub use Rattle.program_sketches.proofs.Traced.{whole_ends}
pub use Rattle.known_edges.proofs.RowsKept.{begun, later_empty}
pub use Rattle.program_sketches.proofs.TracesKept.{reads_there, six_registers}
pub use Rattle.program_sketches.specs.Choices.{IsOrdered, IsRead, IsValueWritten, MayFollow, MayRead, ReadsThisValue}
pub use Rattle.program_sketches.specs.Kept.{IsLawful, KeepsTraces, view_of}
pub use Rattle.program_sketches.specs.Known.{HasCycle, HasNoCycle}
pub use Rattle.program_sketches.specs.ProgramSketches.{ProgramSketch, access_in, mode_in, nothing_chosen, trace_in, with_chosen}
pub use Rattle.program_sketches.specs.TracedAccesses.{EachEnds, IsOfThreads, accesses_at, traced_access}
pub use Rattle.known_edges.specs.Rows.{AreAccesses, HasWrites, IsRepresented, IsRowOf, IsWriteAt, NumberedTraces, union_rows}
pub use Rattle.program_sketches.specs.Sizes.{HaveAllRegisters}
pub use Rattle.program_sketches.specs.Writes.{HasLater, IsLastWith, WritesTo}
pub use Rattle.rowless_sketches.proofs.Ends.{ends_only, in_values, of_values, registers_shown}
pub use Rattle.rowless_sketches.specs.Completions.{EachRunCompletes, IsEdgeOfEach, IsRefuted, MustEndSo, NeedNotEnd}
pub use Rattle.rowless_sketches.specs.Endings.{EndsSo, HasEnds, IsOwn, SketchMayEndWith, final_registers}
pub use Rattle.rowless_sketches.specs.Knowledge.{IsKnownTruth, Knows}
pub use Rattle.thread_traces.proofs.KnownParts.{no, not_by, of_some, yes}
pub use Rattle.thread_traces.proofs.Walks.{IsWalk, contains_remove, distinct_more, pairs_drop, path_drop, path_more, round, walk_begins}
pub use Rattle.thread_traces.specs.ThreadTraces.{IsThreadTraceOf}
pub use Rattle.thread_traces.specs.declared.thread_trace.ThreadTrace.{ThreadTrace}
pub use Rattle.tso_machine.specs.Modes.{machine_of_mode}
pub use Rattle.tso_machine.specs.declared.mode.Mode.{Mode}
pub use Rattle.tso_program.specs.Shown.{ShowsValues, asked, show_registers, shown_registers, shown_value, told}
pub use Rattle.tso_program.specs.Tree.{Tree}
pub use Rattle.tso_program.specs.declared.atom.Atom.{Atom}
pub use Rattle.tso_program.specs.declared.limits.TheConstants.{MAX_INSTRUCTIONS, MAX_LOCATIONS}
pub use Rattle.tso_program.specs.declared.listing.Listing.{Listing}
pub use Rattle.tso_program.specs.declared.outcome.Outcome.{Outcome}
pub use Rattle.tso_program.specs.declared.shown.Shown.{Shown, TheVariants.Truth}
pub use Rattle.exec_axioms.specs.Complete.{HasItsSource, IsComplete, IsOrderedWith}
pub use Rattle.exec_axioms.specs.Cycles.{EachGoesOn, IsSimpleCycle, IsSuccessor}
pub use Rattle.exec_axioms.specs.Internal.Listed.{FollowInOrder, HasNumberIn}
pub use Rattle.exec_axioms.specs.LastValues.{AreLastValues, Differ, IsLastValue, MayEndBy}
