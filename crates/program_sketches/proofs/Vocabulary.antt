-- What many proofs of this crate speak of, imported once.
pub use Rattle.std.proofs.Common.{Bool, Contains, Err, IsSome, IsTrue, List, None, Ok, Option, Result, Some, [], ap, arith, false, get_or, inl, inr, length}
pub use Rattle.std.proofs.Common.{length-set, map, refl, set, slice_get, subst, suc, sum_by, sym, take, true, zero, ℕ, ◌*◌, ◌++◌, ◌+◌, ◌-◌, ◌<◌, ◌↔◌, ◌∙◌, ◌∷◌, ◌≡◌, ◌≢◌, ◌≤◌, ◌⊎◌}
pub use Rattle.std.proofs.lemmas.Bool.{cases_eq, cases_lt}
pub use Rattle.std.proofs.lemmas.List.{length-append, length-map, take_all}
pub use Rattle.std.proofs.lemmas.List.Elements.{Contains-append_left, Contains-append_right, Contains-get_or}
pub use Rattle.std.proofs.lemmas.List.Quantifiers.{all_pairs_push}
pub use Rattle.std.proofs.lemmas.List.Sums.{get_or-le-sum_by, sum_by-cons}
pub use Rattle.std.proofs.lemmas.Option.{get_or_from_slice_get, none-some, same_Some, slice_get-map, slice_get_within}
pub use Rattle.std.specs.List.{AllPairs, remove}
pub use Rattle.std.specs.Option.{MatchOption, is_some, option_map_or}
pub use Rattle.std.specs.Prelude.{option_map, unwrap_or}
pub use Rattle.tso_program.proofs.Advance.{Advances, advance}
pub use Rattle.candidate_executions.proofs.Orders.Lists.{first_is_here, first_or_later, get_cases, get_set_other, get_set_same, get_some, later_is_here, mapped, some_value}
pub use Rattle.candidate_executions.specs.Candidates.{IsAccess, access_by}
pub use Rattle.candidate_executions.specs.Consistency.{Precedes}
pub use Rattle.candidate_executions.specs.Events.{ComesBefore}
pub use Rattle.candidate_executions.specs.Sketches.{IsBefore, IsPair, IsSourceOf, IsWhole, KnownFromReads, KnownRelates, Sketch, given_to, next_read, read_by}
pub use Rattle.candidate_executions.specs.Traces.{Trace, entered, exchange_of, fenced_gaps, load_of, store_of, trace, traced, with_access}
pub use Rattle.candidate_executions.specs.Values.{IsKnown, IsValueOf}
pub use Rattle.candidate_executions.specs.declared.access.Access.{Access}
pub use Rattle.candidate_executions.specs.declared.event.Event.{Event, TheVariants.Access as At, TheVariants.Initial}
pub use Rattle.candidate_executions.specs.declared.event.Kind.{Kind}
pub use Rattle.thread_traces.proofs.Accesses.{none_past_by}
pub use Rattle.thread_traces.proofs.EventsCounted.{all_events, all_events_few, all_events_has, code_there, few_of, first_pairs, later_pairs, rows, rows_many, stays}
pub use Rattle.thread_traces.proofs.KnownParts.{of_some}
pub use Rattle.thread_traces.specs.ThreadOrder.{IsKeptBy}
pub use Rattle.thread_traces.specs.declared.thread_trace.ThreadTrace.{ThreadTrace}
pub use Rattle.tso_machine.specs.Modes.{machine_of_mode}
pub use Rattle.tso_machine.specs.declared.mode.Mode.{Mode}
pub use Rattle.tso_program.specs.Actions.{loaded}
pub use Rattle.tso_program.specs.Limits.{IsWithinLimits}
pub use Rattle.tso_program.specs.Listings.{accesses_of, action, code_of, gap_count, gaps_of_thread, instr_at, start_of}
pub use Rattle.tso_program.specs.declared.action.Action.{Action, TheVariants.Go, TheVariants.Read, TheVariants.Stop, TheVariants.Swap, TheVariants.Wait, TheVariants.Write}
pub use Rattle.tso_program.specs.declared.action.Local.{Local}
pub use Rattle.tso_program.specs.declared.instruction.Instr.{Instr}
pub use Rattle.tso_program.specs.declared.limits.TheConstants.{MAX_ACCESSES}
pub use Rattle.tso_program.specs.declared.listing.Listing.{Listing}
pub use Rattle.tso_program.specs.declared.listing.Thread.{Thread}
pub use Rattle.program_sketches.specs.Choices.{CanFollow, CanRead, HasSource}
pub use Rattle.program_sketches.specs.Kept.{AreOtherTwo, HasValuesFirst, IsLawful, KeepsTraces, given_in, given_lists, view_of}
pub use Rattle.program_sketches.specs.Known.{IsInitialWrite, OrderPart, SourcePart}
pub use Rattle.program_sketches.specs.ProgramSketches.{ProgramSketch, access_in, mode_in, nothing_chosen, trace_in, with_chosen}
pub use Rattle.program_sketches.specs.TracedAccesses.{EachEnds}
pub use Rattle.program_sketches.specs.TracedAccesses.{IsOfThreads}
pub use Rattle.program_sketches.specs.TracedAccesses.{accesses_at, traced_access}
pub use Rattle.program_sketches.specs.Sizes.{HaveAllRegisters, choice_count, most_choices, most_sources, most_values}
