-- What many proofs of this crate speak of, imported once.
pub use Rattle.std.proofs.Common.{Bool, Contains, IfSome, IsSome, IsTrue, List, None, Option, Some, [], add-one, ap, arith, drop, drop-cons, false, get_or, inl, inr, length}
pub use Rattle.std.proofs.Common.{length-set, refl, set, slice_get, subst, suc, sym, true, zero, ℕ, ◌++◌, ◌+◌, ◌<◌, ◌↔◌, ◌∙◌, ◌∷◌, ◌≡◌, ◌≢◌, ◌≤◌, ◌⊎◌}
pub use Rattle.std.proofs.lemmas.Bool.{cases_eq, cases_lt}
pub use Rattle.std.proofs.lemmas.List.{get_or-set_other, get_or-set_same, get_or_past, length_push}
pub use Rattle.std.proofs.lemmas.List.Elements.{Contains-append_left, Contains-get_or, Contains-push, Contains-push_cases}
pub use Rattle.std.proofs.lemmas.List.Quantifiers.{all_pairs_push}
pub use Rattle.std.proofs.lemmas.Option.{get_or_from_slice_get, same_Some, slice_get-get_or, slice_get_past, slice_get_read, slice_get_within}
pub use Rattle.std.specs.List.{AllPairs}
pub use Rattle.std.specs.Option.{option_map_or}
pub use Rattle.std.specs.Prelude.{slice_index}
pub use Rattle.bit_rows.proofs.Bits.{none_in_zero}
pub use Rattle.bit_rows.proofs.Written.{zeros_are_empty}
pub use Rattle.bit_rows.specs.Rows.{AreConnected, HasRound, IsIn, IsTransitive, Reaches, RowHas, RowsLead}
pub use Rattle.bit_rows.specs.declared.row.TheConstants.{ROW_BITS}
pub use Rattle.candidate_executions.proofs.Orders.Lists.{get_cases, get_set_other, get_set_same, get_some}
pub use Rattle.candidate_executions.specs.Candidates.{IsAccess, Writes}
pub use Rattle.candidate_executions.specs.Consistency.{IsCycle, IsOfMode, KeepsOrder, Leads, Precedes, SameThread}
pub use Rattle.candidate_executions.specs.Events.{ComesBefore}
pub use Rattle.candidate_executions.specs.Sketches.{IsBefore, IsKnownCycle, IsWhole, KnownEdgeOfMode, KnownRelates, given_to, with_pair}
pub use Rattle.candidate_executions.specs.Sketches.{with_source}
pub use Rattle.candidate_executions.specs.Traces.{Trace, entered, exchange_of, fenced_gaps, load_of, store_of, trace, traced, with_access}
pub use Rattle.candidate_executions.specs.declared.access.Access.{Access}
pub use Rattle.candidate_executions.specs.declared.event.Event.{Event, TheVariants.Access as At, TheVariants.Initial}
pub use Rattle.candidate_executions.specs.declared.event.Kind.{Kind}
pub use Rattle.gap_sets.specs.Gaps.{SetOfGaps}
pub use Rattle.thread_traces.proofs.Accesses.{IsGrown, below_is, grown_none, later}
pub use Rattle.thread_traces.proofs.KnownParts.{not_by, of_some}
pub use Rattle.known_edges.specs.ThreadOrder.{IsLaterIn}
pub use Rattle.thread_traces.specs.declared.thread_trace.ThreadTrace.{ThreadTrace}
pub use Rattle.tso_machine.specs.Modes.{machine_of_mode}
pub use Rattle.tso_machine.specs.declared.mode.Mode.{Mode, TheVariants.Fenced, TheVariants.Sequential}
pub use Rattle.tso_program.specs.Actions.{IsLocated, act, loaded}
pub use Rattle.tso_program.specs.Limits.{IsWithinLimits}
pub use Rattle.tso_program.specs.Listings.{action, code_of, instr_at, start_of}
pub use Rattle.tso_program.specs.declared.action.Action.{Action, TheVariants.Go, TheVariants.Read, TheVariants.Swap, TheVariants.Wait, TheVariants.Write}
pub use Rattle.tso_program.specs.declared.action.Local.{Local}
pub use Rattle.tso_program.specs.declared.instruction.Instr.{Instr}
pub use Rattle.tso_program.specs.declared.limits.TheConstants.{MAX_INSTRUCTIONS, MAX_LOCATIONS, MAX_THREADS}
pub use Rattle.tso_program.specs.declared.listing.Listing.{Listing}
pub use Rattle.program_sketches.specs.Choices.{IsOrdered, MayFollow, MayRead}
pub use Rattle.program_sketches.specs.Kept.{HasValuesFirst, IsLawful, KeepsTraces, view_of}
pub use Rattle.program_sketches.specs.Known.{HasNoCycle, IsInitialWrite, OrderPart, SourcePart}
pub use Rattle.program_sketches.specs.ProgramSketches.{ProgramSketch, access_in, mode_in, with_chosen}
pub use Rattle.known_edges.specs.Rounds.{AreRelated, GoesOnIn, HaveEvents, IsRound}
pub use Rattle.program_sketches.specs.TracedAccesses.{EachEnds}
pub use Rattle.known_edges.specs.Rows.{AreAccesses, AreBeyond, AreCounts, AreNumbered, AreOfSketch, AreOrderRows, AreRowsOf, AreSourceRows, AreStarts, AreWriteRows}
pub use Rattle.program_sketches.specs.TracedAccesses.{IsOfThreads}
pub use Rattle.known_edges.specs.Rows.{FitRow, HasOrder, HasWrites, HaveLocations, InOrder, IsAfter, IsEarly, IsRepresented, IsRowOf, IsWriteAt, KeepsTraceNumbers, NumberedTraces}
pub use Rattle.program_sketches.specs.TracedAccesses.{accesses_at, traced_access}
pub use Rattle.known_edges.specs.Rows.{ReadsBut, main_kind, union_rows}
pub use Rattle.known_edges.specs.declared.edge_rows.OrderRows.{OrderRows}
pub use Rattle.known_edges.specs.declared.edge_rows.SourceRows.{SourceRows}
