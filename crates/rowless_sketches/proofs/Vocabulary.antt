-- What many proofs of this crate speak of, imported once.
pub use Rattle.std.proofs.Common.{Bool, Contains, Err, IfOk, IsSome, IsTrue, List, None, Ok, Option, Result, Some, [], add-one, ap, arith, drop, drop-cons, false, get_or, inl, inr, length, not, refl}
pub use Rattle.std.proofs.Common.{set, slice_get, subst, sym, take, true, vec_len, ℕ, ◌++◌, ◌+◌, ◌<◌, ◌↔◌, ◌∙◌, ◌∷◌, ◌≡◌, ◌≢◌, ◌≤◌, ◌⊎◌}
pub use Rattle.std.proofs.lemmas.Bool.{cases_eq, cases_lt, not-true, not_from_false}
pub use Rattle.std.proofs.lemmas.List.{drop_all, get_or-set_same, get_or_append_left, length-append, length-map, length-set, length_push}
pub use Rattle.std.proofs.lemmas.List.Elements.{Contains-append_left, Contains-get_or}
pub use Rattle.std.proofs.lemmas.List.FromFn.{get_or-map-range_with_len, length-map-range_with_len}
pub use Rattle.std.proofs.lemmas.Option.{none-some, same_Some, slice_get-get_or, slice_get_past, slice_get_read, slice_get_within, unwrap_or-slice_get}
pub use Rattle.std.specs.Global.{Vec}
pub use Rattle.std.specs.List.{AllPairs}
pub use Rattle.std.specs.Prelude.{IfSome, OnErr, is_some, option_and_then, option_to_list, slice_index, unwrap_or, ◌==◌}
pub use Rattle.candidate_executions.proofs.Orders.Lists.{get_set_other, get_set_same, some_value}
pub use Rattle.candidate_executions.specs.Candidates.{Writes}
pub use Rattle.candidate_executions.specs.Events.{ComesBefore}
pub use Rattle.candidate_executions.specs.Sketches.{EndsAs, EndsInValues, IsBefore, IsSourceOf, IsWhole, KnownFromReads, KnownRelates, MayBeLast, MustEndAs, Sketch, given_to, next_read, with_value}
pub use Rattle.candidate_executions.specs.Values.{IsValueOf}
pub use Rattle.candidate_executions.specs.declared.access.Access.{Access}
pub use Rattle.candidate_executions.specs.declared.event.Event.{Event, TheVariants.Access as At, TheVariants.Initial}
pub use Rattle.program_sketches.proofs.Traced.{none_past}
pub use Rattle.program_sketches.proofs.Chosen.{found_source, has_source_by, once, pair_kept, source_kept}
pub use Rattle.program_sketches.proofs.KnownParts.{last_part, pair_by, to_relates}
pub use Rattle.program_sketches.proofs.Lawful.{given_at, given_set, more_kept, more_parts, none_in}
pub use Rattle.program_sketches.proofs.Lookups.{each_index}
pub use Rattle.program_sketches.proofs.Traced.{accesses_same, ends_whole, whole_ends}
pub use Rattle.program_sketches.proofs.TracesKept.{no_accesses, no_trace, past_next, reads_there, trace_accesses, trace_last, trace_next}
pub use Rattle.program_sketches.specs.Choices.{CanFollow, CanRead, IsRead, ReadsThisValue}
pub use Rattle.program_sketches.specs.Kept.{AreOtherTwo, IsLawful, KeepsTraces, given_in, given_lists, view_of}
pub use Rattle.program_sketches.specs.Known.{IsInitialWrite}
pub use Rattle.program_sketches.specs.ProgramSketches.{ProgramSketch, access_in, mode_in, trace_in, with_chosen}
pub use Rattle.program_sketches.specs.TracedAccesses.{traced_access}
pub use Rattle.program_sketches.specs.Writes.{HasLater, IsLastWith, IsWritten, IsWrittenBy, WritesTo}
pub use Rattle.program_sketches.specs.declared.known_truth.Knowledge.{Knowledge}
pub use Rattle.thread_traces.proofs.KnownParts.{no, not_by, of_some, yes}
pub use Rattle.thread_traces.proofs.ValuesGiven.{given_back}
pub use Rattle.thread_traces.specs.ThreadTraces.{IsThreadTraceOf}
pub use Rattle.thread_traces.specs.TraceTrees.{IsGivenMore, IsTraceTree}
pub use Rattle.thread_traces.specs.declared.thread_trace.ThreadTrace.{ThreadTrace}
pub use Rattle.tso_machine.specs.Modes.{machine_of_mode}
pub use Rattle.tso_machine.specs.declared.mode.Mode.{Mode}
pub use Rattle.tso_program.specs.Nodes.{AndOf, Half, OrOf, build, formula_tree, tree_again}
pub use Rattle.tso_program.specs.Shown.{ShowsValues, asked, show, show_registers, shown_registers, shown_value}
pub use Rattle.tso_program.specs.Tree.{Tree}
pub use Rattle.tso_program.specs.declared.atom.Atom.{Atom}
pub use Rattle.tso_program.specs.declared.listing.Listing.{Listing}
pub use Rattle.tso_program.specs.declared.outcome.Outcome.{Outcome}
pub use Rattle.tso_program.specs.declared.shown.Shown.{Shown, TheVariants.Truth}
pub use Rattle.rowless_sketches.specs.Completions.{EndsOnlyAs}
pub use Rattle.rowless_sketches.specs.Endings.{HasEndOf, IsOfThread, IsOwn, MayBe, MayBeBy, final_registers}
pub use Rattle.rowless_sketches.specs.Internal.KnownWalk.{KnowsAll, after_node}
pub use Rattle.rowless_sketches.specs.Internal.SourcesListed.{AreListedTo}
pub use Rattle.rowless_sketches.specs.Knowledge.{IsKnownTruth, Knows}
pub use Rattle.rowless_sketches.specs.RowlessSketches.{AreSomeLists, AreSources, IsValueMarkOf, LacksSource, MarkedThread}
