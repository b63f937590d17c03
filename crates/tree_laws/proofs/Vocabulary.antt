-- What many proofs of this crate speak of, imported once.
pub use Rattle.std.proofs.Common.{Bool, Contains, IsSome, List, None, Option, Some, [], ap, arith, false, get_or, inl, inr, is_some, length, lit<, map, nat_eq, refl, slice_get, slice_index}
pub use Rattle.std.proofs.Common.{subst, suc, sym, true, zero, zero-add, ℕ, ◌+◌, ◌<◌, ◌||◌, ◌↔◌, ◌∙◌, ◌∷◌, ◌≡◌, ◌≢◌, ◌≤◌, ◌⊎◌}
pub use Rattle.std.proofs.lemmas.Bool.{cases_Bool, not-true, not_from_false}
pub use Rattle.std.proofs.lemmas.Bool.Decides.{nat_tests}
pub use Rattle.std.proofs.lemmas.List.Elements.{All-cons, All-contains, All-contains_itself, All-filter, All-nil, All-weaker, filter_passes}
pub use Rattle.std.proofs.lemmas.List.Kept.{AllPairs-from_increasing, IsStrictlyIncreasing-filter}
pub use Rattle.std.proofs.lemmas.Option.{get_or_from_slice_get, same_Some, slice_get_within}
pub use Rattle.std.specs.Cmp.{nat_cmp_total}
pub use Rattle.std.specs.List.{AllPairs, filter, list_any, range_with_len}
pub use Rattle.std.specs.List.Sorted.{IsStrictlyIncreasing}
pub use Rattle.std.specs.Ordering.{eq_by_cmp, nat_cmp}
pub use Rattle.candidate_executions.proofs.FromRuns.OtherSections.{also, bare, threads_alike, writes}
pub use Rattle.candidate_executions.proofs.Orders.Lists.{first_or_later, some_value}
pub use Rattle.candidate_executions.proofs.Sketches.Choices.{a_pair_keeps_a_sketch, a_source_keeps_a_sketch, a_value_keeps_a_sketch, each_has_a_value, each_has_an_order}
pub use Rattle.candidate_executions.proofs.Sketches.Choices.{empty_is_a_sketch}
pub use Rattle.candidate_executions.proofs.Sketches.SettledSources.{each_has_a_settled_source, whole_is_settled}
pub use Rattle.candidate_executions.specs.Candidates.{Candidate, Writes, access_by}
pub use Rattle.candidate_executions.specs.Events.{ComesBefore}
pub use Rattle.candidate_executions.specs.Settled.{IsSettled, MayStillWrite}
pub use Rattle.candidate_executions.specs.Sketches.{Completes, EndsAs, EndsInValues, IsBefore, IsConsistentCompletion, IsKnownCycle, IsPair, IsSketch, IsSourceOf, IsWhole, KnownAtom, KnownEdgeOfMode}
pub use Rattle.candidate_executions.specs.Sketches.{KnownFromReads, KnownRelates, MayBeLast, MustEndAs, Sketch, empty_sketch, given_to, next_read, read_by, stopped, with_pair, with_source, with_value}
pub use Rattle.candidate_executions.specs.Traces.{entered, exchange_of, load_of, store_of, trace, trace_by, traced}
pub use Rattle.candidate_executions.specs.Values.{IsHeldValue, IsValueOf, Occurs}
pub use Rattle.candidate_executions.specs.declared.access.Access.{Access}
pub use Rattle.candidate_executions.specs.declared.event.Event.{Event, TheVariants.Access as At, TheVariants.Initial}
pub use Rattle.candidate_executions.specs.declared.event.Kind.{Kind}
pub use Rattle.cert_forest.specs.StoreBuffering.{around, certificate, cover_of, first_first, first_waits, gap_tree, second_first, second_waits, sequential_runs, stores_first}
pub use Rattle.cert_forest.specs.Trees.{Bound, Cover, Covers, Cycle, Gap, GapTrees, Known, MoreCovers, MoreGaps, NoCover, NoGap, Order, Source, Split, Value}
pub use Rattle.gap_sets.proofs.Orders.{chained, not_itself}
pub use Rattle.gap_sets.specs.Gaps.{IsGapSet, SetOfGaps, have_same_gaps}
unfoldable pub use Rattle.gap_sets.specs.Gaps.{numbers_of_set}
pub use Rattle.gap_sets.specs.Laws.{these}
pub use Rattle.gap_sets.specs.Order.{Better}
pub use Rattle.gap_sets.specs.Regions.{HasNoneOf, IsInRegion, all_sets, child_regions, is_free, open_gaps, with_gap, without_gap}
pub use Rattle.gap_sets.specs.declared.gap_set.TheConstants.{MAX_GAPS}
pub use Rattle.gap_sets.specs.declared.region.Region.{Region}
pub use Rattle.tso_machine.specs.Examples.{ends_with, store_buffering, waiting_stores}
pub use Rattle.tso_machine.specs.Machine.{HasEnded, Machine, SequentialMachine, State, StoreBufferMachine, no_gaps, passes, run, start}
pub use Rattle.tso_machine.specs.Outcomes.{AreGapsOf, IsForeignRun, IsSequentialOutcome, IsShownRun, IsTheAnswer, LeavesOutcome, PassesName, PassesNoNameOf}
pub use Rattle.tso_machine.specs.declared.label.Label.{Label}
pub use Rattle.tso_program.specs.Fences.{Gaps, gaps_in}
pub use Rattle.tso_program.specs.Limits.{IsWithinLimits, JumpForward}
pub use Rattle.tso_program.specs.Listings.{action, code_of, gap_count, gap_number, instr_at, start_of}
pub use Rattle.tso_program.specs.Shown.{asked, show, show_registers}
pub use Rattle.tso_program.specs.declared.question.Question.{Question}
pub use Rattle.tso_program.specs.declared.action.Action.TheVariants.{Go, Read, Stop, Swap, Wait, Write}
pub use Rattle.tso_program.specs.declared.action.Local.{Local}
pub use Rattle.tso_program.specs.declared.listing.Listing.{Listing}
pub use Rattle.tso_program.specs.declared.outcome.Outcome.{Outcome}
pub use Rattle.tso_program.specs.declared.shown.Shown.TheVariants.{All, Truth}
pub use Rattle.tree_laws.specs.Certificates.{AreSequentialRuns, IsJudged, IsRunOutside, IsValidCertificate, IsValidCertificateOf, HasRightSet, names_of}
pub use Rattle.tree_laws.specs.CoverTrees.{AllowsOrder, AllowsSource, AreChoices, AreChoicesBy, AreTwo, AreValidCoversBy, HasNextValues, HasNextValuesBy, HasNoOrderBy, HasSources, HasSourcesBy}
pub use Rattle.tree_laws.specs.CoverTrees.{IsCovered, IsValidCover, IsValidCoverBy, IsValueBy, MustEndAsNumber, event_of, sketch_with}
pub use Rattle.tree_laws.specs.GapTrees.{AreValidGaps, HaveCosts, IsOpenGap, IsSplitBy, IsValidGap, SomePassesNone, SomeRunAvoidsEachBetter}
pub use Rattle.tree_laws.specs.Laws.{ACoveredListHasEachOutcome, ASplitLosesNoSet, ATighterModeKeepsACover, ATighterModeKeepsASettledRead, ATighterModeKeepsAWholeSketch, ATighterModeKeepsTheValues, AValidCertificateProves}
pub use Rattle.tree_laws.specs.Laws.{AValidCoverCovers, AValidFencedTreeServes, AValidGapTreeAvoidsEachBetter, AValidGapTreeLeavesNoBetter, AValidTreeMakesTheSequentialList, CoversAreJudgedInOrder, GapsAreJudgedInOrder, IsForeign}
pub use Rattle.tree_laws.specs.Laws.{IsSequentialList, SoNoServingSetIsBetter, TheChoicesAreOneList, TheGapsAreOneList, TheRootHasEverySet, TheSourcesAreOneList, TheValuesAreOneList}
pub use Rattle.tree_laws.specs.declared.choice.Choice.{Choice}
pub use Rattle.tree_laws.specs.declared.choice.OpenChoice.{OpenChoice}
pub use Rattle.cert_forest.specs.Rule.{Rule, TheVariants.Early, TheVariants.Whole}
pub use Rattle.tree_laws.specs.StoreBuffering.{StoreBufferingIsCertified, costs}
