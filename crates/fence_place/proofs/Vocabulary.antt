-- What many proofs of this crate speak of, imported once.
pub use Rattle.std.proofs.Common.{Bool, Contains, Err, List, None, Ok, Option, Some, [], ap, append_assoc, arith, false, get_or, inl, inr, length, length-append, max, option_and_then, refl, subst}
pub use Rattle.std.proofs.Common.{suc, sym, true, true≢false, vec_len, zero, ℕ, ◌*◌, ◌++◌, ◌+◌, ◌-◌, ◌<◌, ◌^◌, ◌∙◌, ◌∷◌, ◌≡◌, ◌≢◌, ◌≤◌, ◌⊎◌}
pub use Rattle.std.proofs.lemmas.Bool.{cases_lt, false_from_ne_true}
pub use Rattle.std.proofs.lemmas.List.Elements.{All-pop, All-push, Contains-get_or, recursion_from_All}
pub use Rattle.std.proofs.lemmas.Option.{get_or_from_slice_get, none-some, same_Some, slice_get-get_or, slice_get_cases, slice_get_read, slice_get_within}
pub use Rattle.std.specs.List.{AllByRecursion, filter}
pub use Rattle.std.specs.Prelude.{All, IfErr, IfOk, IfSome, not, slice_get, slice_index_or}
pub use Rattle.std.specs.declared.result.Result.{Result}
pub use Rattle.cert_check.proofs.Answered.{if_ok, on_ok}
pub use Rattle.cert_forest.proofs.GapNodeLaws.{gaps_count, is_gap_tree, listed_gaps, same_gap}
pub use Rattle.cert_forest.specs.Certificates.{Certificate}
pub use Rattle.cert_forest.specs.GapNode.{GapNode}
pub use Rattle.cert_forest.specs.GapNodes.{spell_gap, spell_gaps}
pub use Rattle.cert_forest.specs.Limits.{AreShownPlaces, HasGapNumbers, HaveGapNumbers, IsGapTo, gap_depth, gaps_depth}
pub use Rattle.cert_forest.specs.Shows.{shows_of}
pub use Rattle.cert_forest.specs.Trees.{Bound, Cover, Gap, GapTrees, MoreGaps, NoGap, Split, count_gaps, gap_trees_of}
pub use Rattle.tree_laws.proofs.OpenGaps.{few_open, open_ascending, open_exact}
pub use Rattle.tree_laws.specs.Certificates.{AreSequentialRuns, IsJudged, IsRunOutside, IsValidCertificate, IsValidCertificateOf}
pub use Rattle.oracle.specs.Facts.{AreOf, Foreign, IsForeignValue, IsListOf, IsSequentialTable, IsServing, Serving, Table}
pub use Rattle.tree_laws.specs.GapTrees.{AreValidGaps, IsSplitBy, IsValidGap}
pub use Rattle.tso_machine.specs.declared.label.Label.{Label}
pub use Rattle.tso_machine.specs.Machine.{IsRun, Machine, SequentialMachine, State, StoreBufferMachine, buffered, direct, no_gaps, past_gap, put, run, start, step}
pub use Rattle.tso_machine.specs.Outcomes.{AreGapsOf, Headline, IsSequentialOutcome, IsShownRun, IsTheAnswer}
pub use Rattle.oracle.specs.Verdicts.{IsVerdictOf, PassesNoneOf}
pub use Rattle.gap_sets.specs.Gaps.{IsGapSet, SetOfGaps}
pub use Rattle.gap_sets.specs.Order.{Better}
unfoldable pub use Rattle.gap_sets.specs.Order.{total}
pub use Rattle.gap_sets.specs.Regions.{all_sets, child_regions, is_free, open_gaps, without_gap}
pub use Rattle.gap_sets.specs.declared.gap_set.TheConstants.{MAX_GAPS}
pub use Rattle.gap_sets.specs.declared.region.Region.{Region}
pub use Rattle.hunt_board.specs.Seats.{HuntView, IsFresh, IsOf, SeatView}
pub use Rattle.search_core.proofs.Changes.{HasNode, IsSplitAt, change_of, found, held_is, settles, state_after}
pub use Rattle.search_core.proofs.Kept.{Facts, IsBelow, facts_of}
pub use Rattle.search_core.proofs.Places.{Each, each_one, get_behind, get_either, get_longer}
pub use Rattle.search_core.proofs.Sets.{gap_set, small_set, unserved}
pub use Rattle.search_core.proofs.Working.{few_undecided, kids_less, open_undecided}
pub use Rattle.search_core.specs.Entries.{entry, is_closed, is_closed_status, is_held_status, is_live_status, is_open_status}
pub use Rattle.search_core.specs.Events.{IsBeatenBy, IsSettling, MaySplit, TakesNode, by_confirm, by_cut, by_split, takes}
pub use Rattle.search_core.specs.Records.{IsEventOf, IsFirstChild, IsOutcome, IsSettledAs, Outcome, finished_state}
pub use Rattle.search_core.specs.States.{HasNoOpen, IsDone, IsStart, SearchState}
pub use Rattle.search_core.specs.Work.{undecided, work_left}
pub use Rattle.search_core.specs.declared.entry.Entry.{Entry}
pub use Rattle.search_core.specs.declared.entry.Status.{Status}
pub use Rattle.search_core.specs.declared.finished.SettledEvent.{SettledEvent}
pub use Rattle.tso_program.specs.Fences.{Gaps, gaps_in}
pub use Rattle.tso_program.specs.Limits.{IsWithinLimits}
pub use Rattle.tso_program.specs.declared.question.Question.{Question}
pub use Rattle.tso_program.specs.declared.listing.Listing.{Listing}
pub use Rattle.tso_program.specs.declared.shown.Shown.{Shown}
pub use Rattle.fence_place.specs.Internal.Recording.{AreNumbersOf, IsNumbered, ListsEvent, ListsRun, PushesRecorded, PushesRecords, is_new, is_there}
pub use Rattle.fence_place.specs.Internal.Searches.{HasSettled, IsAtRest, IsOfQuestion, NothingIsHeld}
pub use Rattle.fence_place.specs.Internal.Workers.{FaultIsAfter, HasStopped, IsReadyWorker, MayStop, NoneLacksRun, lacks_run, lacks_run_for}
pub use Rattle.fence_place.specs.Proofs.{IsProof}
pub use Rattle.fence_place.specs.Recorded.{AreDistinct, AreRecorded, AreSplitRuns, IsRecorded}
pub use Rattle.fence_place.specs.declared.fault.PlaceFault.{PlaceFault}
pub use Rattle.fence_place.specs.declared.worker.Worker.{Worker}
