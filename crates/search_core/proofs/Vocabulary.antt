-- What many proofs of this crate speak of, imported once.
pub use Rattle.std.proofs.Common.{Bool, Contains, IsTrue, List, None, Option, Some, [], ap, append-nil, arith, cond, false, get_or, if◌then◌else◌, inl, inr, le_trans, length, length-append, nat_lt}
pub use Rattle.std.proofs.Common.{not, refl, set, subst, suc, sum_by, sym, true, true≢false, zero, zero-add, ℕ, ◌&&◌, ◌*◌, ◌++◌, ◌+◌, ◌<◌, ◌==◌, ◌^◌, ◌∙◌, ◌∷◌, ◌≡◌, ◌≢◌, ◌≤◌, ◌⊎◌}
pub use Rattle.std.proofs.Math.Nat.{one-le-pow, two-pow-succ}
pub use Rattle.std.proofs.lemmas.Bool.{and_from, and_left, and_parts, and_right, cases_lt, false_from_ne_true, not-true, not_from_false, not_from_true, or_left, or_right}
pub use Rattle.std.proofs.lemmas.Bool.Decides.{nat_tests}
pub use Rattle.std.proofs.lemmas.List.{length-set, set-append_left}
pub use Rattle.std.proofs.lemmas.List.FromFn.{get_or-range_with_len, length-range_with_len}
pub use Rattle.std.proofs.lemmas.List.Sums.{count_by-le-length, length-filter, sum_by-append, sum_by-cons, sum_by-le, sum_by-set}
pub use Rattle.std.proofs.lemmas.Option.{get_or_from_slice_get, none-some, same_Some, slice_get-get_or, slice_get-map, slice_get_read, slice_get_within}
pub use Rattle.std.specs.Cmp.{nat_cmp_total}
pub use Rattle.std.specs.List.{AllPairs, filter, range_with_len}
pub use Rattle.std.specs.Option.{is_some, option_copied, option_map, option_map_or}
pub use Rattle.std.specs.Ordering.{eq_by_cmp, nat_cmp}
pub use Rattle.std.specs.Prelude.{IfNone, IfSome, MatchOption, slice_get, slice_set, ◌↔◌}
pub use Rattle.candidate_executions.proofs.Orders.Lists.{first_is_here, later_is_here}
pub use Rattle.gap_sets.proofs.Orders.{chained, decided, not_itself}
pub use Rattle.gap_sets.specs.Gaps.{IsGapSet, SetOfGaps, have_same_gaps}
unfoldable pub use Rattle.gap_sets.specs.Gaps.{numbers_of_set}
pub use Rattle.gap_sets.specs.Order.{Better, cost_of}
unfoldable pub use Rattle.gap_sets.specs.Order.{total}
pub use Rattle.gap_sets.specs.Regions.{HasNoneOf, IsInRegion, all_sets, child_regions, is_free, open_gaps, with_gap, without_gap}
pub use Rattle.gap_sets.specs.SameGaps.{alike, have_same_gaps-same}
pub use Rattle.gap_sets.specs.declared.gap_set.TheConstants.{MAX_GAPS}
pub use Rattle.gap_sets.specs.declared.region.Region.{Region}
pub use Rattle.oracle.specs.Facts.{Foreign, IsForeignValue, IsServing, Serving}
pub use Rattle.oracle.specs.Verdicts.{PassesNoneOf}
pub use Rattle.the_answer.proofs.AnswerExists.{answer_exists, none_costs_less}
pub use Rattle.the_answer.specs.Answers.{the_answer}
pub use Rattle.tree_laws.proofs.Filtered.{any_has, has_any, of_filter, to_filter}
pub use Rattle.tree_laws.proofs.OpenGaps.{few_open, open_ascending, open_exact}
pub use Rattle.tree_laws.proofs.Regions.{in_root, new_or_old, split_loses_no_set, true_or_false}
pub use Rattle.tree_laws.specs.GapTrees.{HaveCosts}
pub use Rattle.tso_machine.specs.Outcomes.{AreGapsOf, IsSequentialOutcome, IsStoreBufferOutcome, IsTheAnswer, LeavesOutcome, Serves}
pub use Rattle.tso_program.proofs.Gaps.{gap_below}
pub use Rattle.tso_program.specs.Limits.{IsWithinLimits}
pub use Rattle.tso_program.specs.Listings.{gap_count, gap_number}
pub use Rattle.tso_program.specs.Shown.{asked}
pub use Rattle.tso_program.specs.declared.listing.Listing.{Listing}
pub use Rattle.tso_program.specs.declared.question.Question.{Question}
pub use Rattle.search_core.specs.Ceilings.{Bound, IsAboveCeiling, IsBound, IsCeiling, IsCeilingOf}
pub use Rattle.search_core.specs.Children.{children}
pub use Rattle.search_core.specs.Entries.{entry, is_closed, is_held_by, is_held_status, is_live, is_live_status, is_open, is_open_status}
pub use Rattle.search_core.specs.Events.{Confirms, Cuts, GivesBack, IsBeaten, IsBeatenBy, IsBestAfter, IsEvent, IsSettling, IsTooDear, MaySplit, Splits, TakesNode, by_confirm, by_cut, by_split}
pub use Rattle.search_core.specs.Events.{confirms, cuts, gives_back, open_entries, splits, takes}
pub use Rattle.search_core.specs.Faults.{CutFaultIs, CutsMust, CutsNode, DoMeet, HasBound, IsReasonOf, SplitFaultIs}
pub use Rattle.search_core.specs.Histories.{IsReached, goes_on, starts}
pub use Rattle.search_core.specs.Laws.{ADoneStateHasTheAnswer, ASeatHoldsOneNode, GivingBackLeavesTheWork, IsBestSet, IsLive, IsUndercut, NoBetterSetIsLost, SettlingLessensTheWork}
pub use Rattle.search_core.specs.Laws.{TakingLeavesTheWork, TheAnswerIsNeverLost, TheLeastCostIsTheLeastCeiling}
pub use Rattle.search_core.specs.Records.{IsEventOf, IsFirstChild, Outcome, finished_state}
pub use Rattle.search_core.specs.States.{HasInHand, HasNoOpen, HoldsNode, HoldsNothing, HoldsOnly, IsDone, IsHeldAt, IsOpenAt, IsSeatCount, IsStart, SearchState}
pub use Rattle.search_core.specs.Work.{is_undecided, live_work, undecided, work_left, work_of}
pub use Rattle.search_core.specs.contracts.tree.SearchTree.{the_view}
pub use Rattle.search_core.specs.declared.ceiling.Reason.{Reason}
pub use Rattle.search_core.specs.declared.entry.Entry.{Entry}
pub use Rattle.search_core.specs.declared.entry.Status.{Status, TheVariants.Confirmed, TheVariants.Cut, TheVariants.Held, TheVariants.Open, TheVariants.Split}
