-- What many proofs of this crate speak of, imported once.
pub use Rattle.std.proofs.Common.{Bool, Err, IsTrue, List, None, Ok, Option, Result, Some, [], ap, arith, below_more, cond, false, get_or, inl, inr, le_refl, le_trans, length, length-set, map, min}
pub use Rattle.std.proofs.Common.{not, refl, replicate, set, subst, suc, sym, take, true, true≢false, vec_len, zero, ℕ, ⊎_elim, ◌++◌, ◌+◌, ◌-◌, ◌<◌, ◌^◌, ◌∙◌, ◌∷◌, ◌≡◌, ◌≢◌, ◌≤◌, ◌⊎◌}
pub use Rattle.std.proofs.lemmas.Bool.{MatchBool-at_false, MatchBool-at_true, cases_lt, not-true}
pub use Rattle.std.proofs.lemmas.List.{get_or-replicate, length-replicate, map-id, map_push}
pub use Rattle.std.proofs.lemmas.Option.{get_or_from_slice_get, none-some, same_Some, slice_get_read, slice_get_within}
pub use Rattle.std.specs.List.{AllPairs, filter, position_from, range_with_len}
pub use Rattle.std.specs.Prelude.{All, IfErr, IfSome, IsErrAnd, OnErr, OnOk, slice_get, slice_index, slice_set, ◌↔◌}
pub use Rattle.search_core.proofs.OpenGaps.{open_ascending, open_exact}
pub use Rattle.search_core.specs.Facts.{Foreign, Serving}
pub use Rattle.gap_sets.specs.Gaps.{IsGapSet, SetOfGaps}
pub use Rattle.gap_sets.specs.Order.{Better, total}
pub use Rattle.gap_sets.specs.Regions.{HasNoneOf, IsInRegion, all_sets, child_regions, is_free, open_gaps, with_gap, without_gap}
pub use Rattle.gap_sets.specs.declared.region.Region.{Region}
pub use Rattle.search_core.proofs.Bounds.{costs_so, least_ceiling}
pub use Rattle.search_core.proofs.Kept.{Facts, facts_of}
pub use Rattle.search_core.proofs.Places.{get_else, get_here, get_old}
pub use Rattle.search_core.proofs.Refusals.{not_cut}
pub use Rattle.search_core.specs.Ceilings.{IsCeiling, problem}
pub use Rattle.search_core.specs.Events.{Cuts, IsBeaten, IsBeatenBy}
pub use Rattle.search_core.specs.Records.{IsEventOf, IsFirstChild, IsOutcome, IsSettledAs, Outcome, finished_state}
pub use Rattle.search_core.specs.States.{HasInHand, SearchState}
pub use Rattle.search_core.specs.declared.entry.Entry.{Entry}
pub use Rattle.search_core.specs.declared.entry.Status.{Status, TheVariants.Confirmed, TheVariants.Cut, TheVariants.Open, TheVariants.Split}
pub use Rattle.search_core.specs.declared.finished.SettledEvent.{SettledEvent}
pub use Rattle.search_core.specs.declared.finished.Settled.{Settled}
pub use Rattle.tso_program.specs.Limits.{IsWithinLimits, JumpForward}
pub use Rattle.tso_program.specs.Shown.{asked}
pub use Rattle.tso_program.specs.declared.question.Question.{Question}
pub use native.Mathlib.Decide.{ℕ_discrete}
pub use Rattle.hunt_board.specs.Internal.Marks.{HasMark, IsMarked, IsNotMarked, RecordFaultIs}
pub use Rattle.hunt_board.specs.Internal.Places.{StandsOnlyAt, WalkLeads, child_by, child_in, child_of, ends, goes, number_of_child}
pub use Rattle.hunt_board.specs.Receipts.{CloseFaultIs, IsFirstWrong, IsReceiptEvent, IsReceiptOf, NameAll, StandApart, Stands}
pub use Rattle.hunt_board.specs.Seats.{AreFresh, AreFreshAt, HuntView, IsFresh, SeatView, word_of}
pub use Rattle.hunt_board.specs.Word.{Fits, IsAbove, IsSeatOf, Known, Loaded, Lowered, Ruled, Word, both, goal_of, knows, no_ceiling, spent}
pub use Rattle.hunt_board.specs.declared.settling.Receipt.{Receipt}
