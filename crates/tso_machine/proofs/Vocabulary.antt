-- What many proofs of this crate speak of, imported once.
pub use Rattle.std.proofs.Common.{All, Bool, Err, List, None, Ok, Option, Result, Some, [], ap, append_assoc, arith, cond, drop, eq-eqb, false, get_or, get_or-set_other, get_or-set_same, inl, inr}
pub use Rattle.std.proofs.Common.{length, length-set, map, ne_eqb, not, option_and_then, refl, rules, set, subst, suc, sym, take, true, zero, ℕ, ◌&&◌, ◌++◌, ◌+◌, ◌-◌, ◌<◌, ◌==◌, ◌||◌, ◌∙◌, ◌∷◌, ◌≡◌}
pub use Rattle.std.proofs.Common.{◌≢◌, ◌≤◌, ◌⊎◌}
pub use Rattle.std.proofs.lemmas.Bool.{and_parts, cases_Bool, cases_eq, cases_lt, eqb-true, lt-ltb, not-true, or_cases, or_from, or_left, or_parts, or_right}
pub use Rattle.std.proofs.lemmas.Bool.Decides.{nat_tests}
pub use Rattle.std.proofs.lemmas.Fmt.{decimal_injective, digits_decimal}
pub use Rattle.std.proofs.lemmas.Grind.{common_steps}
pub use Rattle.std.proofs.lemmas.List.{get_or-map, get_or_past, length-map, length-take, map-id, map_more, map_push, take_all, take_more, with_items_is}
pub use Rattle.std.proofs.lemmas.List.Elements.{All-cons, All-more, All-push, All-weaker, filter-append, recursion_from_All}
pub use Rattle.std.proofs.lemmas.Option.{same_Some, slice_get-get_or, slice_get_past, slice_get_read}
pub use Rattle.std.specs.List.{AllByRecursion, join_with_byte, range_with_len}
pub use Rattle.std.specs.Option.{option_map_or}
pub use Rattle.std.specs.Ordering.{eq_by_cmp, nat_cmp}
pub use Rattle.std.specs.Prelude.{MatchOption, OnOk, filter, if◌then◌else◌, is_some, nat_le, nat_lt, option_map, slice_get, slice_index, slice_index_or, slice_set, string_bytes}
pub use Rattle.gap_sets.specs.Gaps.{SetOfGaps}
pub use Rattle.text_tokens.proofs.NumberLaws.{own, plain_number_again, plain_number_takes}
pub use Rattle.text_tokens.specs.Bytes.{is_white_space}
pub use Rattle.tso_program.specs.Actions.{IsLocated, act, loaded}
pub use Rattle.tso_program.specs.Fences.{Gaps, gaps_in}
pub use Rattle.tso_program.specs.Listings.{action, code_of, gap_count, gap_number}
pub use Rattle.tso_program.specs.declared.action.Action.{Action, TheVariants.Go, TheVariants.Read, TheVariants.Stop, TheVariants.Swap, TheVariants.Wait, TheVariants.Write}
pub use Rattle.tso_program.specs.declared.action.Local.{Local}
pub use Rattle.tso_program.specs.declared.listing.Listing.{Listing}
pub use Rattle.tso_program.specs.declared.listing.Thread.{Thread}
pub use Rattle.tso_program.specs.declared.outcome.Outcome.{Outcome}
pub use mathlib.Core.Path.{fun_ext}
pub use Rattle.tso_machine.specs.Examples.{StoreBufferingIsTold, in_turn, locked_exchange, locked_run, n6, n6_run, r, r_run, store_buffering, waiting_stores}
pub use Rattle.tso_machine.specs.Faults.{Applies, EndsEarly, IsFenced, IsUnfinished, ReplayFaultIs, StepFaultIs, Stops, fault_of, waits}
pub use Rattle.tso_machine.specs.Internal.Cores.{AreLocated, Core, Cores, Finished, FitsProgram, after_action, after_buffered, after_direct, core_at, first_core, first_cores, gap_passed_by, no_core}
pub use Rattle.tso_machine.specs.Internal.Cores.{passed_gap, state_of}
pub use Rattle.tso_machine.specs.Machine.{HasEnded, IsRun, Machine, SequentialMachine, State, StoreBufferMachine, buffered, direct, flushed, found, from_some, is_empty, newest, no_gaps, outcome_at}
pub use Rattle.tso_machine.specs.Machine.{passes, passes_at, past_gap, put, run, start, step, when_empty}
pub use Rattle.tso_machine.specs.Modes.{ArePassed, Passes, machine_of_model, unfenced}
pub use Rattle.tso_machine.specs.RunTexts.{IsFirstNoLabel, IsLabel, run_text, spelling, words}
unfoldable pub use Rattle.tso_machine.specs.RunTexts.{label_at}
pub use Rattle.tso_machine.specs.Steps.{AreSteps, IsStepBetween}
pub use Rattle.tso_machine.specs.declared.label.Cause.{Cause, TheVariants.AtEnd, TheVariants.BufferEmpty, TheVariants.FenceWaits, TheVariants.NoSuchThread}
pub use Rattle.tso_machine.specs.declared.label.Label.{Label, TheVariants.Exec, TheVariants.Flush}
pub use Rattle.tso_machine.specs.declared.label.Model.{Model}
pub use Rattle.tso_machine.specs.declared.label.Pending.{Pending}
pub use Rattle.tso_machine.specs.declared.label.StepFault.{StepFault, TheVariants.OutOfMemory, TheVariants.Refused}
pub use Rattle.tso_machine.specs.declared.replaying.ReplayFault.{ReplayFault}
