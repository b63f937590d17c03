-- What many proofs of this crate speak of, imported once.
pub use Rattle.std.proofs.Common.{Bool, Contains, List, None, Option, Some, [], ap, arith, cond, eq-eqb, false, flat_map, inl, inr, length, map, nat_eq, ne_eqb, option_and_then, refl, slice_get}
pub use Rattle.std.proofs.Common.{subst, suc, sum_by, sym, true, zero, ℕ, ◌&&◌, ◌+◌, ◌<◌, ◌||◌, ◌↔◌, ◌∙◌, ◌∷◌, ◌≡◌, ◌≢◌, ◌≤◌}
pub use Rattle.std.proofs.lemmas.Bool.{cases_Bool, cases_eq, cases_lt, lt-ltb, ltb-true}
pub use Rattle.std.proofs.lemmas.List.Elements.{Contains-append_cases, Contains-append_left, Contains-append_right}
pub use Rattle.std.specs.Cmp.{nat_cmp_total, unsigned_tied}
pub use Rattle.std.specs.List.{filter, list_all, list_any, range_with_len}
pub use Rattle.std.specs.Option.{option_map, option_map_or}
pub use Rattle.std.specs.Ordering.{eq_by_cmp, nat_cmp}
pub use Rattle.std.specs.Prelude.{MatchOption, if◌then◌else◌, nat_lt, slice_index, slice_index_or, unwrap_or}
pub use Rattle.candidate_executions.proofs.Orders.Lists.{first_is_here, first_or_later, later_is_here, mapped, none_here}
pub use Rattle.gap_sets.proofs.Examples.{total-these}
pub use Rattle.gap_sets.specs.Gaps.{SetOfGaps}
pub use Rattle.gap_sets.specs.Laws.{these}
pub use Rattle.gap_sets.specs.Order.{Better, HasLeastDifference, cost_of}
unfoldable pub use Rattle.gap_sets.specs.Order.{total}
pub use Rattle.tso_machine.specs.Machine.{Allows, HasEnded, Machine, SequentialMachine, State, StoreBufferMachine, is_empty, no_gaps, outcome_at, run, start, step}
pub use Rattle.tso_machine.specs.Outcomes.{IsTheAnswer, LeavesOutcome, Serves}
pub use Rattle.tso_machine.specs.declared.label.Label.{Label, TheVariants.Exec, TheVariants.Flush}
pub use Rattle.tso_machine.specs.declared.label.Pending.{Pending}
pub use Rattle.tso_program.specs.Fences.{Gaps, gaps_in}
pub use Rattle.tso_program.specs.Limits.{JumpForward}
pub use Rattle.tso_program.specs.Listings.{action, code_of, gap_count, gap_number, instr_at}
pub use Rattle.tso_program.specs.Shown.{show, value_if}
pub use Rattle.tso_program.specs.declared.question.Question.{Question}
pub use Rattle.tso_program.specs.declared.listing.Listing.{Listing}
pub use Rattle.tso_program.specs.declared.outcome.Outcome.{Outcome}
pub use mathlib.Core.Path.{fun_ext}
pub use Rattle.the_answer.specs.Answers.{are_among, best_of, cheaper}
unfoldable pub use Rattle.the_answer.specs.Answers.{does_serve, the_answer}
pub use Rattle.the_answer.specs.Laws.{AreBelow, EachOutcomeIsAllowedOrNot, IsBest, NoServingSetCostsLess, NonePasses, OutcomesAreListed, RunsAreBounded, TheAnswerExists, TheAnswerIsThatSet}
pub use Rattle.the_answer.specs.Laws.{TheBestSetIsFound, TheHeadlineIsOfThatSet, TheTestTellsWhatServes}
pub use Rattle.the_answer.specs.OutcomeLists.{has_ended, is_stop, labels_to_try, longest, most_labels, outcomes_here, outcomes_within, threads_of}
unfoldable pub use Rattle.the_answer.specs.OutcomeLists.{outcomes_of}
