-- What many proofs of this crate speak of, imported once.
pub use Rattle.std.proofs.Common.{All, Bool, List, None, Option, Some, [], ap, arith, eq-eqb, false, find, length, nat_le, refl, rules, subst, suc, sym, true, ℕ, ◌&&◌, ◌++◌, ◌<◌, ◌==◌, ◌∙◌, ◌∷◌, ◌≡◌}
pub use Rattle.std.proofs.Common.{◌≢◌, ◌≤◌}
pub use Rattle.std.proofs.lemmas.Bool.Decides.{nat_tests}
pub use Rattle.std.proofs.lemmas.List.{append-nil, length-replicate, map-append}
pub use Rattle.std.specs.List.{concat, range_with_len}
pub use Rattle.std.specs.Prelude.{filter, map, option_map, unwrap_or}
pub use Rattle.documents.specs.Runs.{TellsRun}
pub use Rattle.documents.specs.declared.run.Setting.TheVariants.{Without}
pub use Rattle.fence_place.specs.Placements.{IsPlacement}
pub use Rattle.gap_sets.specs.Gaps.{IsGapSet, SetOfGaps}
pub use Rattle.gap_sets.specs.Ties.{names_in, spread}
pub use Rattle.gap_sets.specs.declared.ties.TiedCosts.{TiedCosts}
unfoldable pub use Rattle.gap_sets.specs.Gaps.{numbers_of_set}
pub use Rattle.gap_sets.specs.declared.gap_set.TheConstants.{MAX_GAPS}
pub use Rattle.litmus_text.specs.GivenCosts.{AreGiven, AreNotGiven}
pub use Rattle.litmus_reader.specs.declared.litmus.Litmus.{Litmus}
pub use Rattle.litmus_reader.specs.Shown.{shown_as}
pub use Rattle.report.specs.Answers.{answer_line}
pub use Rattle.tso_machine.specs.Outcomes.{IsForeignRun, IsReplayOf, IsShownRun, Serves}
pub use Rattle.tso_machine.specs.declared.label.Label.{Label}
pub use Rattle.tso_program.specs.Fences.{first_missing, gaps_in}
pub use Rattle.tso_program.specs.Listings.{gap_count}
pub use Rattle.tree_laws.specs.Certificates.{names_of}
pub use Rattle.tso_program.specs.Shown.{asked, asked_with, show}
pub use Rattle.tso_program.specs.declared.question.Question.{Question}
pub use Rattle.tso_program.specs.declared.listing.Listing.{Listing}
pub use Rattle.tso_program.specs.declared.shown.Shown.{Shown}
pub use Rattle.placed_text.specs.declared.reasons.LeftOut.{LeftOut}
pub use Rattle.placed_text.specs.PlacedTexts.{ArePlacedTextsOf, AreTextsOf, IsAnswerText, IsPlacedText, tied_question}
pub use Rattle.placed_text.specs.Problems.{IsProblem, question_in}
pub use Rattle.placed_text.specs.TextFaults.{AreNoCosts, HasNoCosts, HasNoPlacedText, HasNoPlacement, HasNoProblem, HasNoProgram}
pub use Rattle.placed_text.specs.WhyTexts.{AreReasons, IsReason, IsReasonOf, IsReasonText, IsWhyText, TellsReasons, TellsWhy, Told, none_line, others_fenced, printed_of, reasons_or_none, told_lines}
