-- What many proofs of this crate speak of, imported once.
pub use Rattle.std.proofs.Common.{List, [], ap, append-nil, append_assoc, ap₂, arith, get_or, length, refl, subst, suc, sym, take, zero, ℕ, ◌++◌, ◌+◌, ◌<◌, ◌∙◌, ◌∷◌, ◌≡◌}
pub use Rattle.std.proofs.lemmas.Result.{IfOk-weaker}
pub use Rattle.std.specs.Prelude.{string_bytes}
pub use Rattle.answers.specs.Refusals.{IsTold}
pub use Rattle.answers.specs.TextAnswers.{no_file}
pub use Rattle.program_streams.proofs.Printed.{prints_more}
pub use Rattle.program_streams.specs.FileLines.{file_line}
pub use Rattle.report.specs.Answers.{outcome_line, printed_labels}
pub use Rattle.tso_machine.specs.declared.label.Label.{Label}
pub use Rattle.tso_program.specs.declared.shown.Shown.{Shown}
pub use Rattle.outcome_answers.specs.Outcomes.{AreOutcomes, HasNoList, ListsOutcomes, ListsRuns, PrintsOutcomes, outcome_lines, run_line_at}
pub use Rattle.outcome_answers.specs.Witnesses.{no_text, of_text}
