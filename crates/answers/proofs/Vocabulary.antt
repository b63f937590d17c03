-- What many proofs of this crate speak of, imported once.
pub use Rattle.std.proofs.Common.{Bool, Err, IfErr, IfOk, IsOkAnd, List, None, Ok, Option, Result, Some, [], ap, append-nil, false}
pub use Rattle.std.proofs.Common.{refl, subst, sym, take, ℕ, ◌++◌, ◌∙◌, ◌∷◌, ◌≡◌}
pub use Rattle.std.proofs.lemmas.Result.{IfOk-weaker}
pub use Rattle.std.specs.Prelude.{option_map, string_bytes}
pub use Rattle.std.specs.declared.alloc.AllocError.{AllocError}
pub use Rattle.program_streams.proofs.Printed.{prints_made, prints_more}
pub use Rattle.program_streams.specs.FileLines.{file_line}
pub use Rattle.program_streams.specs.Streams.{HoldsBytes, Prints}
pub use Rattle.program_streams.specs.declared.files.TheConstants.{TEXT_LIMIT}
pub use Rattle.report.specs.Answers.{outcome_line, passed_line}
pub use Rattle.tso_machine.specs.Modes.{machine_of_model}
pub use Rattle.tso_machine.specs.declared.label.Label.{Label}
pub use Rattle.answers.specs.Deliveries.{AreTwoNames, HoldsFile, KeepFiles, KeepFilesBut, KeepFilesButThree, kept, not_kept}
pub use Rattle.answers.specs.Refusals.{IsTold, refusal_line}
pub use Rattle.answers.specs.Refused.{PrintsRefusal, RefusalSays}
pub use Rattle.answers.specs.Replays.{HasNoRun, IsReplay, ShowsRun, label_words_text}
pub use Rattle.answers.specs.TextAnswers.{IsAnswerTo, answered, no_file, refused}
