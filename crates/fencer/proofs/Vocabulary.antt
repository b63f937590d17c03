-- What many proofs of this crate speak of, imported once.
pub use Rattle.std.proofs.Common.{Bool, Contains, Err, IfOk, List, Ok, Option, Result, [], ap, append-nil, ap₂, arith, false, get_or, inl, inr, length, map}
pub use Rattle.std.proofs.Common.{refl, subst, suc, sym, take, true, zero, ℕ, ◌++◌, ◌+◌, ◌<◌, ◌==◌, ◌∙◌, ◌∷◌, ◌≡◌, ◌⊎◌}
pub use Rattle.std.proofs.lemmas.Result.{IfOk-weaker}
pub use Rattle.std.specs.Prelude.{codes, nat_lt, option_map, string_bytes}
pub use Rattle.std.specs.declared.alloc.AllocError.{AllocError}
pub use Rattle.answers.specs.Inserted.{unkept_line}
pub use Rattle.fencer_words.specs.CommandLines.{IsNoCommand, no_utf8}
pub use Rattle.program_streams.proofs.Printed.{prints_line, prints_made, prints_more, prints_nothing}
pub use Rattle.program_streams.specs.FileLines.{file_line}
pub use Rattle.program_streams.specs.Streams.{IsReadFault, Prints, TakesOfLine}
pub use Rattle.program_streams.specs.Versions.{asks_version, version_line}
pub use Rattle.program_streams.specs.Words.{IsUtf8Refusal, words_of}
pub use Rattle.program_streams.specs.declared.files.TheConstants.{TEXT_LIMIT}
pub use Rattle.fencer.specs.Answers.{HasTooLongLine, IsOutput, IsReply, IsReplyToInput, KeepFilesOf, KeepOtherFiles, LineAsksToWrite, ReadsFor, ReadsForInput, ReadsForWords, after_line, answer}
pub use Rattle.fencer.specs.Answers.{by_line, line_alone, no_command, no_line, nothing, of_job, version}
pub use Rattle.fencer.specs.Placements.{all, no_texts, of_texts, placed, refused_for, text_fault_line, unkept_for}
