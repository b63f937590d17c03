-- What many proofs of this crate speak of, imported once.
pub use Rattle.std.proofs.Common.{Bool, IsTrue, List, None, Ok, Option, Some, [], ap, append_assoc, arith, drop, false, inl, inr, length, map, refl, subst, sym, take, true, true≢false, vec_len, ℕ}
pub use Rattle.std.proofs.Common.{◌++◌, ◌+◌, ◌-◌, ◌<◌, ◌==◌, ◌||◌, ◌∙◌, ◌∷◌, ◌≡◌, ◌≤◌, ◌⊎◌}
pub use Rattle.std.specs.Prelude.{codes, nat_eq, nat_lt, option_map, string_bytes}
pub use Rattle.program_streams.proofs.Printed.{prints_line, prints_made, prints_more}
pub use Rattle.program_streams.specs.FileLines.{file_line}
pub use Rattle.program_streams.specs.Streams.{AppendsRest, HoldsBytes, IsReadFault, ReadsOn, TakesBytes, TakesUpTo}
pub use Rattle.program_streams.specs.Versions.{asks_version, version_line}
pub use Rattle.tso_program.specs.Shown.{asked, asked_with}
pub use Rattle.fencecheck.specs.Inputs.{AreJoined, ArePartsOf, BeginsLine, IsCertificateStart, IsTooLongInput, ReadsEnough, ReadsForVerdict, StartsAt}
pub use Rattle.fencecheck.specs.Internal.Names.{file_names_of}
pub use Rattle.fencecheck.specs.Replies.{IsCheckOutput, IsFilesFault, IsReplyToFiles, IsUsage, IsVerdictOnInput, judged, misused, no_certificate, no_costs, no_file, no_input, usage_text, version}
pub use Rattle.fencecheck.specs.Verdicts.{IsAccepted, IsVerdict, accepted, handed_in, refusal_line, refused}
pub use Rattle.fencecheck.specs.declared.parts.TheConstants.{CERTIFICATE_LIMIT, FRONT_LIMIT}
