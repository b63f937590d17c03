-- What many proofs of this crate speak of, imported once.
pub use Rattle.std.proofs.Common.{List, [], ap, append_assoc, arith, codes, get_or, map, refl, subst, sym, take, ℕ, ◌+◌, ◌++◌, ◌<◌, ◌∙◌, ◌∷◌, ◌≡◌}
pub use Rattle.std.proofs.lemmas.List.{map-append, map_more}
pub use Rattle.std.proofs.lemmas.Result.{IfOk-weaker, on_ok_weaker}
pub use Rattle.std.specs.List.{range_with_len}
pub use Rattle.std.specs.Prelude.{Err, IfOk, Ok, Result, slice_index}
pub use Rattle.json_text.specs.Texts.{array_text, member, object_text, quoted, truth_text}
pub use Rattle.tso_machine.specs.declared.label.Label.{Label}
pub use Rattle.tso_machine.specs.declared.stepping.Step.{Step}
pub use Rattle.tso_program.specs.declared.listing.Listing.{Listing}
pub use Rattle.documents.specs.Documents.{document_of}
pub use Rattle.documents.specs.Parts.{gap_value, is_observed}
pub use Rattle.documents.specs.Runs.{AreStepsOf, IsStep, StepPart, setting_member, step_text}
pub use Rattle.documents.specs.declared.run.Setting.TheVariants.{Machine}
pub use Rattle.json_values.specs.Gaps.{gaps_array}
pub use Rattle.json_values.specs.Outcomes.{outcomes_array}
