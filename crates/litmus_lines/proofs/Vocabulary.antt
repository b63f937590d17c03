-- What many proofs of this crate speak of, imported once.
pub use Rattle.std.proofs.Common.{Bool, List, None, Option, Some, [], ap, arith, drop, false, inl, inr, length, refl, subst, suc, sym, take, true, ℕ, ◌++◌, ◌+◌, ◌<◌, ◌∙◌, ◌∷◌, ◌≡◌, ◌⊎◌}
pub use Rattle.std.proofs.lemmas.Bool.Decides.{nat_tests}
pub use Rattle.std.proofs.lemmas.List.{drop_at, length-append, nil_from_length, take-append-drop, take_all, take_at}
pub use Rattle.std.specs.Prelude.{codes, nat_lt, slice_index, ◌&&◌, ◌==◌}
pub use Rattle.text_tokens.proofs.SpaceLaws.{comment_back, empty_back, empty_is, other_back, space_length, white_space_back}
pub use Rattle.text_tokens.specs.Space.{IsAfterSpace}
pub use Rattle.litmus_lines.specs.Faults.{BeginsSkipped}
pub use Rattle.litmus_lines.specs.Internal.FirstLineReading.{name_after}
unfoldable pub use Rattle.litmus_lines.specs.Internal.FirstLineReading.{heading_name, line_at}
pub use Rattle.litmus_lines.specs.SkippedLines.{AreSkipped, IsSkippedLine, brace, is_skipped, line}
