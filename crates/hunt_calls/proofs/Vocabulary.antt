-- What many proofs of this crate speak of, imported once.
pub use Rattle.std.proofs.Common.{IfSome, List, None, Option, Some, ap, subst, sym, ℕ, ◌∙◌, ◌≡◌}
pub use Rattle.oracle.specs.Facts.{Serving}
pub use Rattle.gap_sets.specs.Gaps.{SetOfGaps}
pub use Rattle.search_core.specs.Events.{IsBeatenBy}
pub use Rattle.tso_program.specs.Shown.{asked}
pub use Rattle.tso_program.specs.declared.question.Question.{Question}
pub use Rattle.hunt_calls.specs.Hunts.{IsSound}
