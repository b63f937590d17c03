-- What many proofs of this crate speak of, imported once.
pub use Rattle.std.proofs.Common.{Bool, Contains, IsTrue, List, Some, ap, false, slice_get, subst, sym, true, ℕ, ◌↔◌, ◌∙◌, ◌≡◌}
pub use Rattle.std.specs.Arc.{arc_value}
pub use Rattle.std.specs.Global.{Vec}
pub use Rattle.std.specs.Prelude.{Err, IfErr, IfOk, Ok, Result, is_ok}
pub use Rattle.tso_machine.specs.Faults.{ReplayFaultIs}
pub use Rattle.tso_machine.specs.Machine.{IsRun, Machine, StoreBufferMachine, no_gaps}
pub use Rattle.tso_machine.specs.Modes.{ArePassed}
pub use Rattle.tso_machine.specs.Outcomes.{IsForeignRun, IsSequentialOutcome, IsShownRun}
pub use Rattle.tso_machine.specs.declared.label.Label.{Label}
pub use Rattle.tso_program.specs.Shown.{asked}
pub use Rattle.tso_program.specs.declared.question.Question.{Question}
pub use Rattle.tso_program.specs.declared.listing.Listing.{Listing}
pub use Rattle.tso_program.specs.declared.outcome.Outcome.{Outcome}
pub use Rattle.tso_program.specs.declared.shown.Shown.{Shown}
pub use Rattle.oracle.specs.Facts.{Table}
pub use Rattle.oracle.specs.ForeignFaults.{ForeignFaultIs, of_replay}
