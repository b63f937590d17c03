-- What many proofs of this crate speak of, imported once.
pub use Rattle.std.proofs.Common.{Bool, Bor, Contains, IsTrue, List, None, Option, Some, ap, arith, false, map, refl, slice_get, subst, sym, true, ℕ, ◌<◌, ◌↔◌, ◌∙◌, ◌≡◌}
pub use Rattle.std.specs.Arc.{arc_value}
pub use Rattle.std.specs.Global.{Vec}
pub use Rattle.std.specs.Prelude.{Err, IfErr, IfOk, MatchOption, Ok, Result, is_ok}
pub use Rattle.std.proofs.lemmas.Result.{IfOk-weaker as if_ok}
pub use Rattle.tso_machine.specs.Faults.{ReplayFaultIs}
pub use Rattle.tso_machine.specs.Machine.{IsRun, Machine, SequentialMachine, StoreBufferMachine, no_gaps, outcome_at}
pub use Rattle.tso_machine.specs.Modes.{ArePassed, machine_of_mode}
pub use Rattle.tso_machine.specs.Outcomes.{AllowsShown, IsForeignRun, IsSequentialOutcome, IsShownRun}
pub use Rattle.tso_machine.specs.declared.label.Label.{Label}
pub use Rattle.tso_program.specs.Limits.{JumpForward}
pub use Rattle.tso_program.specs.Shown.{asked, show, told}
pub use Rattle.tso_program.specs.declared.question.Question.{Question}
pub use Rattle.tso_program.specs.declared.listing.Listing.{Listing}
pub use Rattle.tso_program.specs.declared.outcome.Outcome.{Outcome}
pub use Rattle.tso_program.specs.declared.shown.Shown.{Shown}
pub use Rattle.tso_machine.proofs.Refused.{one_shown}
pub use Rattle.oracle.specs.Facts.{AreOf, Foreign, IsForeignValue, IsListOf, IsSequentialTable, IsServing, Table}
pub use Rattle.cover_solver.specs.Solvers.{Asked}
pub use Rattle.cover_solver.specs.OutcomeLists.{AreFound, AreRunsOf, IsListOfAll}
