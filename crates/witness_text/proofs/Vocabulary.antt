-- What many proofs of this crate speak of, imported once.
pub use Rattle.std.proofs.Common.{Bool, Contains, IsTrue, List, Option, Some, [], ap, arith, drop, false, inl, inr, refl, subst, suc, sym, take, true, vec_len, ℕ, ◌++◌, ◌||◌, ◌↔◌, ◌∙◌, ◌∷◌, ◌≡◌, ◌⊎◌}
pub use Rattle.std.specs.Cmp.{booleans_Decides, nat_cmp_total}
pub use Rattle.cover_solver.specs.Witnesses.{HasNoWitness, IsWitness}
pub use Rattle.documents.specs.Runs.{TellsRun}
pub use Rattle.gap_sets.specs.Gaps.{SetOfGaps}
pub use Rattle.tso_machine.proofs.Refused.{no_fault, one_outcome}
pub use Rattle.tso_machine.specs.Machine.{IsRun, Machine, StoreBufferMachine}
pub use Rattle.tso_machine.specs.Modes.{ArePassed, machine_of_model}
pub use Rattle.tso_machine.specs.declared.label.Label.{Label}
pub use Rattle.tso_program.specs.Truth.{truth}
pub use Rattle.tso_program.specs.declared.listing.Listing.{Listing}
pub use Rattle.tso_program.specs.declared.outcome.Outcome.{Outcome}
pub use Rattle.tso_program.specs.declared.shown.Shown.TheVariants.{All}
pub use Rattle.witness_text.specs.FencedGaps.{AreGapsAt, GapPlace, IsAtOneOf, IsGap, gap_at_place}
pub use Rattle.witness_text.specs.Internal.SoughtRuns.{IsSoughtRun}
pub use Rattle.witness_text.specs.WitnessTexts.{IsShownRunText, TellsWitness, found, machine_of, none, unfenced_machine}
