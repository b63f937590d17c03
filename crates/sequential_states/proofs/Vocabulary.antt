-- What many proofs of this crate speak of, imported once.
pub use Rattle.std.proofs.Common.{Bool, List, None, Option, Some, [], ap, append_assoc, arith, drop, eq-eqb, false, get_or, get_or-set_other, get_or-set_same, inl, inr, length, map, ne_eqb, not}
pub use Rattle.std.proofs.Common.{option_and_then, refl, reverse, rules, set, subst, suc, sym, take, true, zero, ℕ, ◌&&◌, ◌++◌, ◌+◌, ◌-◌, ◌<◌, ◌==◌, ◌∙◌, ◌∷◌, ◌≡◌, ◌≤◌, ◌⊎◌}
pub use Rattle.std.proofs.lemmas.Bool.{and_parts, cases_eq, cases_lt, eqb-true}
pub use Rattle.std.proofs.lemmas.List.{append-nil, get_or_past, length-append, reverse-append, map_more, map_push, take_all, take_more}
pub use Rattle.std.proofs.lemmas.Option.{same_Some, slice_get-get_or, slice_get_past, slice_get_read, slice_get_within}
pub use Rattle.std.specs.Prelude.{slice_get, slice_index, slice_index_or, MatchOption, IfSome, if◌then◌else◌}
pub use Rattle.tso_program.specs.Actions.{act, jumped, loaded}
pub use Rattle.tso_program.specs.Limits.{IsWithinLimits, JumpForward}
pub use Rattle.tso_program.specs.Listings.{action, code_of, instr_at, start_of}
pub use Rattle.tso_program.specs.declared.action.Action.{Action, TheVariants.Go, TheVariants.Read, TheVariants.Stop, TheVariants.Swap, TheVariants.Wait, TheVariants.Write}
pub use Rattle.tso_program.specs.declared.action.Local.{Local}
pub use Rattle.tso_program.specs.declared.instruction.Instr.{Instr}
pub use Rattle.tso_program.specs.declared.instruction.Instr.TheVariants.{Je, Jmp, Jne}
pub use Rattle.tso_program.specs.declared.listing.Listing.{Listing}
pub use Rattle.tso_program.specs.declared.listing.Thread.{Thread}
pub use Rattle.tso_program.specs.declared.outcome.Outcome.{Outcome}
pub use Rattle.tso_machine.specs.declared.label.Label.{Label, TheVariants.Exec, TheVariants.Flush}
pub use Rattle.tso_machine.specs.declared.label.Pending.{Pending}
pub use Rattle.tso_machine.specs.Machine.{HasEnded, IsRun, SequentialMachine, State, direct, outcome_at, put, run, start, step}
pub use Rattle.tso_machine.proofs.Link.{put_other, put_same}
pub use Rattle.tso_machine.proofs.Runs.{no_action, no_stores}
pub use mathlib.Core.Path.{fun_ext}
pub use Rattle.sequential_states.specs.Executions.{IsAnswer, IsExecuted, IsExecutedBy, IsRunThrough}
pub use Rattle.sequential_states.specs.Internal.Snapshots.{FitsProgram, HasNoStep, IsLocal, IsStep, Shot, StandsAt, first_shot, no_local, state_of, thread_start}
pub use Rattle.sequential_states.specs.Internal.Lists.{AreReached, ArrivalsLeadBack, HasEach, HasFirst, IsArrival, IsBeginning, IsEntry, IsExplored, IsFollowed, IsListed, IsLocallyFollowed, IsLonger, IsNoted, IsPlaceAt, IsThreadAtEnd, IsWalk, IsWalkOn, IsWalkTo, LeadTo, TellsAll, WalksOn}
pub use Rattle.sequential_states.specs.declared.listed.Arrival.{Arrival}
pub use Rattle.sequential_states.specs.declared.listed.Listed.{Listed}
pub use Rattle.sequential_states.specs.declared.walk.Walk.{Walk}
