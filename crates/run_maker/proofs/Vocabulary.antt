-- What many proofs of this crate speak of, imported once.
pub use Rattle.std.proofs.Common.{Bool, Contains, IsSome, List, Option, Some, [], add-one, ap, append-nil, append_assoc, arith, drop, drop-cons, false, get_or, inl, inr, length, map, not, refl, subst}
pub use Rattle.std.proofs.Common.{suc, sym, true, vec_len, zero, ℕ, ◌++◌, ◌+◌, ◌-◌, ◌<◌, ◌↔◌, ◌∙◌, ◌∷◌, ◌≡◌, ◌≢◌, ◌≤◌, ◌⊎◌}
pub use Rattle.std.proofs.lemmas.Bool.{cases_eq, cases_lt, eqb-true}
pub use Rattle.std.proofs.lemmas.List.{get_or-set_other, get_or-set_same, replicate_more}
pub use Rattle.std.proofs.lemmas.List.Elements.{Contains-append_left, Contains-get_or, Contains-push, Contains-push_cases}
pub use Rattle.std.proofs.lemmas.Option.{get_or_from_slice_get, same_Some, slice_get-get_or, slice_get_past, slice_get_read, slice_get_within}
pub use Rattle.std.specs.List.{AllPairs, range_with_len, remove}
pub use Rattle.std.specs.Prelude.{slice_get, slice_index, slice_set, ◌==◌}
pub use Rattle.candidate_executions.proofs.Orders.AcyclicIsOrdered.{In, Ordered}
pub use Rattle.candidate_executions.proofs.Orders.Lists.{some_value}
pub use Rattle.candidate_executions.specs.Candidates.{Candidate, EndsWith, HasOutcome, IsAccess, IsCandidate, Writes, access_by}
pub use Rattle.candidate_executions.specs.Consistency.{Edge, IsAcyclic, IsConsistent, IsCycle, IsOfMode, Leads, Relates}
pub use Rattle.candidate_executions.specs.Orders.{IsOrder, Steps, execs, flushes, followed_union, labels_along, no_more, steps, steps_by, to_ends}
pub use Rattle.candidate_executions.specs.Sketches.{Completes, EndsAs, EndsInValues, IsBefore, IsPair, KnownAtom, KnownEdgeOfMode, KnownFromReads, KnownRelates, MayBeLast, MustEndAs, given_to}
pub use Rattle.candidate_executions.specs.declared.access.Access.{Access}
pub use Rattle.candidate_executions.specs.declared.event.Event.{Event, TheVariants.Access as At, TheVariants.Initial}
pub use Rattle.candidate_executions.specs.declared.event.Kind.{Kind}
pub use Rattle.program_sketches.proofs.Lookups.{each_more, empty_list}
pub use Rattle.exec_axioms.specs.Cycles.{EachGoesOn, IsEnd, IsSuccessor}
pub use Rattle.program_sketches.specs.Known.{HasNoCycle}
pub use Rattle.program_sketches.specs.ProgramSketches.{ProgramSketch, access_in, mode_in, trace_in}
pub use Rattle.tso_machine.proofs.Link.{put_other, put_same}
pub use Rattle.tso_machine.specs.Machine.{IsRun, Machine, SequentialMachine, StoreBufferMachine, put}
pub use Rattle.tso_machine.specs.Modes.{machine_of_mode}
pub use Rattle.tso_machine.specs.declared.label.Label.{Label}
pub use Rattle.tso_program.specs.Listings.{action, code_of, start_of}
pub use Rattle.tso_program.specs.declared.listing.Listing.{Listing}
pub use Rattle.tso_program.specs.declared.shown.Shown.TheVariants.{All, Truth}
pub use Rattle.run_maker.proofs.Options.{when_none}
pub use Rattle.run_maker.specs.Internal.Labels.{Follows, IsOfSomeThread, flush_if}
pub use Rattle.run_maker.specs.Internal.Orders.{IsBackEdge, IsFreeAt, IsKnownOrder}
pub use Rattle.run_maker.specs.Internal.Steps.{AreThreadSteps, StepsGoOn, steps_in, with_earlier}
pub use Rattle.run_maker.specs.MadeRuns.{IsMadeRun}
