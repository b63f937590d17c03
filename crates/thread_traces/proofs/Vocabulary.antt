-- What many proofs of this crate speak of, imported once.
pub use Rattle.std.proofs.Common.{Bool, Contains, Err, IsSome, IsTrue, List, None, Ok, Option, Result, Some, [], ap, arith, below_more, cond, drop, eq-eqb, eqb, false, get_or, inl, inr, length}
pub use Rattle.std.proofs.Common.{length-set, ne_eqb, not, refl, set, slice_get, subst, suc, sum_by, sym, take, true, zero, ℕ, ◌*◌, ◌++◌, ◌+◌, ◌-◌, ◌<◌, ◌↔◌, ◌∙◌, ◌∷◌, ◌≡◌, ◌≢◌, ◌≤◌, ◌⊎◌}
pub use Rattle.std.proofs.lemmas.Bool.{cases_eq, cases_lt}
pub use Rattle.std.proofs.lemmas.List.{append-nil, append_assoc, get_or_past, length-append, length_push}
pub use Rattle.std.proofs.lemmas.List.Elements.{Contains-append_cases, Contains-append_left, Contains-append_right, Contains-get_or, Contains-push, Contains-push_cases}
pub use Rattle.std.proofs.lemmas.List.Sorted.{Contains-permutation, IsPermutation-remove, IsPermutation-sym}
pub use Rattle.std.proofs.lemmas.List.Sums.{sum_by-cons, sum_by-take-le, sum_by_more}
pub use Rattle.std.proofs.lemmas.Option.{get_or_from_slice_get, same_Some, slice_get-get_or, slice_get_read, slice_get_within, unwrap_or-slice_get}
pub use Rattle.std.specs.List.{AllPairs, remove}
pub use Rattle.std.specs.Option.{is_some, option_map_or}
pub use Rattle.std.specs.Prelude.{IfNone, OnErr, slice_index, unwrap_or}
pub use Rattle.candidate_executions.proofs.Orders.Lists.{first_is_here, get_cases, get_set_other, get_set_same, get_some, later_is_here}
pub use Rattle.candidate_executions.specs.Traces.{Trace, entered, fenced_gaps, stopped, trace, trace_by, traced}
pub use Rattle.candidate_executions.specs.Values.{IsImmediate, IsKnown, IsValueOf, Occurs, TakesRegister}
pub use Rattle.candidate_executions.specs.declared.access.Access.{Access}
pub use Rattle.candidate_executions.specs.declared.event.Event.{Event, TheVariants.Access as At, TheVariants.Initial}
pub use Rattle.tso_machine.proofs.Link.{read_is}
pub use Rattle.tso_machine.specs.Machine.{Machine}
pub use Rattle.tso_machine.specs.Modes.{machine_of_mode}
pub use Rattle.tso_program.proofs.Found.{code_found}
pub use Rattle.tso_program.specs.Actions.{act, jumped, loaded}
pub use Rattle.tso_program.specs.Limits.{IsWithinLimits, JumpForward}
pub use Rattle.tso_program.specs.Listings.{accesses_of, action, code_of, instr_at, start_of}
pub use Rattle.tso_program.specs.declared.action.Action.{Action, TheVariants.Go, TheVariants.Read, TheVariants.Stop, TheVariants.Swap, TheVariants.Wait, TheVariants.Write}
pub use Rattle.tso_program.specs.declared.action.Local.{Local}
pub use Rattle.tso_program.specs.declared.instruction.Instr.{Instr}
pub use Rattle.tso_program.specs.declared.instruction.Instr.TheVariants.{CmpImm, CmpReg, Copy, Fence, Je, Jmp, Jne, Load, LoadImm, Store, StoreImm, Xchg}
pub use Rattle.tso_program.specs.declared.listing.Listing.{Listing}
pub use Rattle.tso_program.specs.declared.listing.Thread.{Thread}
pub use Rattle.thread_traces.specs.Immediates.{HasImmediate, StoresRegister, TakesRegisterOf, any_number, number_stored, stored_number}
pub use Rattle.thread_traces.specs.ThreadTraces.{GoesOn, IsThreadTraceOf, first_local, with_accesses}
pub use Rattle.thread_traces.specs.TraceCounts.{CountSaysSoFar, IsCountUpTo, combination_count, trace_count, values_at}
pub use Rattle.thread_traces.specs.TraceTrees.{AreNodes, AreNodesOf, IsTracePlace, IsChildOf, IsGivenMore, IsNextPlace, IsTraceTree}
pub use Rattle.thread_traces.specs.ValueLists.{IsValueList}
pub use Rattle.thread_traces.specs.WriteBits.{HasBit, write_bit}
pub use Rattle.thread_traces.specs.declared.thread_trace.ThreadTrace.{ThreadTrace}
pub use Rattle.thread_traces.specs.declared.trace_tree.TraceNode.{TraceNode}
pub use Rattle.thread_traces.specs.declared.trace_tree.TracePlace.{TracePlace}
