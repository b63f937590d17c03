-- What many proofs of this crate speak of, imported once.
pub use Rattle.std.proofs.Common.{IfOk, slice_get, Bool, Contains, IfSome, List, None, Option, Some, [], ap, append_assoc, arith, drop, false, get_or, inl, inr, length, map, refl, subst, suc, sym, take, true, zero, ℕ, ◌++◌, ◌+◌, ◌-◌, ◌<◌, ◌↔◌, ◌∙◌, ◌∷◌, ◌≡◌, ◌≢◌, ◌≤◌, All, IsSome, IsTrue, MatchOption, not, ◌*◌, ◌⊎◌}
pub use Rattle.std.proofs.lemmas.Bool.{cases_lt}
pub use Rattle.std.proofs.lemmas.List.{append-nil, length-append, length-map, map-append, take_all, take_more}
pub use Rattle.std.proofs.lemmas.Option.{same_Some, slice_get_within, unwrap_or-slice_get}
pub use Rattle.std.specs.List.{AllByRecursion, AllPairs, remove_range}
pub use Rattle.std.specs.Prelude.{◌^◌}
pub use Rattle.candidate_executions.proofs.Orders.Lists.{first_is_here, later_is_here}
pub use Rattle.candidate_executions.proofs.Sketches.GivenValues.{reads_there}
pub use Rattle.candidate_executions.specs.Candidates.{Writes, IsAccess}
pub use Rattle.candidate_executions.specs.Sketches.{IsKnownCycle, IsSourceOf, IsWhole, given_to, with_value, IsPair, with_pair, with_source}
pub use Rattle.candidate_executions.specs.declared.event.Event.{Event, TheVariants.Initial, TheVariants.Access as At}
pub use Rattle.candidate_executions.specs.declared.event.Kind.{Kind}
pub use Rattle.cert_trees.proofs.NodeLaws.{alone, child_instead, covers_count, cycle_some, is_tree, known_some, listed, spelled_append, tree_again}
pub use Rattle.cert_trees.specs.Nodes.{IsTree, spell, spell_all, tree_of}
pub use Rattle.cert_trees.specs.Trees.{Cover, Cycle, Known, Order, Source, Value, covers_of}
pub use Rattle.cert_trees.specs.declared.node.Node.{Node}
pub use Rattle.cert_trees.specs.declared.tree.AccessId.{AccessId}
pub use Rattle.cover_judge.proofs.ChoicesJudged.{no_order, other_way, turned}
pub use Rattle.cover_judge.proofs.SketchesAfter.{moved}
pub use Rattle.cover_judge.specs.Choices.{AreChoicesOf, AreSourceChoices, AreValueChoices, IsValueOpen, MayChoose, MayChooseEach}
pub use Rattle.cover_judge.specs.Judged.{IsValidAt}
pub use Rattle.exec_axioms.proofs.Completeness.{first_there, read_there, second_there}
pub use Rattle.exec_axioms.specs.Complete.{HasItsSource, IsComplete, IsOrderedWith}
pub use Rattle.exec_axioms.specs.Cycles.{IsSimpleCycle}
pub use Rattle.program_sketches.proofs.Lookups.{each_index, same_default}
pub use Rattle.program_sketches.specs.Choices.{IsOrdered, IsRead, MayFollow}
pub use Rattle.program_sketches.specs.FewAccesses.{AreFewAccesses, HasSmallNumbers}
pub use Rattle.program_sketches.specs.Kept.{IsLawful}
pub use Rattle.program_sketches.specs.ProgramSketches.{ProgramSketch, access_in, mode_in, nothing_chosen, trace_in, with_chosen}
pub use Rattle.program_sketches.specs.Sizes.{HaveAllRegisters, choice_count, most_choices}
pub use Rattle.rowless_sketches.proofs.Ends.{thread_within}
pub use Rattle.rowless_sketches.specs.Completions.{MustEndSo, NeedNotEnd}
pub use Rattle.thread_traces.proofs.KnownParts.{not_by}
pub use Rattle.tree_laws.specs.CoverTrees.{sketch_with, AreValidCovers, IsValidCover, MustEndAsNumber, event_of}
pub use Rattle.tree_laws.specs.Covers.{AreNeat, IsNeat, IsWholeCover}
pub use Rattle.tree_laws.specs.declared.choice.Choice.{Choice}
pub use Rattle.tree_laws.specs.declared.choice.OpenChoice.{OpenChoice}
pub use Rattle.tso_machine.specs.Modes.{machine_of_mode}
pub use Rattle.tso_program.specs.Shown.{asked}
pub use Rattle.tso_program.specs.declared.listing.Listing.{Listing}
pub use Rattle.tso_program.specs.declared.outcome.Outcome.{Outcome}
pub use Rattle.tso_program.specs.declared.shown.Shown.{Shown}
pub use Rattle.cover_search.specs.Accesses.{AreAccessesOf, IsItself, IsThreadEvent, IsReadValue, IsWrite, IsWrittenValue, NamesRead, NamesWrite, TakesIn}
pub use Rattle.cover_search.specs.ChoicesLeft.{IsInOrderWithLater, AreWritesInOrder, HasEachSource, IsEachInOrder}
pub use Rattle.cover_search.specs.Covers.{HasNumber, AreCoversAfter, IsCoverAfter, IsCoverAt, IsEndNotListed, IsLeafAt, node_over, tree_over}
pub use Rattle.cover_search.specs.OpenChoices.{IsOpen}
pub use Rattle.cover_search.specs.Pushing.{Pushes}
pub use Rattle.cover_search.specs.declared.accesses.ReadValue.{ReadValue}
pub use Rattle.cover_search.specs.declared.accesses.WholeAccesses.{WholeAccesses}
pub use Rattle.cover_search.specs.declared.accesses.WrittenValue.{WrittenValue}
