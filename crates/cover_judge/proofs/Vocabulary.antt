-- What many proofs of this crate speak of, imported once.
pub use Rattle.std.proofs.Common.{All, Contains, List, MatchOption, None, Option, Some, [], ap, arith, drop, drop-cons, false, get_or, inl, inr, length, map, refl, slice_get, subst, suc, sym}
pub use Rattle.std.proofs.Common.{take, true, zero, ℕ, ◌*◌, ◌+◌, ◌<◌, ◌↔◌, ◌∙◌, ◌∷◌, ◌≡◌, ◌≤◌}
pub use Rattle.std.proofs.lemmas.List.{append-nil, drop_all, length-drop, length-map, length-take-le}
pub use Rattle.std.proofs.lemmas.Option.{same_Some}
pub use Rattle.std.specs.Global.{Vec}
pub use Rattle.std.specs.List.{AllPairs, flat_map}
pub use Rattle.std.specs.Prelude.{Err, IfErr, IfOk, IsErrAnd, Ok, OnOk, Result}
pub use Rattle.candidate_executions.specs.Consistency.{Leads}
pub use Rattle.candidate_executions.specs.Sketches.{IsKnownCycle, IsPair, IsSourceOf, IsWhole, KnownEdgeOfMode, MustEndAs, Sketch, with_pair, with_source, with_value}
pub use Rattle.candidate_executions.specs.Values.{IsValueOf}
pub use Rattle.candidate_executions.specs.declared.event.Event.{Event}
pub use Rattle.cert_forest.proofs.NextNodes.{order_next, rest_no_longer, source_next, value_next}
pub use Rattle.cert_forest.proofs.ShorterWalks.{next_is_shorter}
pub use Rattle.cert_forest.specs.AccessId.{AccessId}
pub use Rattle.cert_forest.specs.Machine.{Machine}
pub use Rattle.cert_forest.specs.Nodes.{first_tree, spell_all}
pub use Rattle.cert_forest.specs.Trees.{Cover, Covers, Cycle, Known, MoreCovers, NoCover, Order, Source, Value, count_covers, covers_of}
pub use Rattle.rowless_sketches.specs.Choices.{HasSource, IsRead}
pub use Rattle.rowless_sketches.specs.ProgramSketches.{ProgramSketch, mode_in, with_chosen}
pub use Rattle.rowless_sketches.specs.RowlessSketches.{AreSources, IsFree, IsValueMarkOf, LacksSource}
pub use Rattle.tree_laws.proofs.OneList.{one_list_of_choices_by}
pub use Rattle.tree_laws.specs.CoverTrees.{AfterChoicesBy, AllowsOrder, AllowsSource, AreChoicesBy, AreSourceChoicesBy, AreTwo, AreValidCoversBy, AreValueChoicesBy, HasNoOrder, HasNoOrderBy, HasSources, HasSourcesBy, IsValidCoverBy}
pub use Rattle.tree_laws.specs.CoverTrees.{MustEndAsNumber, event_of, sketch_with}
pub use Rattle.tree_laws.specs.declared.choice.Choice.{Choice}
pub use Rattle.tree_laws.specs.declared.choice.OpenChoice.{OpenChoice}
pub use Rattle.tree_laws.specs.Rule.{Rule, TheVariants.Whole}
pub use Rattle.tso_program.specs.Shown.{asked}
pub use Rattle.tso_program.specs.declared.question.Question.{Question}
pub use Rattle.tso_program.specs.declared.listing.Listing.{Listing}
pub use Rattle.tso_program.specs.declared.outcome.Outcome.{Outcome}
pub use Rattle.tso_program.specs.declared.shown.Shown.{Shown}
pub use Rattle.cover_judge.specs.ChoiceLists.{AreFreeSources, choices_in}
pub use Rattle.cover_judge.specs.ChoiceMarks.{IsChoiceMarkOf}
pub use Rattle.cover_judge.specs.Choices.{AreChoicesOfBy, AreSourceChoices, AreValueChoices, CanChoose, CanChooseEach, MayChoose, MayChooseEach}
pub use Rattle.cover_judge.specs.CoverDefects.{FirstWrongCover, FirstWrongCoverChild, FirstWrongOfTwo, HasNotSoMany, IsWrongNode}
pub use Rattle.cover_judge.specs.Judged.{AreValidAfter, AreValidFor, IfWrong, IsAtRoot, IsBelow, IsFrom, IsValidAfter, IsWrongAt, IsWrongChild, IsWrongFor}
pub use Rattle.cover_judge.specs.declared.fault.NodeFault.{NodeFault, TheVariants.OutOfMemory, TheVariants.Wrong}
