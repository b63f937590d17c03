-- What many proofs of this crate speak of, imported once.
pub use Rattle.std.proofs.Common.{All, Bool, Contains, IsTrue, List, None, Some, [], ap, arith, cond, drop, false, get_or, inl, inr, length, nat_lt, not, refl, slice_get, subst, suc, sym, take, true}
pub use Rattle.std.proofs.Common.{zero, ℕ, ◌&&◌, ◌*◌, ◌++◌, ◌+◌, ◌<◌, ◌||◌, ◌↔◌, ◌∙◌, ◌∷◌, ◌≡◌, ◌≢◌, ◌≤◌, ◌⊎◌}
pub use Rattle.std.proofs.lemmas.Bool.{and_from, and_parts, cases_lt, lt-ltb, ltb-true, not-true, not_from_false}
pub use Rattle.std.proofs.lemmas.List.{append_assoc, get_or-take, length-take, length-take-le, take_more}
pub use Rattle.std.proofs.lemmas.Option.{get_or_from_slice_get, same_Some, slice_get-get_or, slice_get_within}
pub use Rattle.std.proofs.lemmas.Slice.Zip.{AllZip-left, AllZip-long, all_zipped_more}
pub use Rattle.std.specs.BTreeSet.{BTreeSet, UpdatesBy, contains}
pub use Rattle.std.specs.Borrow.{Bor}
pub use Rattle.std.specs.Cmp.{nat_cmp_total}
pub use Rattle.std.specs.List.{AllZip}
pub use Rattle.std.specs.Ordering.{is_eq, nat_cmp}
pub use Rattle.std.specs.Prelude.{IfErr, OnOk}
pub use Rattle.cert_forest.proofs.GapNodeLaws.{bound_next, gaps_count, gaps_no_longer, next_gap_is_shorter, split_next}
pub use Rattle.cert_forest.specs.Certificates.{Certificate}
pub use Rattle.cert_forest.specs.GapNodes.{first_gap, spell_gaps}
pub use Rattle.cert_forest.specs.Trees.{Bound, Cover, Gap, GapTrees, MoreGaps, NoGap, Split, count_gaps, gap_trees_of}
pub use Rattle.cover_judge.proofs.Answered.{err_up, if_err, on_ok}
pub use Rattle.cover_judge.proofs.ChoicesJudged.{here, if_wrong}
pub use Rattle.cover_judge.proofs.WrongNodes.{next_sibling, one_wrong_node, valid_is_not_wrong}
pub use Rattle.cover_judge.specs.CoverDefects.{FirstWrongCover}
pub use Rattle.cover_judge.specs.Judged.{IfWrong, IsAtRoot, IsBelow}
pub use Rattle.cover_judge.specs.Sketches.{empty_sketch}
pub use Rattle.gap_sets.specs.Gaps.{IsGapSet, SetOfGaps}
unfoldable pub use Rattle.gap_sets.specs.Gaps.{numbers_of_set}
pub use Rattle.gap_sets.specs.Order.{Better}
pub use Rattle.gap_sets.specs.Regions.{all_sets, child_regions, with_gap, without_gap}
pub use Rattle.gap_sets.specs.declared.gap_set.TheConstants.{MAX_GAPS}
pub use Rattle.gap_sets.specs.declared.region.Region.{Region}
pub use Rattle.cover_judge.proofs.Lookups.{each_more, same_default}
pub use Rattle.tree_laws.proofs.OneList.{one_list_of_gaps}
pub use Rattle.tree_laws.proofs.OpenGaps.{few_gaps, listed, rising, unlisted}
pub use Rattle.tree_laws.specs.Certificates.{AreSequentialRuns, HasRightSet, names_of, IsJudged, IsRunOutside, IsValidCertificate, IsValidCertificateOf}
pub use Rattle.tree_laws.specs.CoverTrees.{IsValidCoverBy}
pub use Rattle.tree_laws.specs.GapTrees.{AreValidGaps, IsSplitBy, IsValidGap}
pub use Rattle.tso_machine.specs.Machine.{Machine, SequentialMachine, StoreBufferMachine, no_gaps}
pub use Rattle.tso_machine.specs.Modes.{ArePassed, unfenced}
pub use Rattle.tso_machine.specs.Outcomes.{AreGapsOf, ArePassedNames, PassesName, IsReplayOf, IsShownRun}
pub use Rattle.tso_machine.specs.declared.label.Label.{Label}
pub use Rattle.tso_program.specs.Fences.{gaps_in}
pub use Rattle.tso_program.specs.Shown.{asked, asked_with}
pub use Rattle.tso_program.specs.declared.question.Question.{Question}
pub use Rattle.tso_program.specs.declared.listing.Listing.{Listing}
pub use Rattle.tso_program.specs.declared.outcome.Outcome.{Outcome}
pub use Rattle.cert_check.specs.Faults.{CheckFaultIs, HasEachOutcome, HasForeignRuns, HasHead, HasOutcomes, HasRightCost, HasRuns, HasServingSet, IsFirstFault, IsFirstWithout, IsRunOf}
pub use Rattle.cert_check.specs.GapDefects.{FirstWrongGap, HasNoSplit}
pub use Rattle.cert_check.specs.Internal.Children.{AreValidIn, IsWrongChildIn}
pub use Rattle.cert_check.specs.Internal.Claims.{question_of}
pub use Rattle.cert_check.specs.Internal.Replays.{AreReplaysOf, HavePassed, IsFaultFrom, IsNoRunAt, IsOutside, RunsFaultIs, borrowed_cmp}
pub use Rattle.cert_check.specs.Laws.{TheFirstCheckFaultIsUnique, ValidCertificatesHaveNoFault}
pub use Rattle.cert_forest.specs.declared.check_fault.CheckFault.{CheckFault}
