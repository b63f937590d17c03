-- What many proofs of this crate speak of, imported once.
pub use Rattle.std.proofs.Common.{Bool, Contains, Decides, List, None, Option, Some, [], ap, append_assoc, arith, cond, drop, false, get_or, inl, inr, length, lit<, lit≤, map, refl, rules, subst, suc}
pub use Rattle.std.proofs.Common.{sym, take, true, zero, ℕ, ◌%◌, ◌&&◌, ◌*◌, ◌++◌, ◌+◌, ◌-◌, ◌/◌, ◌<◌, ◌==◌, ◌^◌, ◌∙◌, ◌∷◌, ◌≡◌, ◌≤◌}
pub use Rattle.std.proofs.Math.Seq.{drop-append_seam, take-append_seam}
pub use Rattle.std.proofs.lemmas.Bool.{and_from, and_parts, cases_lt, eqb-true, le-leb, le-ltb, leb-true, lt-ltb, ltb-false, ne_eqb}
pub use Rattle.std.proofs.lemmas.Bool.Decides.{nat_tests}
pub use Rattle.std.proofs.lemmas.Fmt.{decimal_digit, digits_decimal}
pub use Rattle.std.proofs.lemmas.List.{append-nil, drop-append-le, drop_at, length-append, length-drop, nil_from_length, take-append-drop, take-append-le, take_all, take_at}
pub use Rattle.std.proofs.lemmas.Option.{IfSome_then, cond_some, none-some, same_Some, slice_get-get_or}
pub use Rattle.std.proofs.lemmas.Result.{err_from_is_err_and}
pub use Rattle.std.proofs.lemmas.Slice.Eq.{bytes_eq-Decides, slice_eq-Decides}
pub use Rattle.std.specs.Fmt.{decimal}
pub use Rattle.std.specs.List.{AllByRecursion, filter, list_all, list_any, prefix_len, range_with_len}
pub use Rattle.std.specs.Prelude.{codes, is_ok, max, nat_eq, nat_le, nat_lt, not, slice_get, slice_range}
pub use Rattle.cert_trees.specs.Kind.{Kind}
pub use Rattle.cert_trees.proofs.GapNodeLaws.{gaps_count, is_gap_tree, listed_gaps, same_gap}
pub use Rattle.cert_trees.proofs.NodeLaws.{covers_count, is_tree, same_tree}
pub use Rattle.cert_trees.specs.GapNodes.{bound_nodes, spell_gap, spell_gaps}
pub use Rattle.cert_trees.specs.Nodes.{cycle_nodes, spell, spell_all}
pub use Rattle.cert_trees.specs.Spelling.{spell_each}
pub use Rattle.cert_trees.specs.Trees.{Bound, Cover, Covers, Cycle, Gap, GapTrees, Known, MoreCovers, MoreGaps, NoCover, NoGap, Order, Source, Split, Value, count_covers, count_gaps, cover_list}
pub use Rattle.cert_trees.specs.Trees.{covers_of, gap_list, gap_trees_of}
pub use Rattle.cert_trees.specs.declared.node.GapNode.{GapNode}
pub use Rattle.cert_trees.specs.declared.node.Node.{Node}
pub use Rattle.cert_trees.specs.declared.rule.Rule.{Rule, TheVariants.Early, TheVariants.Whole}
pub use Rattle.cert_trees.specs.declared.tree.AccessId.{AccessId}
pub use Rattle.cert_trees.specs.declared.tree.TheConstants.{MAX_COVER_DEPTH, MAX_GAP_DEPTH}
pub use Rattle.cert_words.proofs.Steps.{IsExact, Starts, again_two, done_with, repeat_again, repeat_free, repeat_takes, starts_all, takes_two}
pub use Rattle.cert_words.proofs.WordLaws.{after_prefix, below64, count_exact, decimal_inner, end_again, end_takes, letter_again, letter_takes, name_again, name_takes, number_exact, number_text}
pub use Rattle.cert_words.proofs.WordLaws.{prefix_is, spaced_exact, starts_here, word_again, word_takes}
pub use Rattle.cert_words.specs.Lines.{line, spaced, texts_of}
pub use Rattle.cert_words.specs.Words.{begins_word, ends_word, is_inner, repeat_at, stops_for_memory, word_at}
unfoldable pub use Rattle.cert_words.specs.Words.{count_at, end_at, letter_at, line_name_at, number_within_at}
pub use Rattle.cert_words.specs.declared.numbers.TheConstants.{MAX_COUNT}
pub use Rattle.cert_words.specs.declared.refusal.Stop.{Stop, TheVariants.OutOfMemory, TheVariants.Refused}
pub use Rattle.gap_sets.specs.Gaps.{IsGapSet, SetOfGaps}
unfoldable pub use Rattle.gap_sets.specs.Gaps.{numbers_of_set}
pub use Rattle.gap_sets.specs.declared.gap_set.TheConstants.{MAX_GAPS}
pub use Rattle.text_tokens.proofs.NumberLaws.{own, plain_number_again, plain_number_takes}
pub use Rattle.text_tokens.proofs.StepLaws.{bind_some, by_test, kept_out}
pub use Rattle.text_tokens.specs.Numbers.{plain_number_at}
pub use Rattle.text_tokens.specs.Steps.{Fails, ◌>>=◌}
pub use Rattle.tso_machine.specs.RunTexts.{IsLabel, label_at, spelling}
pub use Rattle.tso_machine.specs.declared.label.Label.{Label}
pub use Rattle.tso_program.specs.Names.{ArePlaces, location_place, register_place}
pub use Rattle.tso_program.specs.declared.shown.TheConstants.{PLACES, REGISTER_PLACES}
pub use Rattle.cert_forest.specs.Certificates.{Certificate}
pub use Rattle.cert_forest.specs.FlatRuns.{AreEnds, runs_from}
pub use Rattle.cert_forest.specs.Internal.Pushing.{PushesCycle, PushesRoot, PushesTree, PushesTrees, children_after, root_nodes, run_nodes}
pub use Rattle.cert_forest.specs.Internal.Reading.{CycleHead, Head, KnownHead, OrderHead, SourceHead, ValueHead, access_tail, below_at, bound_at, digit_of, gap_by, gap_number_at, head_by, is_no_stop, kind_of}
pub use Rattle.cert_forest.specs.Internal.Reading.{or_all, or_condition, register_of, rule_of, run_number_at, shown_location, shown_place, shown_words_at}
unfoldable pub use Rattle.cert_forest.specs.Internal.Reading.{access_at, access_of, after_set_at, ascending_at, bound_runs_at, certificate_at, cost_at, cover_at, cover_line_at, cycle_at, gap_at}
unfoldable pub use Rattle.cert_forest.specs.Internal.Reading.{gap_line_at, head_at, header_at, kind_at, known_at, label_word_at, order_head_at, place_word_at, run_at, run_labels_at, runs_at, set_at}
unfoldable pub use Rattle.cert_forest.specs.Internal.Reading.{front_at, shown_line_at, source_head_at, split_at, three_at, value_head_at, version_at, word_line_at}
pub use Rattle.cert_forest.specs.Laws.{NoTextBeginsAnother, OneCertificate, OneText, TheExamplesAreCertificates, either, observed_tree}
pub use Rattle.cert_forest.specs.Limits.{AreBoundRuns, AreRuns, AreShownPlaces, HasNumbers, HaveGapNumbers, HaveNumbers, IsAccessId, IsCertificate, IsCoverTo, IsGapTo, IsWithin, IsWrittenRun, cover_depth}
pub use Rattle.cert_forest.specs.Limits.{covers_depth, gap_depth, gaps_depth}
pub use Rattle.cert_forest.specs.Texts.{access_word, bound_words, certificate_text, cover_words, covers_words, gap_words, gaps_words, head_lines, kind_word, labels_line, location_word, place_word, register_word}
pub use Rattle.cert_forest.specs.Texts.{runs_lines, shown_line}
pub use Rattle.cert_forest.specs.declared.shows.Shows.{Shows}
pub use Rattle.cert_forest.specs.declared.version.Version.{Version}
