-- What many proofs of this crate speak of, imported once.
pub use Rattle.std.proofs.Common.{Bool, List, [], false, true, ap, append_assoc, arith, drop, get_or, length, map, refl, subst, suc, sym, take, zero, ℕ, ◌++◌, ◌+◌, ◌-◌, ◌<◌, ◌∙◌, ◌∷◌, ◌≡◌, ◌≤◌}
pub use Rattle.std.proofs.lemmas.List.{append-nil, drop_all, map_more, take_all}
pub use Rattle.std.specs.Arc.{arc_value}
pub use Rattle.std.specs.Fmt.{decimal}
pub use Rattle.std.specs.Prelude.{IfSome, Option, Some, codes, slice_index_or}
pub use Rattle.cert_forest.proofs.ShorterWalks.{next_is_shorter}
pub use Rattle.cert_forest.proofs.TreeTexts.{cover_text, gap_text, texts_append}
pub use Rattle.cert_forest.specs.Certificates.{Certificate}
pub use Rattle.cert_forest.specs.CoverNode.{CoverNode}
pub use Rattle.cert_forest.specs.GapNode.{GapNode}
pub use Rattle.cert_forest.specs.GapNodes.{spell_gaps}
pub use Rattle.cert_forest.specs.Nodes.{spell_all}
pub use Rattle.cert_forest.specs.GapNodes.{is_run}
pub use Rattle.cert_forest.specs.Rule.{TheVariants.Early, TheVariants.Whole}
pub use Rattle.cert_forest.specs.Texts.{access_word, certificate_text, cover_words, covers_words, gap_words, gaps_words, head_lines, labels_line, place_word, runs_lines, shown_line}
pub use Rattle.cert_forest.specs.Trees.{Bound, Cover, Covers, Gap, GapTrees, MoreCovers, MoreGaps, NoCover, NoGap, Order, Source, Split, Value, cover_list, gap_list}
pub use Rattle.cert_forest.specs.Walks.{IsNext, IsNextBy, IsNextGap, bound_len, children_of, gap_children_of, gap_root_of, root_of}
pub use Rattle.cert_words.specs.Lines.{line, spaced, texts_of}
unfoldable pub use Rattle.gap_sets.specs.Gaps.{numbers_of_set}
pub use Rattle.tso_machine.specs.RunTexts.{spelling}
pub use Rattle.cert_pages.specs.Drafts.{draft_text}
pub use Rattle.cert_pages.specs.Parts.{AreWritten, IsPartWritten, LeadTo, WriteFrom, trees_text}
unfoldable pub use Rattle.cert_pages.specs.Parts.{after}
pub use Rattle.cert_pages.specs.declared.parts.TreePart.{TreePart}
