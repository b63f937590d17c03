-- What many proofs of this crate speak of, imported once.
pub use Rattle.std.proofs.Common.{AllPairs, Bool, Bor, Contains, Err, IfErr, List, MatchResult, None, Ok, Option, Result, Some, [], ap, append-nil, append_assoc, arith, drop, false, find, flat_map, get_or, if◌then◌else◌, inl, inr, is_some, length, map, min, nat_cmp, nat_le, nat_lt, not, option_map, position}
pub use Rattle.std.proofs.Common.{refl, rules, slice_get, slice_index, subst, suc, sym, take, true, unwrap_or, zero, ℕ, ◌++◌, ◌+◌, ◌<◌, ◌==◌, ◌||◌, ◌⊎◌, ◌∙◌, ◌∷◌, ◌≡◌, ◌≢◌, ◌≤◌}
pub use Rattle.std.proofs.lemmas.Bool.{and_parts, cases_Bool, cases_lt, eq-eqb, eqb-false, eqb-true, leb-false, leb-true, lt-ltb, ltb-true, ne_eqb, or_cases, or_parts, or_right}
pub use Rattle.std.proofs.lemmas.Bool.Decides.{nat_tests}
pub use Rattle.std.proofs.lemmas.List.{drop_at, drop_more, get_or-append-add, get_or-map, get_or_append_left, get_or_at, get_or_default, length-append, length-map, length-take, map-append, map_push, take-append-drop, take_at, take_more}
pub use Rattle.std.proofs.lemmas.List.Concat.{flat_map-append}
pub use Rattle.std.proofs.lemmas.List.Folds.{Any-from_list_any, list_any-append, list_any_at}
pub use Rattle.std.proofs.lemmas.List.FromFn.{fill_by_all, get_or-map-range_with_len, length-map-range_with_len}
pub use Rattle.std.proofs.lemmas.List.Quantifiers.{all_pairs_push}
pub use Rattle.std.proofs.lemmas.Option.{cond_some, get_or_from_slice_get, option_and_then_some, same_Some, slice_get-get_or, slice_get_within, some_pair_parts}
pub use Rattle.std.proofs.lemmas.Result.{err_from_is_err_and}
pub use Rattle.std.specs.Char.{is_ascii_digit}
pub use Rattle.std.specs.Cmp.{nat_cmp_total}
pub use Rattle.std.specs.List.{list_all, list_any, position_or_len, prefix_len, range_with_len}
pub use Rattle.std.specs.Option.{option_map_or}
pub use Rattle.gap_sets.proofs.CostLimits.{no_fault-from_IsCostList, none_found, not_free, not_too_large, not_too_many}
pub use Rattle.gap_sets.specs.CostLists.{IsCostList, first_cost_fault, first_free}
pub use Rattle.gap_sets.specs.Ties.{AreTies}
pub use Rattle.gap_sets.specs.declared.costs.CostFault.{CostFault}
pub use Rattle.gap_sets.specs.declared.gap_set.TheConstants.{MAX_GAPS}
pub use Rattle.gap_sets.specs.declared.ties.TiedCosts.{TiedCosts}
pub use Rattle.text_tokens.proofs.Prefixes.{all_pass, prefix_is}
pub use Rattle.text_tokens.specs.Bytes.{AreBlanks, AreLineSpaces, is_blank, is_line_space}
pub use Rattle.tso_program.proofs.Gaps.{gap_below}
pub use Rattle.tso_program.specs.Listings.{gap_count, gap_number}
pub use Rattle.tso_program.specs.declared.listing.Thread.{Thread}
pub use Rattle.cost_text.specs.CostLines.{Place, Said, Says, SpellsPlace, SpellsPlaces, places_of}
pub use Rattle.cost_text.specs.CostTexts.{AreAt, AreRefused, Entry, GiveCosts, IsCostEntry, IsCostText, IsLineFault, IsOfNoCost, IsOfNoGap, IsRefusedAt, IsRepeated, ListsEntries, NoGapTwice, RefusesCosts}
pub use Rattle.cost_text.specs.CostTexts.{SaysNothing, StandsAt, blank, costs_of, entry, entry_of, gaps_of, is_of, least_of, lines_of, name_said, none, said_of, ties_of}
pub use Rattle.cost_text.specs.Internal.LineReading.{AreAllDigits, LineDigits, PlaceDigits, ReadsLine, ReadsPlaces, after_line_spaces, begun, ended, place_of, said_by}
unfoldable pub use Rattle.cost_text.specs.Internal.LineReading.{after_blanks, after_colon, digits_at, place_at}
pub use Rattle.cost_text.specs.Internal.TextReading.{AreGathered, ArePlaced, IsCostTable, IsLineOf, IsNewEntry, IsTableOfLines, LacksGap, cost_in, cost_or_fault, digits_of, entry_at, has_no_ties, kept, name_in, names_in, with_gap}
pub use Rattle.cost_text.specs.declared.entry.CostEntry.{CostEntry}
pub use Rattle.cost_text.specs.declared.entry.PlacedGaps.{PlacedGaps}
pub use Rattle.cost_text.specs.declared.fault.CostTextFault.{CostTextFault}
pub use Rattle.cost_text.specs.declared.line.CostLine.{CostLine}
