-- What many proofs of this crate speak of, imported once.
pub use Rattle.std.proofs.Common.{Bool, List, None, Option, Some, [], ap, ap₂, arith, false, get_or, inl, inr, length, map, min, nat_cmp, nat_le, nat_lt, if◌then◌else◌, refl, replicate, subst, suc, sym, true, unwrap_or, zero, ℕ, ◌++◌, ◌+◌, ◌<◌, ◌==◌}
pub use Rattle.std.proofs.Common.{◌^◌, ◌||◌, ◌∙◌, ◌∷◌, ◌≡◌, ◌≢◌, ◌≤◌}
pub use Rattle.std.proofs.lemmas.List.{append-nil, append_assoc, flat_map_more, length-append}
pub use Rattle.std.proofs.lemmas.Option.{unwrap_or-slice_get}
pub use Rattle.std.specs.List.{All, filter, flat_map, list_all, range_with_len}
pub use Rattle.std.specs.Option.{option_map_or}
pub use Rattle.std.specs.Prelude.{option_map, slice_get}
pub use Rattle.cost_text.specs.CostTexts.{Entry, IsCostEntry, IsCostText, ListsEntries, NoGapTwice, blank, costs_of, entry, entry_of, gaps_of, least_of, lines_of, name_said, none, ties_of}
pub use Rattle.gap_list.specs.CostFiles.{as_read, cost_file_text, cost_read, entry_text, gap_and_blank, place_and_blank, places_text, tie_text, ties_read}
pub use Rattle.gap_list.specs.Lists.{gap_line, gap_part}
