-- What many proofs of this crate speak of, imported once.
pub use Rattle.std.proofs.Common.{Bool, List, None, Option, Some, [], ap, append_assoc, arith, codes, cond, drop, eq-eqb, false, fold, get_or, inl, inr, length, length-append, lit<, map, max, refl}
pub use Rattle.std.proofs.Common.{subst, suc, sym, take, true, zero, ℕ, ◌&&◌, ◌*◌, ◌++◌, ◌+◌, ◌-◌, ◌<◌, ◌==◌, ◌^◌, ◌||◌, ◌∙◌, ◌∷◌, ◌≡◌, ◌≢◌, ◌≤◌}
pub use Rattle.std.proofs.Math.Bool.{and-false, and-true, or-false, or-true}
pub use Rattle.std.proofs.Math.Nat.{add-zero}
pub use Rattle.std.proofs.lemmas.Bool.{and_from, and_parts, cases_Bool, cases_eq, cases_lt, eqb-true, false_from_ne_true, lt-ltb, ltb-true, or_from, or_parts, or_right}
pub use Rattle.std.proofs.lemmas.Bool.Decides.{Decides-eqb, nat_tests, same_from_decides}
pub use Rattle.std.proofs.lemmas.Fmt.{IsAscii-decimal, decimal_digit, decimal_nonempty, digits_decimal}
pub use Rattle.std.proofs.lemmas.Grind.{flat_map-append, fold-append}
pub use Rattle.std.proofs.lemmas.List.{append-nil, drop_more, get_or-map, get_or_past, length-map, length-take-le, map-append, map_more, map_push, take_more}
pub use Rattle.std.proofs.lemmas.List.Elements.{All-from_recursion, filter_map-append, recursion_from_All}
pub use Rattle.std.proofs.lemmas.List.Folds.{flat_map-map, list_any-append}
pub use Rattle.std.proofs.lemmas.List.FromFn.{fill_by_all, get_or-map-range_with_len, length-map-range_with_len, length-range_with_len, map-range_with_len_more}
pub use Rattle.std.proofs.lemmas.Option.{slice_get-get_or, slice_get_past}
pub use Rattle.std.proofs.lemmas.Simd.{map-map}
pub use Rattle.std.proofs.lemmas.Slice.Eq.{bytes_eq-Decides}
pub use Rattle.std.proofs.lemmas.Str.{IsAscii-append, IsUtf8-from_ascii}
pub use Rattle.std.specs.Char.{is_ascii_digit}
pub use Rattle.std.specs.Fmt.{decimal}
pub use Rattle.std.specs.List.{AllByRecursion, cons_option, filter_map, find, flat_map, list_all, list_any, range_with_len}
unfoldable pub use Rattle.std.specs.List.{IsDistinct}
pub use Rattle.std.specs.Option.{IfSome, option_map_or, option_to_list}
pub use Rattle.std.specs.Prelude.{IfOk, OnOk, if◌then◌else◌, is_some, nat_lt, option_and_then, option_map, slice_get, slice_index, slice_index_or}
pub use Rattle.std.specs.Str.{IsAscii, bytes_eq}
pub use Rattle.conditions.specs.Canonical.{enclosed_signs_of, signs_of}
pub use Rattle.conditions.specs.Grammar.{Spells, Sum}
pub use Rattle.conditions.specs.Tokens.{sign_of_token}
pub use Rattle.conditions.specs.declared.condition.Quantifier.{Quantifier, TheVariants.Exists, TheVariants.NotExists}
pub use Rattle.conditions.specs.declared.token.Token.{Token}
pub use Rattle.litmus_reader.proofs.NamesOnce.{Stands, in_order_once, number_at, place_among, stand_from}
pub use Rattle.text_tokens.proofs.NumberLaws.{own}
pub use Rattle.text_tokens.specs.Bytes.{is_letter, is_word_byte}
pub use Rattle.litmus_lines.specs.FirstLine.{AreVisible, IsFirstLine, is_visible}
pub use Rattle.litmus_reader.specs.Labels.{JumpsAreFound, all_labels, are_found, column, is_found, jump_of, label_in, labels_behind, position_in, size, thread_labels}
pub use Rattle.text_tokens.specs.Lexing.{BeginsWith, BeginsWithAll, IsWord, NoWordGoesOn, comment, none, token, white_space}
pub use Rattle.text_tokens.specs.declared.token.Mark.{Mark}
pub use Rattle.litmus_reader.specs.Meaning.{atom_of, condition_of, first_value, instruction_in, instruction_of, listing_of, memory_of, numbered_atom, observed_of, registers_of, thread_read}
pub use Rattle.litmus_reader.specs.Names.{TextNames, all_registers, in_order, is_named, number_in, register_name, with_name}
pub use Rattle.text_tokens.specs.Pieces.{AreApart, AreApartBefore, CanStand, Part, Piece, Space, text_of, token_text, tokens_of}
pub use Rattle.litmus_reader.specs.Places.{cell_places, cells_places, code_places, entry_place, is_register, location_name, names_among, names_of, places, row_places, sign_places}
pub use Rattle.litmus_reader.specs.Texts.{AreParts, IsFencedLitmus, Means, StandsFor}
pub use Rattle.text_tokens.specs.Tokens.{NoToken, Number, Sign, Tok, Word}
pub use Rattle.litmus_reader.specs.declared.label.CodeLabel.{CodeLabel}
pub use Rattle.litmus_reader.specs.declared.observed.Observed.{Observed}
pub use Rattle.litmus_syntax.proofs.SeenLaws.{same_place_is, same_place_itself}
pub use Rattle.litmus_syntax.specs.Grammar.{IsNoneOf, NoneTwice, labels_from, labels_in_rows, labels_in_rows as all_names, place_of_entry, row_labels}
pub use Rattle.litmus_syntax.specs.Phrases.{Items, Phrase, begins_with_word, end, item, mark, number, word, ◌or◌, ◌▸◌}
pub use Rattle.litmus_syntax.specs.Places.{same_place}
pub use Rattle.litmus_syntax.specs.Views.{And, Atom, BodyView, CellView, Close, CmpImm, CmpReg, CodeView, Const, Copy, EndingView, EntryView, Fence, Je, Jmp, Jne, Load, LoadImm, Location, Not, Open}
pub use Rattle.litmus_syntax.specs.Views.{Or, PlaceView, Register, SignView, Store, StoreImm, Xchg}
pub use Rattle.litmus_syntax.specs.Words.{column_name}
unfoldable pub use Rattle.litmus_syntax.specs.Words.{mnemonic_of, opens_condition, reg_of}
pub use Rattle.tso_program.proofs.FencedLimits.{ends, fencing_stays_within_limits, rises}
pub use Rattle.tso_program.proofs.FencedPlaces.{fenced_code_of, same_count}
pub use Rattle.tso_program.specs.Fences.{Gaps, fence, fenced_code, fenced_threads, gaps_in, moved, place_of}
pub use Rattle.tso_program.specs.Listings.{code_of, instr_at}
pub use Rattle.tso_program.specs.Tree.{Tree, tree_map}
pub use Rattle.tso_program.specs.declared.instruction.Instr.{Instr}
pub use Rattle.tso_program.specs.declared.instruction.Reg.{Reg, TheVariants.Eax, TheVariants.Ebx, TheVariants.Ecx, TheVariants.Edi, TheVariants.Edx, TheVariants.Esi}
pub use Rattle.tso_program.specs.declared.limits.TheConstants.{MAX_FENCED_INSTRUCTIONS, MAX_THREADS}
pub use Rattle.tso_program.specs.declared.listing.Listing.{Listing}
pub use Rattle.tso_program.specs.declared.listing.Thread.{Thread}
pub use Rattle.litmus_text.specs.Canonical.{atom_named, body_of, canonical_text, cell_of, code_named, ending_of, entries_of, label_name_at, label_names_at, litmus_fenced_at, location_entries}
pub use Rattle.litmus_text.specs.Canonical.{location_entry, location_name_at, most_cells, moved_label, moved_labels, named_at, named_entry, own_labels, place_named, register_entries, row_of}
pub use Rattle.litmus_text.specs.Canonical.{rows_of, sign_named, signs_named, thread_entries}
pub use Rattle.litmus_text.specs.Laws.{CanonicalTextIsRead, HasParts, PrintedPartsAreRead}
pub use Rattle.litmus_text.specs.Printable.{ArePrintable, IsLabelName, IsLocationName, IsPrintable, IsPrintableCell, IsPrintableCode, IsPrintableContent, IsPrintableEnding, IsPrintableEntry}
pub use Rattle.litmus_text.specs.Printable.{IsPrintablePlace, IsPrintableRow, IsPrintableSign, IsTextNumber, SignsAreApart, begins_with_a_word}
pub use Rattle.litmus_text.specs.Spelling.{bar, body_pieces, cell_pieces, code_pieces, column_pieces, condition_pieces, ending_pieces, entry_pieces, gap, header_pieces, heading, initial_pieces}
pub use Rattle.litmus_text.specs.Spelling.{joined_by, label_pieces, line_end, line_of, lines_pieces, next, observed_pieces, observed_place_pieces, place_pieces, quantifier_pieces, row_end}
pub use Rattle.litmus_text.specs.Spelling.{row_pieces, sign, sign_pieces, space, text_with, valued_pieces}
