-- What many proofs of this crate speak of, imported once.
pub use Rattle.std.proofs.Common.{Bool, Contains, List, None, Some, [], ap, append_assoc, arith, cond, drop, false, fold, get_or, inl, inr, length, length-append, lit<, map, refl, replicate, set}
pub use Rattle.std.proofs.Common.{subst, suc, sym, take, true, zero, ℕ, ◌++◌, ◌+◌, ◌<◌, ◌↔◌, ◌∙◌, ◌∷◌, ◌≡◌, ◌≤◌, ◌⊎◌}
pub use Rattle.std.proofs.lemmas.Bool.{cases_Bool, cases_lt, eqb-false, eqb-true, false_from_ne_true, lt-ltb, ltb-false, not-true, or_right}
pub use Rattle.std.proofs.lemmas.Bool.Decides.{Decides-eqb, nat_tests, same_from_decides}
pub use Rattle.std.proofs.lemmas.Cmp.{nat_list_eq_equiv}
pub use Rattle.std.proofs.lemmas.Grind.{common_steps}
pub use Rattle.std.proofs.lemmas.List.{append-nil, at_drop_all, at_drop_more, get_or-map, get_or-replicate, get_or-set_other, get_or-set_same, get_or_default, length-map, length-replicate, length-set}
pub use Rattle.std.proofs.lemmas.List.{length-take, map_more, map_push, take_more}
pub use Rattle.std.proofs.lemmas.List.Elements.{All-cons, All-nil, Contains-append_cases, Contains-append_left, Contains-append_right, Contains-push, Contains-push_cases, filter_map-append}
pub use Rattle.std.proofs.lemmas.List.Folds.{Any-from_list_any, find-append, list_any-append}
pub use Rattle.std.proofs.lemmas.List.FromFn.{fill_by_all, get_or-map-range_with_len, length-map-range_with_len, map-range_with_len_more}
pub use Rattle.std.proofs.lemmas.List.Sums.{fold-append, position_or_len_is, prefix_len-le-length, prefix_len_passes}
pub use Rattle.std.proofs.lemmas.Slice.Eq.{bytes_eq-Decides}
pub use Rattle.std.specs.Global.{Vec}
pub use Rattle.std.specs.List.{AllByRecursion, cons_option, filter_map, find, flat_map, list_all, list_any, position_or_len, prefix_len, range_with_len}
unfoldable pub use Rattle.std.specs.List.{IsDistinct}
pub use Rattle.std.specs.Option.{option_map_or, option_or}
pub use Rattle.std.specs.Prelude.{Err, Ok, Option, Result, codes, if◌then◌else◌, is_some, min, nat_lt, not, option_and_then, option_map, position, slice_get, unwrap_or, ⊤, ◌&&◌, ◌==◌, ◌||◌, ◌≢◌}
pub use Rattle.std.specs.Str.{IsUtf8, bytes_eq}
pub use Rattle.conditions.specs.Grammar.{Spells, Sum, atom, conjunction, operand, parens, term}
pub use Rattle.conditions.specs.declared.condition.Quantifier.TheVariants.{Exists, NotExists}
pub use Rattle.litmus_lines.specs.SkippedLines.{AreSkipped}
pub use Rattle.litmus_lines.specs.declared.fault.LineFault.{LineFault}
pub use Rattle.litmus_syntax.proofs.Options.{handed_on}
pub use Rattle.litmus_syntax.specs.Grammar.{IsBody, IsEnding, NoneTwice, place_of_entry}
pub use Rattle.litmus_syntax.specs.Phrases.{end, item}
pub use Rattle.litmus_syntax.specs.Views.{BodyView, CellView, CodeView, EndingView, EntryView, Load, Location, PlaceView, Register, StoreImm, body_view, cell_view, ending_view, entry_view, place_view}
pub use Rattle.litmus_syntax.specs.Views.{row_view, sign_at_view}
pub use Rattle.litmus_syntax.specs.Words.{column_name}
unfoldable pub use Rattle.litmus_syntax.specs.Words.{is_name, joins_formula, mnemonic_of, opens_condition, reg_of}
pub use Rattle.litmus_syntax.specs.declared.cell.Cell.{Cell}
pub use Rattle.litmus_syntax.specs.declared.entry.Entry.{Entry}
pub use Rattle.litmus_syntax.specs.declared.place.Place.{Place}
pub use Rattle.text_tokens.specs.Lexing.{Lexes, LexesTo}
pub use Rattle.text_tokens.specs.Tokens.{AreAllTokens, Number, Sign, Tok, Word, toks}
pub use Rattle.tso_program.specs.Instructions.{number}
pub use Rattle.tso_program.specs.Limits.{IsWithinFencedLimits, IsWithinLimits, first_fault, first_fenced_fault, first_long}
pub use Rattle.tso_program.specs.Tree.{Tree, tree_map}
pub use Rattle.tso_program.specs.declared.atom.Atom.{Atom}
pub use Rattle.tso_program.specs.declared.instruction.Instr.{Instr}
pub use Rattle.tso_program.specs.declared.instruction.Reg.{Reg, TheVariants.Eax, TheVariants.Ebx}
pub use Rattle.tso_program.specs.declared.limits.ProgramFault.{ProgramFault, TheVariants.Locations, TheVariants.NoThreads, TheVariants.TooLong, TheVariants.TooManyThreads}
pub use Rattle.tso_program.specs.declared.limits.TheConstants.{MAX_FENCED_INSTRUCTIONS, MAX_INSTRUCTIONS, MAX_LOCATIONS, MAX_THREADS}
pub use Rattle.tso_program.specs.declared.listing.Listing.{Listing}
pub use Rattle.tso_program.specs.declared.listing.Thread.{Thread}
pub use Rattle.litmus_reader.specs.Faults.{IsOfAToken, MatchFault, of_lines}
pub use Rattle.litmus_reader.specs.Fronts.{HasFront, IsNotUtf8, RefusesFront}
pub use Rattle.litmus_reader.specs.Internal.Filling.{FindAllAs, FindsAs, byte_at, byte_in, entry_atoms, is_of_location, is_of_register, labels_in, last_said, listing_by, memory_from, no_names, noted}
pub use Rattle.litmus_reader.specs.Internal.Filling.{registers_from, stored, texts, thread_by, thread_in, value_of, with_initial, with_label, with_put}
pub use Rattle.litmus_reader.specs.Internal.Reading.{AreReadTokens, Found, HasNoParts, IfRefused, IsReadOf, IsSyntaxFault, ReadsOne, RefusesText, numbered_signs}
pub use Rattle.litmus_reader.specs.Labels.{JumpsAreFound, all_labels, are_found, cell_jump, column, label_in, labels_behind, position_in, size, thread_labels}
pub use Rattle.litmus_reader.specs.Meaning.{atom_of, code_in, condition_of, first_value, instruction_in, instruction_of, listing_of, memory_of, numbered_atom, observed_of, registers_of, sign_of}
pub use Rattle.litmus_reader.specs.Names.{TextNames, all_registers, in_order, number_in, with_name}
pub use Rattle.litmus_reader.specs.Places.{cell_places, cells_places, entry_place, is_register, location_name, names_among, names_of, places, row_places, sign_places}
pub use Rattle.litmus_reader.specs.Shown.{ShowsNamedLocations, ShowsNamedRegisters, shown_by, with_place, with_places}
pub use Rattle.litmus_reader.specs.Texts.{AreParts, BreaksFirst, Means, RefusesBy, StandsFor, StandsForNothing}
pub use Rattle.litmus_reader.specs.declared.fault.ReadFault.{ReadFault, TheVariants.NotUtf8, TheVariants.OutOfMemory, TheVariants.Program}
pub use Rattle.litmus_reader.specs.declared.label.CodeLabel.{CodeLabel}
pub use Rattle.litmus_reader.specs.declared.litmus.Litmus.{Litmus}
