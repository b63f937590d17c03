-- What many proofs of this crate speak of, imported once.
pub use Rattle.std.proofs.Common.{Bool, List, None, Option, Some, [], ap, append_assoc, arith, codes, cond, drop, false, get_or, inl, inr, length, map, not, option_map, refl, subst, suc, sym, take}
pub use Rattle.std.proofs.Common.{true, ℕ, ◌&&◌, ◌++◌, ◌+◌, ◌<◌, ◌==◌, ◌||◌, ◌∙◌, ◌∷◌, ◌≡◌, ◌≢◌, ◌≤◌}
pub use Rattle.std.proofs.Math.Bool.{or-false}
pub use Rattle.std.proofs.lemmas.Bool.{and_parts, cond-false, eq-eqb, eqb-true, false_from_ne_true, lt-ltb, not-false, not-true, or_cases, or_parts}
pub use Rattle.std.proofs.lemmas.Bool.Decides.{nat_tests}
pub use Rattle.std.proofs.lemmas.List.{append-nil, length-map, map-append, map_push, take-append-drop, take_all, take_more}
pub use Rattle.std.proofs.lemmas.List.Folds.{list_any-append}
pub use Rattle.std.proofs.lemmas.Option.{cond_some, same_Some}
pub use Rattle.std.proofs.lemmas.Result.{err_from_is_err_and}
pub use Rattle.std.proofs.lemmas.Slice.Eq.{bytes_eq-Decides}
pub use Rattle.std.specs.Global.{Vec}
pub use Rattle.std.specs.List.{All, list_any}
pub use Rattle.std.specs.Prelude.{Err, MatchOption, Ok, Result, is_some, nat_lt}
pub use Rattle.std.specs.Str.{bytes_eq}
pub use Rattle.text_tokens.proofs.PartLaws.{begins_again, begins_other, begins_takes, mark_again, mark_takes, number_again, number_takes, same_mark_is, word_takes}
pub use Rattle.text_tokens.proofs.StepLaws.{bind_some, by_test, kept_out, let_through}
pub use Rattle.text_tokens.specs.Parts.{begins_with, mark_at, number_at, rest_of, word_at}
pub use Rattle.text_tokens.specs.Steps.{Fails, ◌>>=◌}
pub use Rattle.text_tokens.specs.Tokens.{Sign, Tok, Word, toks}
pub use Rattle.text_tokens.specs.declared.token.Mark.{Mark}
pub use Rattle.tso_program.specs.declared.instruction.Reg.{Reg}
pub use Rattle.litmus_syntax.specs.Exact.{NoEnding, Reads, ReadsEnding, ReadsNone}
pub use Rattle.litmus_syntax.specs.Grammar.{HasThread, IsBody, IsCell, IsCells, IsCode, IsContent, IsEnding, IsEntryItem, IsHeader, IsInitial, IsLabelMark, IsNextCell, IsNoneOf, IsObserved}
pub use Rattle.litmus_syntax.specs.Grammar.{IsObservedItem, IsPlace, IsQuantifier, IsRow, IsRowList, IsRows, IsSign, IsSigns, MoreColumns, NoneTwice, before_ending, cell_labels, column, comma}
pub use Rattle.litmus_syntax.specs.Grammar.{ends_cell, ends_rows, immediate, labels_from, labels_in_rows, last, memory, mnemonic, name, place_of_entry, register, row_labels, separator, the_end}
pub use Rattle.litmus_syntax.specs.Phrases.{Items, begins_with_word, end, item, mark, number, word, ◌or◌, ◌▸◌}
pub use Rattle.litmus_syntax.specs.Places.{has, same_place}
pub use Rattle.litmus_syntax.specs.Reading.{as_location, begins_label, fails_for_memory, keyword_at, mark_sign, name_at, names_missing, operands_at, register_at, separator_at, short_sign_at}
unfoldable pub use Rattle.litmus_syntax.specs.Reading.{atom_at, code_at, column_at, compare_at, compared_with_at, content_at, entry_at, entry_value_at, equals_value_at, exchange_at, immediate_at}
unfoldable pub use Rattle.litmus_syntax.specs.Reading.{into_location_at, into_register_at, label_tokens_at, memory_at, move_at, observed_begin_at, observed_item_at, place_among_at, place_at}
unfoldable pub use Rattle.litmus_syntax.specs.Reading.{quantifier_at, sign_at, thread_register_at, word_sign}
pub use Rattle.litmus_syntax.specs.Views.{And, Atom, BodyView, CellView, Close, CmpImm, CmpReg, CodeView, Const, Copy, EndingView, EntryView, Fence, Je, Jmp, Jne, Load, LoadImm, Location, Not, Open}
pub use Rattle.litmus_syntax.specs.Views.{Or, PlaceView, Register, SignView, Store, StoreImm, Xchg, cell_view, code_view, entry_view, label_view, place_view, row_view, sign_at_view, sign_view}
pub use Rattle.litmus_syntax.specs.Words.{column_name}
unfoldable pub use Rattle.litmus_syntax.specs.Words.{is_label, is_name, joins_formula, mnemonic_of, opens_condition, reg_of}
pub use Rattle.litmus_syntax.specs.declared.fault.SyntaxFault.{SyntaxFault, TheVariants.OutOfMemory, TheVariants.Refused}
pub use Rattle.litmus_syntax.specs.declared.mnemonic.Mnemonic.{Mnemonic}
pub use Rattle.litmus_syntax.specs.declared.seen.Seen.{Seen}
