-- What many proofs of this crate speak of, imported once.
pub use Rattle.std.proofs.Common.{Bool, List, None, Option, Some, [], ap, append_assoc, arith, cond, drop, false, get_or, inl, inr, length, nat_eq, refl, rules, subst, suc, sym, take, true, zero, ℕ}
pub use Rattle.std.proofs.Common.{◌*◌, ◌++◌, ◌+◌, ◌-◌, ◌<◌, ◌==◌, ◌^◌, ◌∙◌, ◌∷◌, ◌≡◌, ◌≢◌, ◌≤◌, ◌⊎◌}
pub use Rattle.std.proofs.lemmas.Bool.{and_from, and_parts, cases_Bool, cases_lt, eq-eqb, eqb-true, false_from_ne_true, le-leb, leb-true}
pub use Rattle.std.proofs.lemmas.Bool.Decides.{Decides-eqb, nat_tests}
pub use Rattle.std.proofs.lemmas.Fmt.{decimal-digits_value, decimal_digit, decimal_nonempty, digits_decimal, digits_value-decimal, first_decimal}
pub use Rattle.std.proofs.lemmas.List.{append-nil, drop_at, get_or-take, get_or_past, length-append, length-drop, map_push, nil_from_length, take-append-drop, take_at}
pub use Rattle.std.proofs.lemmas.Option.{cond_some, none-some, same_Some}
pub use Rattle.std.specs.Char.{digit_value, is_ascii_digit}
pub use Rattle.std.specs.Fmt.{decimal}
pub use Rattle.std.specs.List.{list_all, prefix_len, starts_with}
pub use Rattle.std.specs.Prelude.{IfSome, if◌then◌else◌, min, nat_le, slice_index}
pub use Rattle.std.specs.Str.Parse.{digits_value}
pub use Rattle.text_tokens.specs.Bytes.{is_letter, is_white_space, is_word_byte}
pub use Rattle.text_tokens.specs.Comments.{Inside, IsComment, close, closes, nested, opens, other}
pub use Rattle.text_tokens.specs.Lexing.{AreDigits, BeginsWith, BeginsWithAll, IsBad, IsBadNumber, IsHalf, IsStray, IsWord, Lexes, none, token, white_space}
pub use Rattle.text_tokens.specs.Marks.{mark_code, mark_text, same_mark}
unfoldable pub use Rattle.text_tokens.specs.Marks.{mark_from}
pub use Rattle.text_tokens.specs.Numbers.{is_plain, value_at}
unfoldable pub use Rattle.text_tokens.specs.Numbers.{plain_number_at}
pub use Rattle.text_tokens.specs.Space.{IsAfterSpace, comment, nothing}
pub use Rattle.text_tokens.specs.Tokens.{AreAllTokens, NoToken, Number, Sign, Tok, Word, toks}
pub use Rattle.text_tokens.specs.declared.token.Bad.{Bad}
pub use Rattle.text_tokens.specs.declared.token.Mark.{Mark}
pub use Rattle.text_tokens.specs.declared.token.Mark.TheVariants.{And, Bar, CloseBrace, CloseBracket, CloseParen, Colon, Comma, Dollar, Equals, OpenBrace, OpenBracket, OpenParen, Or, Semicolon, Tilde}
