-- What many proofs of this crate speak of, imported once.
pub use Rattle.std.proofs.Common.{Bool, List, None, Option, Some, [], ap, append_assoc, arith, cond, drop, false, get_or, inl, inr, length, length-append, refl, subst, suc, sym, take, true, zero, ℕ}
pub use Rattle.std.proofs.Common.{◌%◌, ◌*◌, ◌++◌, ◌+◌, ◌-◌, ◌/◌, ◌<◌, ◌==◌, ◌^◌, ◌↔◌, ◌∙◌, ◌∷◌, ◌≡◌, ◌≤◌}
pub use Rattle.std.proofs.lemmas.Bool.{and_from, and_parts, cases_Bool, cases_lt, eqb-true, le-ltb, ltb-false}
pub use Rattle.std.proofs.lemmas.Bool.Decides.{nat_tests}
pub use Rattle.std.proofs.lemmas.Fmt.{decimal_digit, decimal_step, digits_decimal, digits_value-decimal, first_decimal}
pub use Rattle.std.proofs.lemmas.List.{append-nil, drop_at, take-append-drop, take_all, take_at}
pub use Rattle.std.proofs.lemmas.Option.{cond_some, same_Some}
pub use Rattle.std.specs.Char.{digit_value, is_ascii_digit}
pub use Rattle.std.specs.Fmt.{decimal}
pub use Rattle.std.specs.List.{AllByRecursion, list_all, prefix_len}
pub use Rattle.text_tokens.proofs.NumberLaws.{own, plain_number_again, plain_number_takes}
pub use Rattle.text_tokens.proofs.StepLaws.{bind_some, kept_out}
pub use Rattle.text_tokens.specs.Steps.{◌>>=◌}
pub use Rattle.cert_words.specs.Completions.{CanBecome}
pub use Rattle.cert_words.specs.Lines.{spaced, texts_of}
pub use Rattle.cert_words.specs.Words.{after_word, ends_word, front, is_inner, letter_of, repeat_at, spaced_word_at}
unfoldable pub use Rattle.cert_words.specs.Words.{count_at, end_at, letter_at, line_name_at, number_within_at, word_at}
