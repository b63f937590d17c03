-- What many proofs of this crate speak of, imported once.
pub use Rattle.std.proofs.Common.{Bool, Contains, IfNone, IfSome, List, None, Option, Some, [], ap, ap₂, arith, drop, false, find, get_or, inl, inr, is_some, length, map, not, option_map, refl, rules}
pub use Rattle.std.proofs.Common.{subst, suc, sym, take, true, ℕ, ◌&&◌, ◌++◌, ◌<◌, ◌==◌, ◌^◌, ◌||◌, ◌∙◌, ◌∷◌, ◌≡◌, ◌≤◌, ◌⊎◌}
pub use Rattle.std.proofs.lemmas.List.{map-append, map_more, take_all}
pub use Rattle.std.proofs.lemmas.List.Sums.{fold_more}
pub use Rattle.std.specs.Borrow.{Bor}
pub use Rattle.std.specs.List.{AllByRecursion, list_any}
unfoldable pub use Rattle.std.specs.List.{IsDistinct}
pub use Rattle.std.specs.Prelude.{codes, fold, string_bytes}
pub use Rattle.clap.proofs.WalkLemmas.{first_value-rows, raw_values-rows}
pub use Rattle.clap.specs.Lexer.{usize_max}
pub use Rattle.clap.specs.Simple.{app_of_fields, argument_words, built, entered, label_of, names_of, rows_at}
pub use Rattle.clap.specs.Words.{AddsArg, AddsSubcommand, App, HasKind, HasMatchesOf, IsAmong, Kinds, Row, Rule, Shape, Text, app_of, fault_of, found_of, is_simple, is_simple_and_free, kind_of}
pub use Rattle.clap.specs.Words.{new_app, rule_of, subcommand_of, subcommand_rows_of, with_rule, with_subcommand}
pub use Rattle.clap.specs.declared.builder.command.Command.{Command}
pub use Rattle.clap.specs.declared.builder.command.Command.TheOpen.{Command-F}
pub use Rattle.clap.specs.declared.error.Error.{Error}
pub use Rattle.clap.specs.declared.error.kind.ErrorKind.TheVariants.{OutOfMemory}
pub use Rattle.fencer_words.specs.CommandLines.{AreChoices, IsNoCommand, NameList, clashing, command_names, commands_app, faulty, fencer_app, for_nothing, label_rule, litmus_files_rule, model_rule, trees_rule}
pub use Rattle.fencer_words.specs.CommandLines.{name_of_form, named_rule, with_form, with_parameter}
pub use Rattle.fencer_words.specs.Commands.{IsBuiltAs, IsJobMet, MeetsNoJob}
pub use Rattle.fencer_words.specs.declared.parameter.ChoiceNames.{ChoiceNames}
pub use Rattle.fencer_words.specs.Places.{ArePlaceTexts, AreThreadTexts, IsPlaceText, Place, is_same_place, place_numbers}
