-- The rules of the arguments that are built for `clap`.
use Rattle.fencer_words.proofs.Vocabulary.{◌≡◌, ◌∙◌, Bool, true, false, ◌||◌, [], ◌∷◌, Option, Some, ap, ap₂, codes, Bor, usize_max, Command, with_rule, App, Rule, Text, AddsArg, AddsSubcommand, rule_of, with_subcommand}
use Rattle.fencer_words.proofs.Vocabulary.{IsBuiltAs, NameList, named_rule, model_rule, trees_rule, label_rule, litmus_files_rule}
use Rattle.clap.specs.{declared.builder.action.ArgAction.TheVariants.Append}
use Rattle.clap.specs.{declared.builder.arg.Arg.Arg, declared.builder.range.ValueRange.ValueRange, declared.builder.texts.Texts.TheVariants.One, declared.builder.value_parser.ValueParser.ValueParser}
use Rattle.clap.specs.declared.builder.value_parser.ValueParser.TheVariants as parser

-- an argument with a long name, a parser and a default value
pub model_rule_of : (new long parsed done : Arg) (name value : Bor Text) (models : NameList)
    → rule_of new ≡ named_rule (codes "model")
    → long ≡ record new { long = Some name } → name.now ≡ codes "model"
    → parsed ≡ record long { value_parser = parsed.value_parser } → parsed.value_parser ≡ Some (parser.Names models)
    → done ≡ record parsed { default_vals = One value } → value.now ≡ codes "buffered"
    → rule_of done ≡ model_rule models
model_rule_of new long parsed done name value models new_is long_is name_is parsed_is models_is done_is value_is =
    ap (λ (a : Arg). rule_of a) done_is
    ∙ ap₂ (λ (r : Rule) (t : Text). let s : Rule = record r { defaults = t ∷ [] } in s)
    (ap (λ (a : Arg). rule_of a) parsed_is
    ∙ ap₂ (λ (r : Rule) (p : Option ValueParser). let s : Rule = record r { parser = p } in s)
    (ap (λ (a : Arg). rule_of a) long_is
    ∙ ap₂ (λ (r : Rule) (t : Text). let s : Rule = record r { long = Some t } in s) new_is name_is)
    models_is)
    value_is

-- an argument with a long name and a parser
pub trees_rule_of : (new long done : Arg) (name : Bor Text) (names : NameList)
    → rule_of new ≡ named_rule (codes "trees")
    → long ≡ record new { long = Some name } → name.now ≡ codes "trees"
    → done ≡ record long { value_parser = done.value_parser } → done.value_parser ≡ Some (parser.Names names)
    → rule_of done ≡ trees_rule names
trees_rule_of new long done name names new_is long_is name_is done_is names_is =
    ap (λ (a : Arg). rule_of a) done_is
    ∙ ap₂ (λ (r : Rule) (p : Option ValueParser). let s : Rule = record r { parser = p } in s)
    (ap (λ (a : Arg). rule_of a) long_is
    ∙ ap₂ (λ (r : Rule) (t : Text). let s : Rule = record r { long = Some t } in s) new_is name_is)
    names_is

-- an argument with a range of values and an action
pub label_rule_of : (new ranged done : Arg) → rule_of new ≡ named_rule (codes "label")
    → ranged ≡ record new { num_vals = ranged.num_vals }
    → ranged.num_vals ≡ Some (record { start_inclusive = 0; end_inclusive = usize_max })
    → done ≡ record ranged { action = Some Append }
    → rule_of done ≡ label_rule
label_rule_of new ranged done new_is ranged_is range_is done_is =
    ap (λ (a : Arg). rule_of a) done_is
    ∙ ap (λ (r : Rule). let s : Rule = record r { action = Some Append } in s)
    (ap (λ (a : Arg). rule_of a) ranged_is
    ∙ ap₂ (λ (r : Rule) (v : Option ValueRange). let s : Rule = record r { range = v } in s) new_is range_is)

-- an argument that must be given, with a range of values and an action
pub files_rule_of : (new ranged acted done : Arg) → rule_of new ≡ named_rule (codes "litmus")
    → ranged ≡ record new { num_vals = ranged.num_vals }
    → ranged.num_vals ≡ Some (record { start_inclusive = 1; end_inclusive = usize_max })
    → acted ≡ record ranged { action = Some Append }
    → done ≡ record acted { required = true }
    → rule_of done ≡ litmus_files_rule
files_rule_of new ranged acted done new_is ranged_is range_is acted_is done_is =
    ap (λ (a : Arg). rule_of a) done_is
    ∙ ap (λ (r : Rule). let s : Rule = record r { required = true } in s)
    (ap (λ (a : Arg). rule_of a) acted_is
    ∙ ap (λ (r : Rule). let s : Rule = record r { action = Some Append } in s)
    (ap (λ (a : Arg). rule_of a) ranged_is
    ∙ ap₂ (λ (r : Rule) (v : Option ValueRange). let s : Rule = record r { range = v } in s) new_is range_is))

neither : (a b c : Bool) → c ≡ (a || b) → a ≡ false → b ≡ false → c ≡ false
neither a b c is no_a no_b = is ∙ ap₂ (λ (x y : Bool). x || y) no_a no_b

-- a command with one argument more
pub one_argument_more : (old new : Command) (argument : Arg) (app : App) (rule : Rule) → IsBuiltAs app old → rule_of argument ≡ rule → argument.global ≡ false → AddsArg old argument new → IsBuiltAs (with_rule app rule) new
one_argument_more old new argument app rule built is own adds = record {
  shape = adds.shape own ∙ ap₂ with_rule built.shape is;
  no_globals = neither _ _ _ adds.globals built.no_globals own;
}

-- and with one command more
pub one_command_more : (old new sub : Command) (app below : App) → IsBuiltAs app old → IsBuiltAs below sub → AddsSubcommand old sub new → IsBuiltAs (with_subcommand app below.top) new
one_command_more old new sub app below built is adds = record {
  shape = adds.shape is.no_globals ∙ ap₂ with_subcommand built.shape (ap (λ (a : App). a.top) is.shape);
  no_globals = neither _ _ _ adds.globals built.no_globals is.no_globals;
}
