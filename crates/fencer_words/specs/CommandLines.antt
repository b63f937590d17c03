-- What command lines ask for. `clap` reads them: its `subcommand_of` gives the subcommand that words name, with the rows
-- of its values.
use Rattle.std.specs.Prelude.{◌≡◌, ◌≢◌, ◌⊎◌, ℕ, ◌≤◌, Bool, true, false, List, [], ◌∷◌, Option, Some, None, Contains, codes, is_some, count_by, map, nat_lt, not, option_map, string_bytes, unwrap_or, fold, if◌then◌else◌, ◌&&◌, ◌||◌}
use Rattle.std.specs.Option.{option_map_or}
use Rattle.std.specs.Str.{IsUtf8, bytes_eq}
use Rattle.std.specs.Str.Parse.{digits_value, without_leading_plus}
use Rattle.std.specs.Borrow.{Bor}
use Rattle.clap.specs.Lexer.{usize_max}
use Rattle.clap.specs.Words.{App, Row, Rule, Text, IsUnsignedIn, all_of, fault_of, first_of, new_app, new_rule, subcommand_of, with_rule, with_subcommand}
use Rattle.clap.specs.Simple.{on_top}
use Rattle.clap.specs.declared.builder.action.ArgAction.TheVariants.{Append, SetTrue}
use Rattle.clap.specs.declared.builder.value_parser.ValueParser.TheVariants as parser
use Rattle.tso_machine.specs.declared.label.Model as machine
use Rattle.tso_machine.specs.declared.label.Model.TheVariants.{Buffered, Sequential}
use Rattle.tso_program.specs.declared.shown.ShownKind.{ShownKind}
use Rattle.tso_program.specs.declared.shown.ShownKind.TheVariants as kind
use Rattle.fencer_words.specs.declared.form.Form.{Form}
use Rattle.fencer_words.specs.declared.form.Form.TheVariants as form
use Rattle.fencer_words.specs.declared.parameter.ChoiceNames.{ChoiceNames}
use Rattle.fencer_words.specs.declared.parameter.Parameter.{Parameter}
use Rattle.fencer_words.specs.declared.parameter.Parameter.TheVariants.{AllowUnexecuted, Certificate, CheckAnswer, CheckList, CheckRun, Condition, Costs, Fences, Graph, Graphs, Insert, Json, Labels, Litmus, LitmusFiles, Model, Not, Observed, Output, Page, Progress, Runs, Same, Template, TieAnswers, Ties, Trees, Tries, Workers}
use Rattle.fencer_words.specs.declared.job.Job.{Job, TheVariants.Replay, TheVariants.Trace, TheVariants.Outcomes, TheVariants.Place, TheVariants.Why, TheVariants.Gaps, TheVariants.Witness, TheVariants.Survey}
use Rattle.fencer_words.specs.declared.job.Run.{Run}
use Rattle.fencer_words.specs.declared.job.TieQuery.{TieQuery}
use Rattle.fencer_words.specs.CommandFiles.{files_of, has_clash}
use Rattle.fencer_words.specs.Places as places
use Rattle.tso_program.specs.declared.limits.TheConstants.{MAX_WORKERS}
use Rattle.cert_trees.specs.declared.rule.Rule.{Rule as TreeRule}
use Rattle.cert_trees.specs.declared.rule.Rule.TheVariants.{Whole, Early}

-- ---- arguments

-- names among which a value is chosen, as `clap` keeps them
abbrev pub NameList : Type 0
NameList = Bor (List (Bor Text))

-- the list has these names
abbrev pub HasNames : NameList → List Text → Type 0
HasNames names texts = map (λ (name : Bor Text). name.now) names.now ≡ texts

-- the names of the two models, and of the two rules of trees
pub record AreChoices (names : ChoiceNames) : Type 0 where
  pub models : HasNames names.models (codes "buffered" ∷ codes "sequential" ∷ [])
  pub trees : HasNames names.trees (codes "whole" ∷ codes "early" ∷ [])

-- an argument with one value, which help calls by a name
abbrev pub named_rule : Text → Rule
named_rule id = record (new_rule id) { value_names = 1 }

-- `--NAME VALUE`
abbrev pub value_rule : Text → Rule
value_rule name = record (named_rule name) { long = Some name }

-- `--model MODEL`
abbrev pub model_rule : NameList → Rule
model_rule models = record (value_rule (codes "model")) {
  parser = Some (parser.Names models);
  defaults = codes "buffered" ∷ [];
}

-- `--trees RULE`
abbrev pub trees_rule : NameList → Rule
trees_rule names = record (value_rule (codes "trees")) { parser = Some (parser.Names names) }

-- `LITMUS`
abbrev pub litmus_rule : Rule
litmus_rule = record (named_rule (codes "litmus")) { required = true }

-- `LITMUS..`
abbrev pub litmus_files_rule : Rule
litmus_files_rule = record (named_rule (codes "litmus")) {
  required = true;
  action = Some Append;
  range = Some (record { start_inclusive = 1; end_inclusive = usize_max });
}

-- `[LABEL..]`
abbrev pub label_rule : Rule
label_rule = record (named_rule (codes "label")) {
  action = Some Append;
  range = Some (record { start_inclusive = 0; end_inclusive = usize_max });
}

-- `--NAME`
abbrev pub flag_rule : Text → Rule
flag_rule name = record (new_rule name) { long = Some name; action = Some SetTrue }

-- `--workers N`
abbrev pub workers_rule : Rule
workers_rule = record (value_rule (codes "workers")) {
  parser = Some (parser.Unsigned 1 MAX_WORKERS);
  defaults = codes "1" ∷ [];
}

-- as what `clap` reads each parameter
abbrev pub rule_of_parameter : ChoiceNames → Parameter → Rule
rule_of_parameter names AllowUnexecuted = flag_rule (codes "allow-unexecuted")
rule_of_parameter names Certificate = value_rule (codes "certificate")
rule_of_parameter names CheckAnswer = flag_rule (codes "check")
rule_of_parameter names CheckList = flag_rule (codes "check")
rule_of_parameter names CheckRun = flag_rule (codes "check")
rule_of_parameter names Condition = flag_rule (codes "condition")
rule_of_parameter names Costs = value_rule (codes "costs")
rule_of_parameter names Fences = value_rule (codes "fences")
rule_of_parameter names Graph = value_rule (codes "dot")
rule_of_parameter names Graphs = value_rule (codes "dot")
rule_of_parameter names Insert = value_rule (codes "insert")
rule_of_parameter names Json = flag_rule (codes "json")
rule_of_parameter names Labels = label_rule
rule_of_parameter names Litmus = litmus_rule
rule_of_parameter names LitmusFiles = litmus_files_rule
rule_of_parameter names Model = model_rule names.models
rule_of_parameter names Not = flag_rule (codes "not")
rule_of_parameter names Observed = flag_rule (codes "observed")
rule_of_parameter names Output = value_rule (codes "output")
rule_of_parameter names Page = value_rule (codes "html")
rule_of_parameter names Progress = flag_rule (codes "progress")
rule_of_parameter names Runs = flag_rule (codes "runs")
rule_of_parameter names Same = value_rule (codes "same")
rule_of_parameter names Template = flag_rule (codes "template")
rule_of_parameter names TieAnswers = flag_rule (codes "ties")
rule_of_parameter names Ties = flag_rule (codes "ties")
rule_of_parameter names Trees = trees_rule names.trees
rule_of_parameter names Tries = flag_rule (codes "tries")
rule_of_parameter names Workers = workers_rule

-- ---- commands

-- the commands
abbrev pub forms : List Form
forms = form.Replay ∷ form.Outcomes ∷ form.Place ∷ form.Trace ∷ form.Why ∷ form.Gaps ∷ form.Witness ∷ form.Survey ∷ []

-- the name of each
abbrev pub name_of_form : Form → Text
name_of_form form.Replay = codes "replay"
name_of_form form.Outcomes = codes "outcomes"
name_of_form form.Place = codes "place"
name_of_form form.Trace = codes "trace"
name_of_form form.Why = codes "why"
name_of_form form.Gaps = codes "gaps"
name_of_form form.Witness = codes "witness"
name_of_form form.Survey = codes "survey"

-- and the parameters that it takes
abbrev pub parameters_of : Form → List Parameter
parameters_of form.Replay = Model ∷ Litmus ∷ Labels ∷ []
parameters_of form.Outcomes = Model ∷ Fences ∷ Workers ∷ Runs ∷ Observed ∷ CheckList ∷ Json ∷ Progress ∷ Litmus ∷ []
parameters_of form.Place = Costs ∷ Workers ∷ Trees ∷ Certificate ∷ Output ∷ Insert ∷ Observed ∷ Condition ∷ CheckAnswer ∷ Json ∷ Progress ∷ Litmus ∷ []
parameters_of form.Trace = Model ∷ Graph ∷ Page ∷ Json ∷ Litmus ∷ Labels ∷ []
parameters_of form.Why = Costs ∷ Workers ∷ Graphs ∷ Page ∷ Observed ∷ Condition ∷ Json ∷ Progress ∷ Litmus ∷ []
parameters_of form.Gaps = Costs ∷ Template ∷ Ties ∷ Same ∷ Tries ∷ Json ∷ Litmus ∷ []
parameters_of form.Witness = Model ∷ Not ∷ Fences ∷ Graph ∷ Page ∷ CheckRun ∷ Json ∷ Progress ∷ Litmus ∷ []
parameters_of form.Survey = Workers ∷ AllowUnexecuted ∷ TieAnswers ∷ Json ∷ LitmusFiles ∷ []

-- a command with one parameter more
abbrev pub with_parameter : ChoiceNames → App → Parameter → App
with_parameter names app parameter = with_rule app (rule_of_parameter names parameter)

-- the command of a form
abbrev pub app_of_form : ChoiceNames → Form → App
app_of_form names form = fold (with_parameter names) (new_app (name_of_form form)) (parameters_of form)

-- a command line with one command more
abbrev pub with_form : ChoiceNames → App → Form → App
with_form names app form = with_subcommand app (app_of_form names form).top

-- a command line is one of these commands, and nothing before it
abbrev pub commands_app : App
commands_app = on_top (λ s. record s { no_binary_name = true; subcommand_required = true; disable_help_subcommand = true }) (new_app (codes "fencer"))

-- the program's whole command line, after its name
abbrev pub fencer_app : ChoiceNames → App
fencer_app names = fold (with_form names) commands_app forms

-- the names of the commands
abbrev pub command_names : List Text
command_names = map name_of_form forms

-- ---- values

-- the value of an argument that must be given
abbrev pub text_in : Text → List Row → Text
text_in argument rows = unwrap_or (first_of argument rows) []

-- all values of an argument
abbrev pub texts_in : Text → List Row → List Text
texts_in argument rows = unwrap_or (all_of argument rows) []

-- whether an argument has this value
abbrev pub has_value : Text → Text → List Row → Bool
has_value argument wanted rows = option_map_or (λ value. bytes_eq value wanted) (first_of argument rows) false

-- whether a flag is given: its value is then `true`, and `false` otherwise
abbrev pub is_flagged : Text → List Row → Bool
is_flagged flag rows = has_value flag (codes "true") rows

-- the model that is named
abbrev pub model_in : List Row → machine.Model
model_in rows = if has_value (codes "model") (codes "sequential") rows then Sequential else Buffered

-- the rule of trees that is named, if one is
abbrev pub trees_in : List Row → Option TreeRule
trees_in rows = if has_value (codes "trees") (codes "whole") rows then Some Whole else (if has_value (codes "trees") (codes "early") rows then Some Early else None)

-- what is compared of outcomes: whether the condition's formula is true, what is observed, or all
abbrev pub kind_in : List Row → ShownKind
kind_in rows = if is_flagged (codes "condition") rows then kind.Condition else (if is_flagged (codes "observed") rows then kind.Observed else kind.Whole)

-- both are asked for
abbrev pub asks_twice : List Row → Bool
asks_twice rows = is_flagged (codes "observed") rows && is_flagged (codes "condition") rows

-- fences are given for the sequential machine, in which none matters
abbrev pub fences_in_vain : List Row → Bool
fences_in_vain rows = has_value (codes "model") (codes "sequential") rows && is_some (first_of (codes "fences") rows)

-- more than one litmus file is the input, which is read once
abbrev pub is_input : Text → Bool
is_input name = bytes_eq name (codes "-")

abbrev pub reads_input_twice : List Row → Bool
reads_input_twice rows = nat_lt 1 (count_by is_input (texts_in (codes "litmus") rows))

-- `--fences` has a value that lists no places
abbrev pub LacksPlaces : List Row → Type 0
LacksPlaces rows = (text : Text) × (first_of (codes "fences") rows ≡ Some text) × places.ListsNoPlaces text

-- `--same` has a value that lists no threads
abbrev pub LacksThreads : List Row → Type 0
LacksThreads rows = (text : Text) × (first_of (codes "same") rows ≡ Some text) × places.ListsNoThreads text

-- the rows of a command that asks for nothing: for two comparisons of outcomes, for fences of the sequential machine, for the input
-- twice, for fences at no places, or for the code of no threads
abbrev pub AsksForNothing : List Row → Type 0
AsksForNothing rows = (asks_twice rows ≡ true) ⊎ (fences_in_vain rows ≡ true) ⊎ (reads_input_twice rows ≡ true) ⊎ (LacksPlaces rows ⊎ LacksThreads rows)

-- gaps are to go together
abbrev pub asks_ties : List Row → Bool
asks_ties rows = is_flagged (codes "ties") rows || is_flagged (codes "tries") rows || is_some (first_of (codes "same") rows)

-- which gaps are to go together, if any are: those of the threads that are named, or of those that are alike
abbrev pub AreTiesAsked : List Row → Option TieQuery → Type 0
AreTiesAsked rows None = asks_ties rows ≡ false
AreTiesAsked rows (Some ties) =
    (asks_ties rows ≡ true) × places.AreGivenThreads (first_of (codes "same") rows) (option_map (λ threads. threads.items) ties.same)
    × (ties.tries ≡ is_flagged (codes "tries") rows)

-- how many workers a text asks for, from 1 to the most; `clap` refuses a text that is no such number
pub record AreWorkers (text : Text) (workers : ℕ) : Type 0 where
  pub least : 1 ≤ workers
  pub most : workers ≤ MAX_WORKERS
  pub named : IsUnsignedIn 1 MAX_WORKERS text → workers ≡ digits_value 10 (without_leading_plus text)

-- ---- jobs

-- the run that is asked about
pub record IsRunAsked (rows : List Row) (asked : Run) : Type 0 where
  pub model : asked.model ≡ model_in rows
  pub litmus : string_bytes asked.litmus ≡ text_in (codes "litmus") rows
  pub labels : map string_bytes asked.labels.items ≡ texts_in (codes "label") rows

-- the job that the command of this name asks for, by the rows of its values
abbrev pub IsJobOf : Text → List Row → Job → Type 0
IsJobOf name rows (Replay asked) = (name ≡ codes "replay") × IsRunAsked rows asked
IsJobOf name rows (Trace asked) =
    (name ≡ codes "trace")
    × IsRunAsked rows asked.run
    × (option_map string_bytes asked.graph ≡ first_of (codes "dot") rows)
    × (option_map string_bytes asked.page ≡ first_of (codes "html") rows)
    × (asked.json ≡ is_flagged (codes "json") rows)
IsJobOf name rows (Outcomes asked) =
    (name ≡ codes "outcomes")
    × (asked.model ≡ model_in rows)
    × places.AreGivenPlaces (first_of (codes "fences") rows) asked.fences.items
    × AreWorkers (text_in (codes "workers") rows) asked.workers
    × (asked.runs ≡ is_flagged (codes "runs") rows)
    × (asked.observed ≡ is_flagged (codes "observed") rows)
    × (asked.check ≡ is_flagged (codes "check") rows)
    × (asked.json ≡ is_flagged (codes "json") rows)
    × (asked.progress ≡ is_flagged (codes "progress") rows)
    × (string_bytes asked.litmus ≡ text_in (codes "litmus") rows)
IsJobOf name rows (Place asked) =
    (name ≡ codes "place")
    × (option_map string_bytes asked.costs ≡ first_of (codes "costs") rows)
    × AreWorkers (text_in (codes "workers") rows) asked.workers
    × (asked.trees ≡ trees_in rows)
    × (option_map string_bytes asked.certificate ≡ first_of (codes "certificate") rows)
    × (option_map string_bytes asked.output ≡ first_of (codes "output") rows)
    × (option_map string_bytes asked.insert ≡ first_of (codes "insert") rows)
    × (asked.kind ≡ kind_in rows)
    × (asked.check ≡ is_flagged (codes "check") rows)
    × (asked.json ≡ is_flagged (codes "json") rows)
    × (asked.progress ≡ is_flagged (codes "progress") rows)
    × (string_bytes asked.litmus ≡ text_in (codes "litmus") rows)
IsJobOf name rows (Why asked) =
    (name ≡ codes "why")
    × (option_map string_bytes asked.placement.costs ≡ first_of (codes "costs") rows)
    × AreWorkers (text_in (codes "workers") rows) asked.placement.workers
    × (asked.placement.trees ≡ None)
    × (asked.placement.certificate ≡ None)
    × (asked.placement.output ≡ None)
    × (asked.placement.insert ≡ None)
    × (asked.placement.kind ≡ kind_in rows)
    × (asked.placement.check ≡ false)
    × (asked.placement.json ≡ is_flagged (codes "json") rows)
    × (asked.placement.progress ≡ is_flagged (codes "progress") rows)
    × (string_bytes asked.placement.litmus ≡ text_in (codes "litmus") rows)
    × (option_map string_bytes asked.graphs ≡ first_of (codes "dot") rows)
    × (option_map string_bytes asked.page ≡ first_of (codes "html") rows)
IsJobOf name rows (Gaps asked) =
    (name ≡ codes "gaps")
    × (option_map string_bytes asked.costs ≡ first_of (codes "costs") rows)
    × (asked.template ≡ is_flagged (codes "template") rows)
    × (asked.json ≡ is_flagged (codes "json") rows)
    × AreTiesAsked rows asked.ties
    × (string_bytes asked.litmus ≡ text_in (codes "litmus") rows)
IsJobOf name rows (Witness asked) =
    (name ≡ codes "witness")
    × (asked.model ≡ model_in rows)
    × (asked.meets ≡ not (is_flagged (codes "not") rows))
    × places.AreGivenPlaces (first_of (codes "fences") rows) asked.fences.items
    × (option_map string_bytes asked.graph ≡ first_of (codes "dot") rows)
    × (option_map string_bytes asked.page ≡ first_of (codes "html") rows)
    × (asked.check ≡ is_flagged (codes "check") rows)
    × (asked.json ≡ is_flagged (codes "json") rows)
    × (asked.progress ≡ is_flagged (codes "progress") rows)
    × (string_bytes asked.litmus ≡ text_in (codes "litmus") rows)
IsJobOf name rows (Survey asked) =
    (name ≡ codes "survey")
    × AreWorkers (text_in (codes "workers") rows) asked.options.workers
    × (asked.options.allow_unexecuted ≡ is_flagged (codes "allow-unexecuted") rows)
    × (asked.options.ties ≡ is_flagged (codes "ties") rows)
    × (asked.options.json ≡ is_flagged (codes "json") rows)
    × (map string_bytes asked.files.items ≡ texts_in (codes "litmus") rows)

-- the arguments name the job: `clap` finds no fault in them, they ask for one comparison of outcomes, for no fences of the
-- sequential machine, and for the input once at most
pub record Names (words : List Text) (job : Job) : Type 0 where
  pub choices : ChoiceNames
  pub are_choices : AreChoices choices
  pub name : Text
  pub rows : List Row
  pub no_fault : fault_of (fencer_app choices) words ≡ []
  pub read : subcommand_of (fencer_app choices) words ≡ Some (name, rows)
  pub once : asks_twice rows ≡ false
  pub not_in_vain : fences_in_vain rows ≡ false
  pub input_once : reads_input_twice rows ≡ false
  pub asked : IsJobOf name rows job

-- the arguments ask for the job: they name it, and the files that it writes are none that it reads, and apart
pub record AsksFor (words : List Text) (job : Job) : Type 0 where
  pub named : Names words job
  pub apart : has_clash (files_of job) ≡ false

-- The arguments are no command: one of them is no UTF-8; `clap` finds a fault in them, as which it takes a call for help; they ask
-- for two comparisons of outcomes, for fences of the sequential machine, for the input twice, for fences at what are no places, or for
-- threads by what are no numbers; or they name a job that writes a file which it reads, or a file twice.
pub data IsNoCommand (words : List Text) : Type 0 where
  no_utf8 : (word : Text) → Contains words word → (IsUtf8 word → ⊥) → IsNoCommand words
  faulty : (choices : ChoiceNames) → AreChoices choices → fault_of (fencer_app choices) words ≢ [] → IsNoCommand words
  for_nothing : (choices : ChoiceNames) (name : Text) (rows : List Row) → AreChoices choices → subcommand_of (fencer_app choices) words ≡ Some (name, rows) → AsksForNothing rows → IsNoCommand words
  clashing : (job : Job) → Names words job → has_clash (files_of job) ≡ true → IsNoCommand words
