-- The commands that are built for `clap`.
use Rattle.std.specs.Prelude.{◌≡◌, false, List, Contains, Some}
use Rattle.clap.specs.Words.{App, Row, Text, app_of, subcommand_rows_of}
use Rattle.clap.specs.declared.builder.command.Command.{Command}
use Rattle.clap.specs.declared.builder.command.Command.TheViews.{out-Command}
use Rattle.clap.specs.declared.parser.matches.ArgMatches.{ArgMatches}
use Rattle.fencer_words.specs.declared.job.Job.{Job}
use Rattle.fencer_words.specs.declared.parameter.ChoiceNames.{ChoiceNames}
use Rattle.fencer_words.specs.CommandLines.{AreChoices, AsksForNothing, IsJobOf, asks_twice, command_names, fencer_app, fences_in_vain, reads_input_twice}

-- the command is this one, and has no argument that its subcommands share
pub record IsBuiltAs (app : App) (command : Command) : Type 0 where
  pub shape : app_of command ≡ app
  pub no_globals : (out-Command command).has_globals ≡ false

-- the command is the program's whole command line, with the names among which values are chosen
pub record IsFencerCommand (command : Command) : Type 0 where
  pub choices : ChoiceNames
  pub are_choices : AreChoices choices
  pub built : IsBuiltAs (fencer_app choices) command

-- the parse met a subcommand, and the job is its job
pub record IsJobMet (matches : ArgMatches) (job : Job) : Type 0 where
  pub name : Text
  pub rows : List Row
  pub met : subcommand_rows_of matches ≡ Some (name, rows)
  pub once : asks_twice rows ≡ false
  pub not_in_vain : fences_in_vain rows ≡ false
  pub input_once : reads_input_twice rows ≡ false
  pub asked : IsJobOf name rows job

-- the parse met none of the commands but one that asks for nothing
abbrev pub MeetsNoJob : ArgMatches → Type 0
MeetsNoJob matches = (name : Text) (rows : List Row) → subcommand_rows_of matches ≡ Some (name, rows) → Contains command_names name → AsksForNothing rows
