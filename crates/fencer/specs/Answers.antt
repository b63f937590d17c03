-- What the program prints for a command line and an input, and with which status. `files` says what files held before, and `left`
-- what they hold afterwards, where that is known.
use Rattle.std.specs.Prelude.{◌≡◌, ◌⊎◌, ℕ, ◌+◌, ◌≤◌, true, false, List, [], ◌∷◌, Option, Some, codes, length, map, string_bytes}
use Rattle.clap.specs.Words.{Text}
use Rattle.program_streams.specs.declared.fault.FileFault.{FileFault}
use Rattle.program_streams.specs.declared.files.TheConstants.{TEXT_LIMIT}
use Rattle.program_streams.specs.Files.{ReadsOfInput}
use Rattle.program_streams.specs.Streams.{IsReadFault, TakesLine, TakesOfLine, TakesUpTo}
use Rattle.program_streams.specs.Words.{words_of}
use Rattle.program_streams.specs.FileLines.{file_line}
use Rattle.program_streams.specs.Versions.{asks_version, version_line}
use Rattle.fencer_words.specs.declared.job.Job.{Job, TheVariants.Replay, TheVariants.Trace, TheVariants.Outcomes, TheVariants.Place, TheVariants.Why, TheVariants.Gaps, TheVariants.Witness, TheVariants.Survey}
use Rattle.fencer_words.specs.CommandFiles.{files_of}
use Rattle.fencer_words.specs.CommandLines.{AsksFor, IsNoCommand}
use Rattle.fencer.specs.Lines.{EndsLine}
use Rattle.outcome_answers.specs.Outcomes.{AreOutcomes}
use Rattle.fencer.specs.GapTexts.{AreGaps}
use Rattle.fencer.specs.Placements.{IsPlaced}
use Rattle.answers.specs.Replays.{IsReplay, label_words_text}
use Rattle.fencer.specs.Surveys.{IsSurvey, ReadsOfSomeFiles}
use Rattle.answers.specs.Traces.{IsTrace}
use Rattle.fencer.specs.Whys.{IsExplained}
use Rattle.outcome_answers.specs.Witnesses.{IsWitnessShown}

-- ---- what is printed

-- the answer to a job
abbrev pub IsAnswer : Job → Option (List ℕ) → (List ℕ → Option (List ℕ)) → (List ℕ → Option (List ℕ)) → ℕ → List ℕ → Type 0
IsAnswer (Replay asked) input files left = IsReplay asked.model (label_words_text asked.labels.items) (string_bytes asked.litmus) input files
IsAnswer (Trace asked) input files left = IsTrace asked input files left
IsAnswer (Outcomes asked) input files left = AreOutcomes asked input files
IsAnswer (Place asked) input files left = IsPlaced asked input files left
IsAnswer (Why asked) input files left = IsExplained asked input files left
IsAnswer (Gaps asked) input files left = AreGaps asked input files
IsAnswer (Witness asked) input files left = IsWitnessShown asked input files left
IsAnswer (Survey asked) input files left = IsSurvey asked input files

-- the first line of the input has more bytes than the limit
abbrev pub HasTooLongLine : Option (List ℕ) → Type 0
HasTooLongLine input = (rest : Option (List ℕ)) × TakesOfLine input rest (TEXT_LIMIT + 1)

-- the reply to words: the version, where they ask for it; the answer to the job that they ask for; or, where they are no command,
-- lines that tell so
pub data IsReply (words : List Text) (input : Option (List ℕ)) (files left : List ℕ → Option (List ℕ)) : ℕ → List ℕ → Type 0 where
  version : asks_version words ≡ true → IsReply words input files left 0 (version_line (codes "fencer"))
  answer : (job : Job) (status : ℕ) (text : List ℕ) → asks_version words ≡ false → AsksFor words job → IsAnswer job input files left status text → IsReply words input files left status text
  no_command : (text : List ℕ) → asks_version words ≡ false → IsNoCommand words → EndsLine text → IsReply words input files left 2 text

-- the reply to an input alone: its first line has the words, and what follows it is the input
pub data IsReplyToInput (input : Option (List ℕ)) (files left : List ℕ → Option (List ℕ)) : ℕ → List ℕ → Type 0 where
  by_line : (line : List ℕ) (rest : Option (List ℕ)) (status : ℕ) (text : List ℕ) → TakesLine input rest line → length line ≤ TEXT_LIMIT → IsReply (words_of line) rest files left status text → IsReplyToInput input files left status text
  no_line : (why : FileFault) → IsReadFault (HasTooLongLine input) why → IsReplyToInput input files left 1 (file_line why)

-- what the program prints for the words after its name, an input and files, with which status
abbrev pub IsOutput : List Text → Option (List ℕ) → (List ℕ → Option (List ℕ)) → (List ℕ → Option (List ℕ)) → ℕ → List ℕ → Type 0
IsOutput [] input files left = IsReplyToInput input files left
IsOutput (word ∷ words) input files left = IsReply (word ∷ words) input files left

-- ---- what is read of the input

-- no more than shows that the file of this name is too long
abbrev pub ReadsOfLitmus : List ℕ → Option (List ℕ) → Option (List ℕ) → Type 0
ReadsOfLitmus = ReadsOfInput TEXT_LIMIT

-- for a job: no more than shows that its litmus file is too long; for a survey, file by file
abbrev pub ReadsOfJob : Job → Option (List ℕ) → Option (List ℕ) → Type 0
ReadsOfJob (Replay asked) = ReadsOfLitmus (string_bytes asked.litmus)
ReadsOfJob (Trace asked) = ReadsOfLitmus (string_bytes asked.run.litmus)
ReadsOfJob (Outcomes asked) = ReadsOfLitmus (string_bytes asked.litmus)
ReadsOfJob (Place asked) = ReadsOfLitmus (string_bytes asked.litmus)
ReadsOfJob (Why asked) = ReadsOfLitmus (string_bytes asked.placement.litmus)
ReadsOfJob (Gaps asked) = ReadsOfLitmus (string_bytes asked.litmus)
ReadsOfJob (Witness asked) = ReadsOfLitmus (string_bytes asked.litmus)
ReadsOfJob (Survey asked) = ReadsOfSomeFiles (map string_bytes asked.files.items)

-- for words: nothing; or, where they ask for a job, what is read for it
pub data ReadsForWords (words : List Text) (old new : Option (List ℕ)) : Type 0 where
  nothing : new ≡ old → ReadsForWords words old new
  of_job : (job : Job) → AsksFor words job → ReadsOfJob job old new → ReadsForWords words old new

-- for an input alone: no more than shows that its first line is too long; or that line, and after it what is read for its words
pub data ReadsForInput (old new : Option (List ℕ)) : Type 0 where
  line_alone : TakesUpTo old new (TEXT_LIMIT + 1) → ReadsForInput old new
  after_line : (line : List ℕ) (rest : Option (List ℕ)) → TakesLine old rest line → length line ≤ TEXT_LIMIT → ReadsForWords (words_of line) rest new → ReadsForInput old new

-- for the words after the program's name
abbrev pub ReadsFor : List Text → Option (List ℕ) → Option (List ℕ) → Type 0
ReadsFor [] old new = ReadsForInput old new
ReadsFor (word ∷ words) old new = ReadsForWords (word ∷ words) old new

-- ---- what is written

-- the words ask for a job that writes the file of this name
pub record AsksToWrite (words : List Text) (name : List ℕ) : Type 0 where
  pub job : Job
  pub asked : AsksFor words job
  pub named : ((files_of job).first ≡ Some name) ⊎ (((files_of job).second ≡ Some name) ⊎ ((files_of job).third ≡ Some name))

-- each file in which the words ask for nothing holds what it held
abbrev pub KeepFilesOf : List Text → (List ℕ → Option (List ℕ)) → (List ℕ → Option (List ℕ)) → Type 0
KeepFilesOf words files left = (name : List ℕ) → (AsksToWrite words name → ⊥) → left name ≡ files name

-- the words of the input's first line ask for a job that writes the file of this name
pub record LineAsksToWrite (input : Option (List ℕ)) (name : List ℕ) : Type 0 where
  pub line : List ℕ
  pub rest : Option (List ℕ)
  pub taken : TakesLine input rest line
  pub asked : AsksToWrite (words_of line) name

-- each file keeps its bytes but those that the words after the program's name ask to write, or the input if there are no words
abbrev pub KeepOtherFiles : List Text → Option (List ℕ) → (List ℕ → Option (List ℕ)) → (List ℕ → Option (List ℕ)) → Type 0
KeepOtherFiles [] input files left = (name : List ℕ) → (LineAsksToWrite input name → ⊥) → left name ≡ files name
KeepOtherFiles (word ∷ words) input files left = KeepFilesOf (word ∷ words) files left
