-- The documents of the commands, each by its members. `Notes` has the line of a document.
use Rattle.std.specs.Prelude.{◌≡◌, ℕ, ◌-◌, Bool, List, [], ◌∷◌, ◌++◌, Option, Some, None, codes, drop, length, min, take}
use Rattle.std.specs.Fmt.{decimal}
use Rattle.gap_sets.specs.Gaps.{SetOfGaps}
use Rattle.gap_sets.specs.declared.ties.TiedCosts.{TiedCosts}
use Rattle.tso_program.specs.declared.listing.Listing.{Listing}
use Rattle.tso_program.specs.declared.outcome.Outcome.{Outcome}
use Rattle.tso_program.specs.declared.shown.Shown.{Shown, TheVariants.All}
use Rattle.tso_machine.specs.declared.label.Label.{Label}
use Rattle.tso_machine.specs.declared.label.Model.{Model}
use Rattle.report.specs.Litmus.{Litmus}
use Rattle.gap_list.specs.declared.text_lines.TextLines.{TextLines}
use Rattle.report.specs.Observations.{frequency, is_true_of}
use Rattle.json_text.specs.Texts.{quoted, array_text, member, object_text, null_text, truth_text}
use Rattle.json_text.specs.Values.{IsJsonLine}
use Rattle.documents.specs.declared.fenced_model.FencedModel.{FencedModel}
use Rattle.documents.specs.declared.run.Setting.TheVariants.{Machine}
use Rattle.documents.specs.FencedModels.{machine_members}
use Rattle.documents.specs.Parts.{ProgramPart, program_members, IsProgram, answer_members, costs_array, is_observed, tie_members}
use Rattle.documents.specs.Runs.{TellsRun}
use Rattle.json_values.specs.Labels.{runs_array}
use Rattle.json_values.specs.Outcomes.{outcomes_array}
use Rattle.json_values.specs.Sayings.{IsSaying, verb_of}
use Rattle.json_values.specs.declared.sayings.Scope.TheVariants.{AllRuns}

-- the version
abbrev pub format_member : List ℕ
format_member = member (codes "format") (quoted (codes "fencer 1"))

-- the members up to what is said of the answer, a run or outcomes
abbrev pub command_members : List ℕ → ProgramPart → List (List ℕ)
command_members command part = format_member ∷ member (codes "command") (quoted command) ∷ program_members part

pub record TellsHeading (source : Litmus Listing) (command : List ℕ) (members : List (List ℕ)) : Type 0 where
  pub part : ProgramPart
  pub is : IsProgram source part
  pub printed : members ≡ command_members command part

-- the text of an object, as one line
abbrev pub document_of : List (List ℕ) → List ℕ
document_of members = object_text members ++ 10 ∷ []

-- the document of a command: what is said of the program, and then these members
pub record IsDocument (source : Litmus Listing) (command : List ℕ) (members document : List (List ℕ)) : Type 0 where
  pub first : List (List ℕ)
  pub heading : TellsHeading source command first
  pub printed : document ≡ first ++ members

-- the document of a command whose members name lines of the text; of these lines nothing is said
abbrev pub IsLinedDocument : Litmus Listing → List ℕ → (TextLines → List (List ℕ)) → List (List ℕ) → Type 0
IsLinedDocument source command members document = (lines : TextLines) × IsDocument source command (members lines) document

-- the document of a command that has these members, and then what the condition does in a machine where it holds, or fails, in the
-- words of its quantifier
abbrev pub IsSaidDocument : Litmus Listing → Bool → List ℕ → List (List ℕ) → List (List ℕ) → Type 0
IsSaidDocument source holds command members document =
    (says : List ℕ) × IsSaying source.condition.quantifier (verb_of source.condition.quantifier AllRuns holds) says
    × IsDocument source command (members ++ member (codes "says") says ∷ []) document

-- of a placement: the gaps with their costs, the answer, the text of the fenced program, and whether the condition holds in it
abbrev pub placed_members : Listing → TextLines → Shown → TiedCosts → SetOfGaps → List ℕ → List (List ℕ)
placed_members p lines shown costs gaps fenced = answer_members p lines shown costs gaps ++ member (codes "fenced") (quoted fenced) ∷ []

abbrev pub IsPlacedDocument : Litmus Listing → Shown → TiedCosts → SetOfGaps → List ℕ → Bool → List (List ℕ) → Type 0
IsPlacedDocument source shown costs gaps fenced holds document =
    (lines : TextLines) × IsSaidDocument source holds (codes "place") (placed_members source.program lines shown costs gaps fenced) document

-- of why the gaps of the answer are needed: the same with these texts of runs
abbrev pub IsWhyDocument : Litmus Listing → Shown → TiedCosts → SetOfGaps → List (List ℕ) → List (List ℕ) → Type 0
IsWhyDocument source shown costs gaps runs =
    IsLinedDocument source (codes "why") (λ lines. answer_members source.program lines shown costs gaps ++ member (codes "runs") (array_text runs) ∷ [])

-- of the gaps of a program, with their costs, and which go together
abbrev pub IsGapsDocument : Litmus Listing → TiedCosts → List (List ℕ) → Type 0
IsGapsDocument source costs =
    IsLinedDocument source (codes "gaps") (λ lines. member (codes "gaps") (costs_array source.program.threads lines costs.costs) ∷ tie_members source.program.threads costs.ties)

-- of a run of a machine, of which all is shown
pub record IsTraceDocument (source : Litmus Listing) (model : Model) (labels : List Label) (outcome : Outcome) (passed : SetOfGaps) (document : List (List ℕ)) : Type 0 where
  pub run : List ℕ
  pub told : TellsRun source All (Machine model) labels outcome passed run
  pub is : IsDocument source (codes "trace") (member (codes "run") run ∷ []) document

-- of outcomes: as far as they are shown, and what they show of the condition
abbrev pub list_members : Litmus Listing → Shown → List Outcome → List (List ℕ)
list_members source shown outcomes =
    member (codes "observed") (truth_text (is_observed shown))
    ∷ member (codes "outcomes") (outcomes_array source.names shown outcomes) ∷ member (codes "observation") (quoted (frequency source.condition.formula outcomes))
    ∷ member (codes "holds") (truth_text (is_true_of source.condition.quantifier source.condition.formula outcomes)) ∷ []

-- and in which machine
abbrev pub outcomes_members : Litmus Listing → Shown → FencedModel → List Outcome → List (List ℕ)
outcomes_members source shown machine outcomes = machine_members source.program machine ++ list_members source shown outcomes

abbrev pub IsSaidOfOutcomes : Litmus Listing → List Outcome → List (List ℕ) → List (List ℕ) → Type 0
IsSaidOfOutcomes source outcomes = IsSaidDocument source (is_true_of source.condition.quantifier source.condition.formula outcomes) (codes "outcomes")

abbrev pub IsOutcomesDocument : Litmus Listing → Shown → FencedModel → List Outcome → List (List ℕ) → Type 0
IsOutcomesDocument source shown machine outcomes = IsSaidOfOutcomes source outcomes (outcomes_members source shown machine outcomes)

-- of outcomes in a machine, with the labels of a run of each
abbrev pub IsOutcomesWithRunsDocument : Litmus Listing → Shown → FencedModel → List Outcome → List (List Label) → List (List ℕ) → Type 0
IsOutcomesWithRunsDocument source shown machine outcomes runs =
    IsSaidOfOutcomes source outcomes (outcomes_members source shown machine outcomes ++ member (codes "runs") (runs_array runs) ∷ [])

-- what is said about a refusal beside its line: the file's name, the line and the column from 1, the word that stands there,
-- and what is wrong
pub record Remark : Type 0 where
  pub file : List ℕ
  pub line : Option ℕ
  pub column : Option ℕ
  pub word : List ℕ
  pub message : List ℕ

-- a number, if there is one
abbrev pub number_or_null : Option ℕ → List ℕ
number_or_null None = null_text
number_or_null (Some number) = decimal number

-- a string, or none where it has no byte
abbrev pub string_or_null : List ℕ → List ℕ
string_or_null [] = null_text
string_or_null (byte ∷ bytes) = quoted (byte ∷ bytes)

abbrev pub remark_members : Remark → List (List ℕ)
remark_members remark =
    member (codes "file") (string_or_null remark.file) ∷ member (codes "line") (number_or_null remark.line) ∷ member (codes "column") (number_or_null remark.column)
    ∷ member (codes "word") (string_or_null remark.word) ∷ member (codes "message") (string_or_null remark.message) ∷ []

-- what the line of a refusal says after `refused `, without its end
abbrev pub after_refused : List ℕ → List ℕ
after_refused line = drop (min (length line) 8) line

abbrev pub reason_of : List ℕ → List ℕ
reason_of line = take (length (after_refused line) - 1) (after_refused line)

-- of a refusal, with the reason that the line of standard output gives, and what is said about it
abbrev pub refusal_text : List ℕ → Remark → List ℕ
refusal_text line remark = document_of (format_member ∷ member (codes "refused") (quoted (reason_of line)) ∷ remark_members remark)

-- of a refusal with some remark, as one line of JSON
pub record IsRefusalDocument (line text : List ℕ) : Type 0 where
  pub remark : Remark
  pub printed : text ≡ refusal_text line remark
  pub json : IsJsonLine text
