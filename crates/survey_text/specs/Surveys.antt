-- What is found of a program, and its text.
use Rattle.std.specs.Prelude.{◌≡◌, ℕ, Bool, List, [], ◌∷◌, ◌++◌, Option, codes, nat_lt, not, if◌then◌else◌}
use Rattle.std.specs.Option.{option_map_or}
use Rattle.std.specs.List.{flat_map}
use Rattle.std.specs.Fmt.{decimal}
use Rattle.std.specs.FinSet as set
use Rattle.gap_sets.specs.Gaps.{numbers_of_set}
use Rattle.tso_program.specs.declared.listing.Listing.{Listing}
use Rattle.tso_program.specs.declared.shown.ShownKind.TheVariants.{Whole, Condition}
use Rattle.tso_program.specs.Listings.{gap_place}
use Rattle.tso_machine.specs.declared.label.Model.TheVariants.{Sequential, Buffered}
use Rattle.tso_machine.specs.Modes.{machine_of_model}
use Rattle.litmus_text.specs.Litmus.{Litmus}
use Rattle.litmus_text.specs.Texts.{IsLitmus}
use Rattle.gap_list.specs.declared.text_lines.TextLines.{TextLines}
use Rattle.gap_list.specs.Lines.{line_at}
use Rattle.gap_list.specs.Lists.{instruction_part}
use Rattle.litmus_text.specs.GivenCosts.{AreGiven}
use Rattle.litmus_text.specs.Shown.{shown_as}
use Rattle.documents.specs.Surveys.{Found, IsSurveyDocument}
use Rattle.placed_text.specs.declared.writing.AnswerText.{AnswerText}
use Rattle.placed_text.specs.PlacedTexts.{IsAnswerText}
use Rattle.survey_text.specs.declared.finding.SurveyText.{SurveyText}
use Rattle.survey_text.specs.declared.survey.Survey.{Survey}
use Rattle.survey_text.specs.declared.visit.Visit.{Visit}
use Rattle.survey_text.specs.ExecutedRuns.{AreExecutedRuns}
use Rattle.survey_text.specs.Verdicts.{HoldsIn}
use Rattle.survey_text.specs.Visits.{AreVisits, instruction_places, unexecuted, unexecuted_places}

-- ---- what is found

-- of the program that the text spells: whether the condition holds in both machines with no gap fenced; each instruction, with a sequential run
-- that executes it unless none does, and runs that together execute those which some run executes; and both answers, where the gaps
-- cost what a text of costs says, 1 each without one
pub record IsSurvey (text : List ℕ) (costs : Option (List ℕ)) (survey : Survey) : Type 0 where
  pub of_text : IsLitmus text survey.litmus
  pub sequential : HoldsIn survey.litmus.program (machine_of_model survey.litmus.program set.empty Sequential) survey.litmus.condition survey.sequential
  pub buffered : HoldsIn survey.litmus.program (machine_of_model survey.litmus.program set.empty Buffered) survey.litmus.condition survey.buffered
  pub visits : AreVisits survey.litmus.program (instruction_places survey.litmus.program.threads) survey.visits.items
  pub runs : AreExecutedRuns survey.litmus.program survey.visits.items survey.runs.items
  pub given : AreGiven survey.litmus.program costs survey.costs
  pub condition : IsAnswerText text costs Condition survey.condition
  pub whole : IsAnswerText text costs Whole survey.whole

-- ---- its lines, by the lines of the text in which the instructions stand

-- an instruction by its place, its line, and how it is written
abbrev pub instruction_line : Litmus Listing → TextLines → List ℕ → List ℕ → ℕ × ℕ → List ℕ
instruction_line source lines word middle place =
    word ++ decimal place.0 ++ 58 ∷ decimal place.1 ++ codes " line " ++ decimal (line_at lines place.0 place.1) ++ middle
    ++ instruction_part source place.0 place.1 ++ 10 ∷ []

-- `unexecuted t:k line L INSTRUCTION`, of an instruction that no sequential run executes
abbrev pub unexecuted_line : Litmus Listing → TextLines → Visit → List ℕ
unexecuted_line source lines visit =
    option_map_or (λ run. []) visit.run (instruction_line source lines (codes "unexecuted ") (codes " ") (visit.thread, visit.instruction))

-- `fence t:k line L, before INSTRUCTION`
abbrev pub fence_line : Litmus Listing → TextLines → ℕ → List ℕ
fence_line source lines gap =
    option_map_or (instruction_line source lines (codes "fence ") (codes ", before ")) (gap_place source.program.threads gap) []

-- an answer, with the places of its fences
abbrev pub answer_lines : Litmus Listing → TextLines → AnswerText → List ℕ
answer_lines source lines answer = answer.answer.items ++ flat_map (fence_line source lines) (numbers_of_set answer.gaps)

-- whether the condition holds, in a word
abbrev pub verdict : Bool → List ℕ
verdict holds = if holds then codes "holds" else codes "fails"

-- `MACHINE condition holds`, or `fails`
abbrev pub verdict_line : List ℕ → Bool → List ℕ
verdict_line machine holds = machine ++ codes " condition " ++ verdict holds ++ 10 ∷ []

abbrev pub survey_lines : TextLines → Survey → List ℕ
survey_lines lines survey =
    verdict_line (codes "sequential") survey.sequential
    ++ verdict_line (codes "buffered") survey.buffered
    ++ flat_map (unexecuted_line survey.litmus lines) survey.visits.items
    ++ answer_lines survey.litmus lines survey.condition
    ++ answer_lines survey.litmus lines survey.whole

-- whether the condition fails sequentially
abbrev pub fails : Survey → Bool
fails survey = not survey.sequential

-- `SEQUENTIAL BUFFERED UNEXECUTED CONDITION ANSWER`: both verdicts, how many instructions no sequential run executes, and how many
-- fences each answer has
abbrev pub survey_row : Survey → List ℕ
survey_row survey =
    verdict survey.sequential ++ 32 ∷ verdict survey.buffered
    ++ 32 ∷ decimal (unexecuted survey.visits.items) ++ 32 ∷ decimal (set.len survey.condition.gaps) ++ 32 ∷ decimal (set.len survey.whole.gaps)

-- ---- its document

-- the name of the file, both verdicts, what is executed and what is not, and both answers
abbrev pub found_of : List ℕ → Survey → Found
found_of name survey = record {
  file = name;
  sequential = survey.sequential;
  buffered = survey.buffered;
  unexecuted = unexecuted_places survey.visits.items;
  runs = survey.runs.items;
  costs = survey.costs;
  condition = (shown_as survey.litmus Condition, survey.condition.gaps);
  whole = (shown_as survey.litmus Whole, survey.whole.gaps);
}

-- What the text tells of the program that a litmus text spells, which is of a file of this name, with the gaps' costs by a text of
-- costs. Of the lines of the litmus text that it names, nothing is said. What sequential runs decide is what the whole answer says.
pub record IsSurveyText (name text : List ℕ) (costs : Option (List ℕ)) (told : SurveyText) : Type 0 where
  pub survey : Survey
  pub is : IsSurvey text costs survey
  pub lines : TextLines
  pub printed : told.lines.items ≡ survey_lines lines survey
  pub row : told.row.items ≡ survey_row survey
  pub document : IsSurveyDocument survey.litmus (found_of name survey) told.document
  pub failing : told.fails ≡ fails survey
  pub some_unexecuted : told.has_unexecuted ≡ nat_lt 0 (unexecuted survey.visits.items)
  pub decided : told.verdict ≡ survey.whole.verdict
