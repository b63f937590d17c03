-- The document of what is found of a program.
use Rattle.std.specs.Prelude.{◌≡◌, ℕ, Bool, List, [], ◌∷◌, ◌++◌, codes, map}
use Rattle.std.specs.Fmt.{decimal}
use Rattle.gap_sets.specs.Gaps.{SetOfGaps}
use Rattle.gap_sets.specs.declared.ties.TiedCosts.{TiedCosts}
use Rattle.tso_program.specs.declared.listing.Listing.{Listing}
use Rattle.tso_program.specs.declared.shown.Shown.{Shown}
use Rattle.conditions.specs.declared.condition.Quantifier.{Quantifier}
use Rattle.report.specs.Litmus.{Litmus}
use Rattle.gap_list.specs.declared.text_lines.TextLines.{TextLines}
use Rattle.gap_list.specs.Lines.{line_at}
use Rattle.json_text.specs.Texts.{quoted, array_text, member, object_text, truth_text}
use Rattle.documents.specs.declared.survey.ExecutedRun.{ExecutedRun}
use Rattle.documents.specs.declared.survey.Findings.{Findings}
use Rattle.documents.specs.Documents.{IsLinedDocument}
use Rattle.documents.specs.Parts.{answer_value, costs_array, tie_members}
use Rattle.json_values.specs.Gaps.{place_name}
use Rattle.json_values.specs.Labels.{labels_array}
use Rattle.json_values.specs.Sayings.{IsSaying, verb_of}
use Rattle.json_values.specs.declared.sayings.Scope.TheVariants.{AllRuns}

-- What is found of a program: the name of its file; whether its condition holds in both machines; the instructions that no sequential
-- run executes; runs with what they execute; what the gaps cost; and of both answers what is shown of outcomes, and the gaps.
pub record Found : Type 0 where
  pub file : List ℕ
  pub sequential : Bool
  pub buffered : Bool
  pub unexecuted : List (ℕ × ℕ)
  pub runs : List ExecutedRun
  pub costs : TiedCosts
  pub condition : Shown × SetOfGaps
  pub whole : Shown × SetOfGaps

-- what is borrowed
abbrev pub found_in : Findings → Found
found_in findings = record {
  file = findings.file.now;
  sequential = findings.sequential;
  buffered = findings.buffered;
  unexecuted = findings.unexecuted.now;
  runs = findings.runs.now;
  costs = findings.costs.now;
  condition = (findings.condition.shown.now, findings.condition.gaps.now);
  whole = (findings.whole.shown.now, findings.whole.gaps.now);
}

-- whether the condition holds in each machine
abbrev pub holds_value : Bool → Bool → List ℕ
holds_value sequential buffered = object_text (member (codes "sequential") (truth_text sequential) ∷ member (codes "buffered") (truth_text buffered) ∷ [])

-- an instruction by its place
abbrev pub quoted_place : ℕ × ℕ → List ℕ
quoted_place place = quoted (place_name place)

abbrev pub places_array : List (ℕ × ℕ) → List ℕ
places_array places = array_text (map quoted_place places)

-- and with its line
abbrev pub lined_place : TextLines → ℕ × ℕ → List ℕ
lined_place lines place = object_text (member (codes "place") (quoted_place place) ∷ member (codes "line") (decimal (line_at lines place.0 place.1)) ∷ [])

abbrev pub lined_places : TextLines → List (ℕ × ℕ) → List ℕ
lined_places lines places = array_text (map (lined_place lines) places)

-- a run by its labels, with the instructions that it executes
abbrev pub executed_run : ExecutedRun → List ℕ
executed_run run = object_text (member (codes "labels") (labels_array run.labels) ∷ member (codes "executes") (places_array run.places.items) ∷ [])

abbrev pub executed_runs : List ExecutedRun → List ℕ
executed_runs runs = array_text (map executed_run runs)

-- what no answer says
abbrev pub executed_members : TextLines → Found → List (List ℕ)
executed_members lines found =
    member (codes "file") (quoted found.file) ∷ member (codes "holds") (holds_value found.sequential found.buffered)
    ∷ member (codes "unexecuted") (lined_places lines found.unexecuted) ∷ member (codes "runs") (executed_runs found.runs) ∷ []

-- and both answers, after the costs of all gaps, and which gaps go together
abbrev pub both_answers : Listing → TextLines → Found → List (List ℕ)
both_answers p lines found =
    member (codes "gaps") (costs_array p.threads lines found.costs.costs) ∷ member (codes "condition_answer") (answer_value p found.condition.0 found.costs found.condition.1)
    ∷ member (codes "answer") (answer_value p found.whole.0 found.costs found.whole.1) ∷ tie_members p.threads found.costs.ties

-- what the condition does in each machine, in the words of its quantifier
pub record AreSayings (quantifier : Quantifier) (found : Found) (says : List ℕ) : Type 0 where
  pub sequential : List ℕ
  pub of_sequential : IsSaying quantifier (verb_of quantifier AllRuns found.sequential) sequential
  pub buffered : List ℕ
  pub of_buffered : IsSaying quantifier (verb_of quantifier AllRuns found.buffered) buffered
  pub printed : says ≡ object_text (member (codes "sequential") sequential ∷ member (codes "buffered") buffered ∷ [])

abbrev pub survey_members : Litmus Listing → Found → List ℕ → TextLines → List (List ℕ)
survey_members source found says lines = executed_members lines found ++ both_answers source.program lines found ++ member (codes "says") says ∷ []

abbrev pub IsSurveyDocument : Litmus Listing → Found → List (List ℕ) → Type 0
IsSurveyDocument source found document =
    (says : List ℕ) × AreSayings source.condition.quantifier found says × IsLinedDocument source (codes "survey") (survey_members source found says) document
