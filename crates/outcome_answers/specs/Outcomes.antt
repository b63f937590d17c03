-- What is printed for the outcomes of a program.
use Rattle.std.specs.Prelude.{◌≡◌, ◌↔◌, ℕ, Bool, true, false, List, [], ◌∷◌, ◌++◌, Contains, Option, None, codes, length, not, slice_get, string_bytes}
use Rattle.std.specs.Fmt.{decimal}
use Rattle.std.specs.Option.{option_map_or}
use Rattle.gap_sets.specs.Gaps.{SetOfGaps}
use Rattle.tso_program.specs.declared.listing.Listing.{Listing}
use Rattle.tso_program.specs.declared.outcome.Outcome.{Outcome}
use Rattle.tso_program.specs.declared.shown.Shown.{Shown}
use Rattle.tso_program.specs.declared.shown.ShownKind.{ShownKind, TheVariants.Whole, TheVariants.Observed}
use Rattle.tso_program.specs.declared.question.Question.{Question}
use Rattle.tso_machine.specs.declared.label.Label.{Label}
use Rattle.tso_machine.specs.Machine.{Machine}
use Rattle.tso_machine.specs.Modes.{machine_of_model}
use Rattle.tso_machine.specs.Outcomes.{AllowsShown}
use Rattle.litmus_text.specs.Litmus.{Litmus}
use Rattle.litmus_text.specs.Texts.{IsLitmus, IsNoLitmus}
use Rattle.oracle.specs.declared.fault.SolveFault.TheVariants as solve
use Rattle.cover_solver.specs.OutcomeLists.{AreRunsOf}
use Rattle.witness_text.specs.FencedGaps.{GapPlace, AreGapsAt, IsFirstWithoutGap}
use Rattle.tree_laws.specs.Ascending.{Ascend}
use Rattle.litmus_text.specs.Names.{TextNames}
use Rattle.litmus_text.specs.Shown.{shown_as, question_of}
use Rattle.report.specs.Answers.{printed_labels, outcome_line}
use Rattle.documents.specs.declared.fenced_model.FencedModel.{FencedModel}
use Rattle.documents.specs.Documents.{IsOutcomesDocument, IsOutcomesWithRunsDocument}
use Rattle.report.specs.Observations.{is_true_of, observation_line, condition_line}
use Rattle.fencer_words.specs.declared.job.OutcomeQuery.{OutcomeQuery}
use Rattle.answers.specs.declared.refusals.AnswerFault.{AnswerFault}
use Rattle.answers.specs.declared.refusals.AnswerFault.TheVariants as answer_fault
use Rattle.answers.specs.Notes.{IsNoted}
use Rattle.answers.specs.Statuses.{check_status}
use Rattle.answers.specs.TextAnswers.{IsAnswerTo}

-- the list ascends, and has exactly the outcomes that the machine of the mode allows, as far as they are shown
pub record ListsOutcomes (q : Question) (mode : Machine) (outcomes : List Outcome) : Type 0 where
  pub ascend : Ascend outcomes
  pub exact : (o : Outcome) → Contains outcomes o ↔ AllowsShown q mode o

-- where runs are asked for, there is one of the mode's machine for each outcome, of which this is shown; else there is none
abbrev pub ListsRuns : Bool → Question → Machine → List (List Label) → List Outcome → Type 0
ListsRuns true q mode runs outcomes = AreRunsOf q mode runs outcomes
ListsRuns false q mode runs outcomes = runs ≡ []

-- each outcome, as far as it is shown, and after it its run where there is one
abbrev pub outcome_lines : TextNames → Shown → List Outcome → List (List Label) → List ℕ
outcome_lines names shown [] runs = []
outcome_lines names shown (o ∷ outcomes) [] = outcome_line names shown o ++ outcome_lines names shown outcomes []
outcome_lines names shown (o ∷ outcomes) (run ∷ runs) = outcome_line names shown o ++ printed_labels run ++ outcome_lines names shown outcomes runs

-- the line of the run of this number, where there is one
abbrev pub run_line_at : List (List Label) → ℕ → List ℕ
run_line_at runs number = option_map_or printed_labels (slice_get runs number) []

-- the lines of a list: how many outcomes it has, each of them as far as it is shown, with its run where there is one, and what they show of the condition
abbrev pub list_text : Litmus Listing → Shown → List Outcome → List (List Label) → List ℕ
list_text litmus shown outcomes runs =
    codes "outcomes " ++ decimal (length outcomes) ++ 10 ∷ []
    ++ outcome_lines litmus.names shown outcomes runs
    ++ observation_line litmus.condition outcomes
    ++ condition_line litmus.condition outcomes

-- the document of the list, which has the runs where they are asked for
abbrev pub IsListDocument : Bool → FencedModel → Litmus Listing → Shown → List Outcome → List (List Label) → List (List ℕ) → Type 0
IsListDocument false machine litmus shown outcomes runs document = IsOutcomesDocument litmus shown machine outcomes document
IsListDocument true machine litmus shown outcomes runs document = IsOutcomesWithRunsDocument litmus shown machine outcomes runs document

-- the lines are those of the list, or the line of its document with what is said beside it
abbrev pub TellsOutcomes : Bool → Bool → FencedModel → Litmus Listing → Shown → List Outcome → List (List Label) → List ℕ → Type 0
TellsOutcomes false with_runs machine litmus shown outcomes runs lines = lines ≡ list_text litmus shown outcomes runs
TellsOutcomes true with_runs machine litmus shown outcomes runs lines =
    (document : List (List ℕ)) × IsListDocument with_runs machine litmus shown outcomes runs document × IsNoted None document lines

-- with a check the status is 3 where the condition fails
abbrev pub list_status : Bool → Litmus Listing → List Outcome → ℕ
list_status check litmus outcomes = check_status check (not (is_true_of litmus.condition.quantifier litmus.condition.formula outcomes))

-- what is shown of the outcomes of a list
abbrev pub listed_kind : Bool → ShownKind
listed_kind false = Whole
listed_kind true = Observed

-- the lines are those of the list of the program that the bytes spell, with the gaps fenced that are asked for, with a run of each outcome where runs are asked for, and the status is theirs
pub record PrintsOutcomes (q : OutcomeQuery) (bytes : List ℕ) (status : ℕ) (lines : List ℕ) : Type 0 where
  pub litmus : Litmus Listing
  pub spelled : IsLitmus bytes litmus
  pub fences : SetOfGaps
  pub fenced : AreGapsAt litmus.program.threads q.fences.items fences
  pub outcomes : List Outcome
  pub listed : ListsOutcomes (question_of litmus (listed_kind q.observed)) (machine_of_model litmus.program fences q.model) outcomes
  pub runs : List (List Label)
  pub left : ListsRuns q.runs (question_of litmus (listed_kind q.observed)) (machine_of_model litmus.program fences q.model) runs outcomes
  pub printed : TellsOutcomes q.json q.runs (record { model = q.model; fences = fences }) litmus (shown_as litmus (listed_kind q.observed)) outcomes runs lines
  pub ends : status ≡ list_status q.check litmus outcomes

-- why there is no list: the text is no litmus text, no gap lies at a place, or memory was wanting
abbrev pub HasNoList : List GapPlace → List ℕ → AnswerFault → Type 0
HasNoList places bytes (answer_fault.Litmus fault) = IsNoLitmus bytes fault
HasNoList places bytes (answer_fault.Run fault) = ⊥
HasNoList places bytes (answer_fault.Replay fault) = ⊥
HasNoList places bytes (answer_fault.NoSuchGap t k) = (litmus : Litmus Listing) × IsLitmus bytes litmus × IsFirstWithoutGap litmus.program.threads places (t, k)
HasNoList places bytes (answer_fault.Solve fault) = (litmus : Litmus Listing) × IsLitmus bytes litmus × (fault ≡ solve.OutOfMemory)

-- the answer to a question for outcomes, with its status: the lines of the list, or the line of a refusal
abbrev pub AreOutcomes : OutcomeQuery → Option (List ℕ) → (List ℕ → Option (List ℕ)) → ℕ → List ℕ → Type 0
AreOutcomes q = IsAnswerTo (PrintsOutcomes q) (HasNoList q.fences.items) q.json (string_bytes q.litmus)
