-- What is printed for a replay.
use Rattle.std.specs.Prelude.{◌≡◌, ℕ, false, List, ◌∷◌, ◌++◌, Option, string_bytes}
use Rattle.std.specs.List.{flat_map}
use Rattle.std.specs.declared.string.String.{String}
use Rattle.std.specs.FinSet as set
use Rattle.gap_sets.specs.Gaps.{SetOfGaps}
use Rattle.tso_program.specs.declared.listing.Listing.{Listing}
use Rattle.tso_program.specs.declared.outcome.Outcome.{Outcome}
use Rattle.tso_program.specs.declared.shown.Shown.TheVariants.{All}
use Rattle.tso_machine.specs.declared.label.Label.{Label}
use Rattle.tso_machine.specs.declared.label.Model.{Model}
use Rattle.tso_machine.specs.declared.replaying.ReplayFault.{ReplayFault}
use Rattle.tso_machine.specs.Machine.{IsRun}
use Rattle.tso_machine.specs.Modes.{machine_of_model, ArePassed}
use Rattle.tso_machine.specs.Faults.{ReplayFaultIs}
use Rattle.tso_machine.specs.RunTexts.{IsRunText, RunFaultIs}
use Rattle.litmus_text.specs.Litmus.{Litmus}
use Rattle.litmus_text.specs.Texts.{IsLitmus, IsNoLitmus}
use Rattle.report.specs.Answers.{outcome_line, passed_line}
use Rattle.answers.specs.declared.refusals.AnswerFault.{AnswerFault}
use Rattle.answers.specs.declared.refusals.AnswerFault.TheVariants as answer_fault
use Rattle.answers.specs.TextAnswers.{IsAnswerTo}

-- label words as one text, each after a space
abbrev pub label_words_text : {Z : Type 0} → List (String Z) → List ℕ
label_words_text words = flat_map (λ word. 32 ∷ string_bytes word) words

-- the lines are those of a run: the labels' text spells it, in the unfenced program that the bytes spell
pub record PrintsRun (model : Model) (labels bytes lines : List ℕ) : Type 0 where
  pub litmus : Litmus Listing
  pub spelled : IsLitmus bytes litmus
  pub steps : List Label
  pub read : IsRunText labels steps
  pub outcome : Outcome
  pub run : IsRun litmus.program (machine_of_model litmus.program set.empty model) steps outcome
  pub passed : SetOfGaps
  pub passes : ArePassed litmus.program (machine_of_model litmus.program set.empty model) steps passed
  pub printed : lines ≡ outcome_line litmus.names All outcome ++ passed_line litmus.program passed

-- why steps are no run of the unfenced program that the bytes spell
pub record IsRefusedReplay (model : Model) (labels bytes : List ℕ) (fault : ReplayFault) : Type 0 where
  pub litmus : Litmus Listing
  pub spelled : IsLitmus bytes litmus
  pub steps : List Label
  pub read : IsRunText labels steps
  pub why : ReplayFaultIs litmus.program (machine_of_model litmus.program set.empty model) steps fault

-- why a text and labels have no replay: the text is judged before the labels, and these before the run
abbrev pub HasNoRun : Model → List ℕ → List ℕ → AnswerFault → Type 0
HasNoRun model labels bytes (answer_fault.Litmus fault) = IsNoLitmus bytes fault
HasNoRun model labels bytes (answer_fault.Run fault) = (litmus : Litmus Listing) × IsLitmus bytes litmus × RunFaultIs labels fault
HasNoRun model labels bytes (answer_fault.Replay fault) = IsRefusedReplay model labels bytes fault
HasNoRun model labels bytes (answer_fault.NoSuchGap t k) = ⊥
HasNoRun model labels bytes (answer_fault.Solve fault) = ⊥

-- this holds of each text that spells the program
abbrev pub OfEachText : Litmus Listing → (List ℕ → Type 0) → Type 0
OfEachText litmus Holds = (bytes : List ℕ) → IsLitmus bytes litmus → Holds bytes

-- the lines of a run, with status 0
abbrev pub ShowsRun : Model → List ℕ → List ℕ → ℕ → List ℕ → Type 0
ShowsRun model labels bytes status lines = (status ≡ 0) × PrintsRun model labels bytes lines

-- the answer to a replay, with its status: the lines of the run, or the line of a refusal
abbrev pub IsReplay : Model → List ℕ → List ℕ → Option (List ℕ) → (List ℕ → Option (List ℕ)) → ℕ → List ℕ → Type 0
IsReplay model labels = IsAnswerTo (ShowsRun model labels) (HasNoRun model labels) false
