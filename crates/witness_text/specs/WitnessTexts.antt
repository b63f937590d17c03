-- A run of which the condition's formula has some truth, or that there is none, by texts.
use Rattle.std.specs.Prelude.{◌≡◌, ℕ, Bool, true, false, List, [], ◌∷◌, ◌++◌, Some, None, codes}
use Rattle.std.specs.FinSet as set
use Rattle.gap_sets.specs.Gaps.{SetOfGaps}
use Rattle.tso_program.specs.declared.listing.Listing.{Listing}
use Rattle.tso_program.specs.declared.outcome.Outcome.{Outcome}
use Rattle.tso_program.specs.declared.shown.Shown.TheVariants.{All}
use Rattle.tso_program.specs.Truth.{truth}
use Rattle.tso_machine.specs.declared.label.Label.{Label}
use Rattle.tso_machine.specs.declared.label.Model.{Model}
use Rattle.tso_machine.specs.Machine.{Machine, IsRun}
use Rattle.tso_machine.specs.Modes.{machine_of_model, ArePassed}
use Rattle.litmus_text.specs.Litmus.{Litmus}
use Rattle.litmus_text.specs.Texts.{IsLitmus, IsNoLitmus}
use Rattle.cover_solver.specs.Witnesses.{HasNoWitness}
use Rattle.report.specs.Answers.{printed_labels, outcome_line, passed_line}
use Rattle.run_views.specs.Tables.{IsTableOf}
use Rattle.documents.specs.declared.run.Setting.TheVariants.{Machine as OfMachine}
use Rattle.documents.specs.declared.witness.Sought.{Sought}
use Rattle.documents.specs.Runs.{TellsRun}
use Rattle.documents.specs.Witnesses.{IsWitnessDocument}
use Rattle.witness_text.specs.declared.fault.WitnessFault.{WitnessFault}
use Rattle.witness_text.specs.declared.fault.WitnessFault.TheVariants as fault
use Rattle.witness_text.specs.FencedGaps.{GapPlace, AreGapsAt, IsFirstWithoutGap}

-- the machine in which a run is sought
abbrev pub machine_of : Listing → Sought → Machine
machine_of p sought = machine_of_model p sought.fences sought.model

-- the machine in which a run is sought, with no gap fenced
abbrev pub unfenced_machine : Listing → Sought → Machine
unfenced_machine p sought = machine_of_model p set.empty sought.model

-- the labels, a table, what the run leaves, and the gaps that it passes
abbrev pub shown_run_text : Litmus Listing → List Label → List ℕ → Outcome → SetOfGaps → List ℕ
shown_run_text source labels table outcome passed = printed_labels labels ++ table ++ outcome_line source.names All outcome ++ passed_line source.program passed

-- the text is that of a run, with the table of its steps in this machine
abbrev pub IsShownRunText : Litmus Listing → Machine → List Label → Outcome → SetOfGaps → List ℕ → Type 0
IsShownRunText source machine labels outcome passed text =
    (table : List ℕ) × IsTableOf source machine labels table × (text ≡ shown_run_text source labels table outcome passed)

-- that no run of the machine meets the formula, or that each does
abbrev pub no_run_line : Bool → List ℕ
no_run_line true = codes "No run meets the condition's formula." ++ 10 ∷ []
no_run_line false = codes "Every run meets the condition's formula." ++ 10 ∷ []

-- A run that is sought: of the machine with its gaps fenced, and with none fenced, to an outcome of which the formula has the truth;
-- the text has its labels, its outcome and the gaps that it passes, none of which is fenced; the document says the same of it.
pub record TellsWitness (source : Litmus Listing) (sought : Sought) (text run : List ℕ) : Type 0 where
  pub labels : List Label
  pub outcome : Outcome
  pub fenced : IsRun source.program (machine_of source.program sought) labels outcome
  pub ends : IsRun source.program (unfenced_machine source.program sought) labels outcome
  pub met : truth outcome source.condition.formula ≡ sought.meets
  pub passed : SetOfGaps
  pub passes : ArePassed source.program (unfenced_machine source.program sought) labels passed
  pub avoids : (gap : ℕ) → set.contains sought.fences gap ≡ true → set.contains passed gap ≡ true → ⊥
  pub printed : IsShownRunText source (unfenced_machine source.program sought) labels outcome passed text
  pub document : TellsRun source All (OfMachine sought.model) labels outcome passed run

-- the text and the document tell a run that is sought, which is found; or that no run of the machine is such
pub data TellsSought (source : Litmus Listing) (sought : Sought) : Bool → List ℕ → List (List ℕ) → Type 0 where
  found : (text run : List ℕ) (document : List (List ℕ)) → TellsWitness source sought text run → IsWitnessDocument source sought (Some run) document → TellsSought source sought true text document
  none : (document : List (List ℕ)) → HasNoWitness source.program (machine_of source.program sought) source.condition.formula sought.meets → IsWitnessDocument source sought None document
      → TellsSought source sought false (no_run_line sought.meets) document

-- What the texts tell: the litmus text stands for this program, which has gaps at the places; with these fenced, a run of the
-- model's machine to an outcome that meets the condition's formula, or does not, or that there is none; and which of these is said.
pub record IsWitnessText (litmus : List ℕ) (model : Model) (meets : Bool) (places : List GapPlace) (found : Bool) (text : List ℕ) (document : List (List ℕ)) : Type 0 where
  pub source : Litmus Listing
  pub of_text : IsLitmus litmus source
  pub fences : SetOfGaps
  pub fenced : AreGapsAt source.program.threads places fences
  pub told : TellsSought source (record { model = model; fences = fences; meets = meets }) found text document

-- why nothing is shown: the text is no litmus text, no gap lies at a place, or memory was wanting
abbrev pub HasNoWitnessText : List ℕ → List GapPlace → WitnessFault → Type 0
HasNoWitnessText litmus places (fault.Read why) = IsNoLitmus litmus why
HasNoWitnessText litmus places (fault.NoSuchGap t k) = (source : Litmus Listing) × IsLitmus litmus source × IsFirstWithoutGap source.program.threads places (t, k)
HasNoWitnessText litmus places fault.OutOfMemory = (source : Litmus Listing) × IsLitmus litmus source
