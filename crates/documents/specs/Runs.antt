-- What documents say of runs.
use Rattle.std.specs.Prelude.{◌≡◌, ℕ, List, [], ◌∷◌, ◌++◌, codes, map}
use Rattle.gap_sets.specs.Gaps.{SetOfGaps}
use Rattle.tso_program.specs.declared.listing.Listing.{Listing}
use Rattle.tso_program.specs.declared.outcome.Outcome.{Outcome}
use Rattle.tso_program.specs.declared.shown.Shown.{Shown}
use Rattle.tso_machine.specs.declared.label.Label.{Label}
use Rattle.tso_machine.specs.declared.label.Model.{Model}
use Rattle.tso_machine.specs.declared.label.Model.TheVariants as models
use Rattle.tso_machine.specs.RunTexts.{spelling}
use Rattle.tso_program.specs.Truth.{truth}
use Rattle.report.specs.Litmus.{Litmus}
use Rattle.json_text.specs.Texts.{quoted, array_text, member, object_text, truth_text}
use Rattle.json_text.specs.Values.{IsJson}
use Rattle.documents.specs.declared.run.Setting.{Setting, TheVariants.Without, TheVariants.Machine}
use Rattle.json_values.specs.Gaps.{quoted_gap, gaps_array}
use Rattle.json_values.specs.Outcomes.{outcome_array}
use Rattle.json_values.specs.Sayings.{IsSaying, verb_of}
use Rattle.json_values.specs.declared.sayings.Scope.TheVariants.{ThisRun}

-- ---- steps

-- what is said of a step
pub record StepPart : Type 0 where
  pub label : List ℕ
  pub instruction : List ℕ
  pub reads : List ℕ
  pub stores : List ℕ
  pub reaches : List ℕ
  pub buffer : List ℕ
  pub memory : List ℕ
  pub registers : List ℕ

abbrev pub step_members : StepPart → List (List ℕ)
step_members part =
    member (codes "label") part.label ∷ member (codes "instruction") part.instruction ∷ member (codes "reads") part.reads ∷ member (codes "stores") part.stores
    ∷ member (codes "reaches") part.reaches ∷ member (codes "buffer") part.buffer ∷ member (codes "memory") part.memory ∷ member (codes "registers") part.registers ∷ []

abbrev pub step_text : StepPart → List ℕ
step_text part = object_text (step_members part)

-- the part's label is this one, and the rest is JSON
pub record IsStep (label : Label) (part : StepPart) : Type 0 where
  pub labelled : part.label ≡ quoted (spelling label)
  pub instruction : IsJson part.instruction
  pub reads : IsJson part.reads
  pub stores : IsJson part.stores
  pub reaches : IsJson part.reaches
  pub buffer : IsJson part.buffer
  pub memory : IsJson part.memory
  pub registers : IsJson part.registers

-- the second members are the first and those of a step with this label
pub record AddsStep (label : Label) (before after : List (List ℕ)) : Type 0 where
  pub part : StepPart
  pub is : IsStep label part
  pub added : after ≡ before ++ step_members part

-- the text is that of a step with this label
pub record TellsStep (label : Label) (text : List ℕ) : Type 0 where
  pub part : StepPart
  pub is : IsStep label part
  pub printed : text ≡ step_text part

-- a step for each label
abbrev pub AreStepsOf : List Label → List StepPart → Type 0
AreStepsOf [] [] = Unit {0}
AreStepsOf [] (part ∷ parts) = ⊥
AreStepsOf (label ∷ labels) [] = ⊥
AreStepsOf (label ∷ labels) (part ∷ parts) = IsStep label part × AreStepsOf labels parts

-- the text has a step for each label
abbrev pub TellsSteps : List Label → List ℕ → Type 0
TellsSteps labels text = (parts : List StepPart) × AreStepsOf labels parts × (text ≡ array_text (map step_text parts))

-- ---- runs

abbrev pub model_name : Model → List ℕ
model_name models.Sequential = codes "sequential"
model_name models.Buffered = codes "buffered"

-- which run it is
abbrev pub setting_member : Listing → Setting → List ℕ
setting_member p (Without gap) = member (codes "without") (quoted_gap p.threads gap)
setting_member p (Machine model) = member (codes "model") (quoted (model_name model))

-- what a run leaves as far as it is shown, whether that meets the condition's formula, and the gaps that the run passes
abbrev pub ended_members : Litmus Listing → Shown → Outcome → SetOfGaps → List (List ℕ)
ended_members source shown outcome passed =
    member (codes "outcome") (outcome_array source.names shown outcome) ∷ member (codes "meets_condition") (truth_text (truth outcome source.condition.formula))
    ∷ member (codes "passed") (gaps_array source.program.threads passed) ∷ []

-- The text of a run: which one it is, a step for each of its labels, what is shown of what it leaves, whether that meets the
-- condition's formula, the gaps that it passes, its candidate execution, which is JSON, and what that is in the words of the
-- condition's quantifier.
pub record TellsRun (source : Litmus Listing) (shown : Shown) (setting : Setting) (labels : List Label) (outcome : Outcome) (passed : SetOfGaps) (text : List ℕ) : Type 0 where
  pub steps : List ℕ
  pub each : TellsSteps labels steps
  pub execution : List ℕ
  pub json : IsJson execution
  pub says : List ℕ
  pub said : IsSaying source.condition.quantifier (verb_of source.condition.quantifier ThisRun (truth outcome source.condition.formula)) says
  pub printed : text ≡ object_text (setting_member source.program setting ∷ member (codes "steps") steps
      ∷ (ended_members source shown outcome passed ++ member (codes "execution") execution ∷ member (codes "says") says ∷ []))
