-- What branches in a sketch: what is open, what can be chosen, and the choices that there are.
use Rattle.std.specs.Prelude.{◌≡◌, ℕ, List, Some, IsSome, All}
use Rattle.candidate_executions.specs.Values.{IsValueOf}
use Rattle.candidate_executions.specs.Sketches.{next_read, IsWhole}
use Rattle.rowless_sketches.specs.Choices.{IsRead, HasSource, CanRead, CanFollow, MayRead, MayFollow}
use Rattle.rowless_sketches.specs.ProgramSketches.{ProgramSketch, mode_in}
use Rattle.cert_forest.specs.AccessId.{AccessId}
use Rattle.tree_laws.specs.declared.choice.Choice.{Choice, TheVariants.Value, TheVariants.Source, TheVariants.Order}
use Rattle.tree_laws.specs.declared.choice.OpenChoice.{OpenChoice}
use Rattle.tree_laws.specs.Rule.{Rule}
use Rattle.tree_laws.specs.CoverTrees as trees
use Rattle.tree_laws.specs.CoverTrees.{event_of}

-- the sketch can take the choice: a value of the location that thread t reads next, a source of a read that has none, or an order of two writes to one location that have none
abbrev pub CanChoose : ProgramSketch → Choice → Type 0
CanChoose s (Value t v) =
    (location : ℕ) × (next_read s.program (mode_in s) s.chosen t ≡ Some location) × IsValueOf s.program location v
CanChoose s (Source read source) = CanRead s (event_of read) source
CanChoose s (Order first second) = CanFollow s (event_of first) (event_of second)

-- the sketch can take each of the choices
pub record CanChooseEach (s : ProgramSketch) (choices : List Choice) : Type 0 where
  pub each : All (CanChoose s) choices

-- it is left to be chosen by the rule, and these are its choices: each value, each source, or both orders
abbrev pub AreChoicesOfBy : Rule → ProgramSketch → OpenChoice → List Choice → Type 0
AreChoicesOfBy rule s next choices = trees.AreChoicesBy rule s.program (mode_in s) s.chosen next choices

-- ---- by the rule of whole sketches

-- thread t has a next read
abbrev pub IsValueOpen : ProgramSketch → ℕ → Type 0
IsValueOpen s t = IsSome (next_read s.program (mode_in s) s.chosen t)

-- each read has its value, and this access is a read without a source
pub record IsSourceOpen (s : ProgramSketch) (read : AccessId) : Type 0 where
  pub whole : IsWhole s.program (mode_in s) s.chosen
  pub is_read : IsRead s (event_of read)
  pub free : HasSource s (event_of read) → ⊥

-- the rule lets the sketch take the choice
abbrev pub MayChoose : ProgramSketch → Choice → Type 0
MayChoose s (Value t v) =
    (location : ℕ) × (next_read s.program (mode_in s) s.chosen t ≡ Some location) × IsValueOf s.program location v
MayChoose s (Source read source) = MayRead s (event_of read) source
MayChoose s (Order first second) = MayFollow s (event_of first) (event_of second)

-- the rule lets the sketch take each of the choices
pub record MayChooseEach (s : ProgramSketch) (choices : List Choice) : Type 0 where
  pub each : All (MayChoose s) choices

-- these choices give thread t's next read its values, ascending
abbrev pub AreValueChoices : ProgramSketch → ℕ → List Choice → Type 0
AreValueChoices s t choices = trees.AreValueChoices s.program (mode_in s) s.chosen t choices

-- these choices give a read its sources, in their order
abbrev pub AreSourceChoices : ProgramSketch → AccessId → List Choice → Type 0
AreSourceChoices s read choices = trees.AreSourceChoices s.program (mode_in s) s.chosen read choices

-- it is left to be chosen, and these are its choices: each value, each source, or both orders
abbrev pub AreChoicesOf : ProgramSketch → OpenChoice → List Choice → Type 0
AreChoicesOf s next choices = trees.AreChoices s.program (mode_in s) s.chosen next choices
