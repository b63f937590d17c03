-- What the functions that judge trees answer.
use Rattle.std.specs.Prelude.{◌≡◌, ℕ, List, [], ◌∷◌, map}
use Rattle.tso_program.specs.declared.outcome.Outcome.{Outcome}
use Rattle.tso_program.specs.declared.shown.Shown.{Shown}
use Rattle.tso_program.specs.Shown.{asked}
use Rattle.candidate_executions.specs.Sketches.{Sketch}
use Rattle.rowless_sketches.specs.ProgramSketches.{ProgramSketch, mode_in}
use Rattle.cert_forest.specs.Trees.{Cover, covers_of, count_covers}
use Rattle.tree_laws.specs.declared.choice.Choice.{Choice}
use Rattle.tree_laws.specs.declared.choice.OpenChoice.{OpenChoice}
use Rattle.tree_laws.specs.Rule.{Rule}
use Rattle.tree_laws.specs.CoverTrees.{sketch_with, AfterChoicesBy, IsValidCover, IsValidCoverBy, AreValidCoversBy}
use Rattle.cover_judge.specs.declared.fault.NodeFault.{NodeFault, TheVariants.Wrong, TheVariants.OutOfMemory}
use Rattle.cover_judge.specs.CoverDefects as covers

-- the path of the fault has the property; out of memory says nothing
abbrev pub IfWrong : (List ℕ → Type 0) → NodeFault → Type 0
IfWrong P (Wrong path) = P path
IfWrong P OutOfMemory = Unit {0}

-- the root is wrong
abbrev pub IsAtRoot : Type 0 → List ℕ → Type 0
IsAtRoot P path = (path ≡ []) × P

-- the path leads through a child
abbrev pub IsBelow : (ℕ → List ℕ → Type 0) → List ℕ → Type 0
IsBelow P [] = ⊥
IsBelow P (number ∷ path) = P number path

-- the path to a node, from its parent on
abbrev pub IsFrom : ℕ → NodeFault → NodeFault → Type 0
IsFrom number (Wrong path) (Wrong other) = other ≡ number ∷ path
IsFrom number OutOfMemory (Wrong other) = ⊥
IsFrom number fault OutOfMemory = Unit {0}

-- the tree is valid at the sketch by the rule of whole sketches
abbrev pub IsValidAt : ProgramSketch → Shown → List Outcome → Cover → Type 0
IsValidAt s shown outcomes tree = IsValidCover (asked s.program shown) (mode_in s) outcomes tree s.chosen

module _ (rule : Rule) (shown : Shown) (outcomes : List Outcome) (s : ProgramSketch) where
  -- the tree is valid at the sketch after a choice
  abbrev pub IsValidAfter : Cover → Sketch → Type 0
  IsValidAfter tree k = IsValidCoverBy rule (asked s.program shown) (mode_in s) outcomes tree k

  abbrev pub IsWrongAt : Cover → Sketch → List ℕ → Type 0
  IsWrongAt tree k path = covers.FirstWrongCover rule (asked s.program shown) (mode_in s) outcomes tree k path

  -- the trees are valid at the sketches after these choices, in order
  abbrev pub AreValidAfter : List Cover → List Choice → Type 0
  AreValidAfter trees choices = AreValidCoversBy rule (asked s.program shown) (mode_in s) outcomes (covers_of trees) (map (sketch_with s.chosen) choices)

  abbrev pub IsWrongChild : List Cover → List Choice → ℕ → List ℕ → Type 0
  IsWrongChild trees choices number path =
      covers.FirstWrongCoverChild rule (asked s.program shown) (mode_in s) outcomes (covers_of trees) (map (sketch_with s.chosen) choices) number path

  -- the trees are valid after the choices of what is open, in order
  abbrev pub AreValidFor : OpenChoice → List Cover → Type 0
  AreValidFor next trees = AfterChoicesBy rule s.program (mode_in s) s.chosen next (AreValidCoversBy rule (asked s.program shown) (mode_in s) outcomes (covers_of trees))

  -- they are not as many as the choices, or one is the first that has a wrong node
  abbrev pub IsWrongFor : OpenChoice → List Cover → List ℕ → Type 0
  IsWrongFor next trees path =
      covers.IsWrongNode rule s.program (mode_in s) s.chosen next (count_covers (covers_of trees)) (covers.FirstWrongCoverChild rule (asked s.program shown) (mode_in s) outcomes (covers_of trees)) path
