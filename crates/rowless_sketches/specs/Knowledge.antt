-- What a sketch tells of a formula's truth, whichever writes become the last ones.
use Rattle.std.specs.Prelude.{◌↔◌, Bool, true, false, IsTrue}
use Rattle.tso_program.specs.declared.atom.Atom.{Atom}
use Rattle.tso_program.specs.Tree.{Tree, KnownBy}
use Rattle.candidate_executions.specs.Sketches.{KnownAtom}
use Rattle.program_sketches.specs.declared.known_truth.Knowledge.{Knowledge}
use Rattle.program_sketches.specs.ProgramSketches.{ProgramSketch, mode_in}

-- the formula is known to be so
abbrev pub IsKnownTruth : ProgramSketch → Tree Atom → Bool → Type 0
IsKnownTruth s f b = KnownBy (KnownAtom s.program (mode_in s) s.chosen) b f

-- what is known of it
pub record Knows (s : ProgramSketch) (f : Tree Atom) (k : Knowledge) : Type 0 where
  pub of_true : IsTrue k.is_true ↔ IsKnownTruth s f true
  pub of_false : IsTrue k.is_false ↔ IsKnownTruth s f false
