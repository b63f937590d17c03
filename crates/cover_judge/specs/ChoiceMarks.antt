-- What takes back a choice in a sketch without rows.
use Rattle.std.specs.Prelude.{◌≡◌}
use Rattle.rowless_sketches.specs.ProgramSketches.{ProgramSketch}
use Rattle.rowless_sketches.specs.RowlessSketches.{IsValueMarkOf}
use Rattle.tree_laws.specs.declared.choice.Choice.{Choice}
use Rattle.tree_laws.specs.declared.choice.Choice.TheVariants as choice
use Rattle.cover_judge.specs.declared.choice_mark.ChoiceMark.{ChoiceMark, TheVariants.Value, TheVariants.Source, TheVariants.Order}

-- the mark is of this choice in the sketch
abbrev pub IsChoiceMarkOf : ChoiceMark → ProgramSketch → Choice → Type 0
IsChoiceMarkOf (Value mark) s (choice.Value t v) = IsValueMarkOf mark s × (mark.thread ≡ t)
IsChoiceMarkOf Source s (choice.Source read source) = Unit {0}
IsChoiceMarkOf Order s (choice.Order first second) = Unit {0}
IsChoiceMarkOf mark s choice = ⊥
