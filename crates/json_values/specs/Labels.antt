-- The labels of runs, as JSON.
use Rattle.std.specs.Prelude.{List, map, ℕ}
use Rattle.tso_machine.specs.declared.label.Label.{Label}
use Rattle.tso_machine.specs.RunTexts.{spelling}
use Rattle.json_text.specs.Texts.{quoted, array_text}

-- the labels of a run
abbrev pub labels_array : List Label → List ℕ
labels_array labels = array_text (map (λ label. quoted (spelling label)) labels)

-- the labels of each run
abbrev pub runs_array : List (List Label) → List ℕ
runs_array runs = array_text (map labels_array runs)
