-- Lists of runs that lie flat: the labels of all runs one after another, and where each run ends.
use Rattle.std.specs.Prelude.{◌≡◌, ◌≤◌, ℕ, List, [], ◌∷◌, slice_range}
use Rattle.tso_machine.specs.declared.label.Label.{Label}

-- the runs that end there, of which the first begins at the start
abbrev pub runs_from : ℕ → List ℕ → List Label → List (List Label)
runs_from start [] labels = []
runs_from start (end ∷ ends) labels = slice_range labels start end ∷ runs_from end ends labels

-- no run ends before it begins, and the last ends where the labels end
abbrev pub AreEnds : ℕ → List ℕ → ℕ → Type 0
AreEnds start [] last = start ≡ last
AreEnds start (end ∷ ends) last = (start ≤ end) × AreEnds end ends last
