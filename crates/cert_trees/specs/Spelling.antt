-- Trees that are spelled by lists of nodes.
use Rattle.std.specs.Prelude.{List, [], ◌∷◌, ◌++◌}

-- several trees, one after the other
abbrev pub spell_each : {T N : Type 0} → (T → List N) → List T → List N
spell_each spell [] = []
spell_each spell (t ∷ ts) = spell t ++ spell_each spell ts
