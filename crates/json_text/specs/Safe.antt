-- Texts that may stand in a web page's script element as they are: with no `<` nothing in them ends it.
use Rattle.std.specs.Prelude.{◌≢◌, ℕ, List, [], ◌∷◌}

-- no byte is `<`
abbrev pub IsSafe : List ℕ → Type 0
IsSafe [] = Unit {0}
IsSafe (byte ∷ bytes) = (byte ≢ 60) × IsSafe bytes
