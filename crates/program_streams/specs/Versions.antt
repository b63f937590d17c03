-- How a program is asked for its version, and what it prints.
use Rattle.std.specs.Prelude.{ℕ, Bool, false, List, [], ◌∷◌, ◌++◌, codes}
use Rattle.std.specs.Str.{bytes_eq}

-- whether `--version` is the one argument
abbrev pub asks_version : List (List ℕ) → Bool
asks_version [] = false
asks_version (word ∷ []) = bytes_eq word (codes "--version")
asks_version (word ∷ other ∷ words) = false

-- the program's name and its version
abbrev pub version_line : List ℕ → List ℕ
version_line program = program ++ codes " 0.1.0\n"
