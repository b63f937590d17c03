-- Lines of words, with single spaces between the words, each line ended by LF.
use Rattle.std.specs.Prelude.{ℕ, List, [], ◌∷◌, ◌++◌}

-- the texts of values, one after the other
abbrev pub texts_of : {A : Type 0} → (A → List ℕ) → List A → List ℕ
texts_of text [] = []
texts_of text (x ∷ xs) = text x ++ texts_of text xs

-- a space, and then the word
abbrev pub spaced : List ℕ → List ℕ
spaced word = 32 ∷ word

-- a line, by its first word and those after it
abbrev pub line : List ℕ → List (List ℕ) → List ℕ
line first others = first ++ (texts_of spaced others ++ 10 ∷ [])
