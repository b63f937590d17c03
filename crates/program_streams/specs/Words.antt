-- The words of a line, and what is printed for words that are not UTF-8.
use Rattle.std.specs.Prelude.{◌≡◌, ◌==◌, ◌++◌, ◌∷◌, [], ℕ, List, Contains, IsUtf8, codes, filter, length, nat_lt}
use Rattle.std.specs.List.{slice_split}

-- the words of a line, which spaces separate
abbrev pub words_of : List ℕ → List (List ℕ)
words_of line = filter (λ word. nat_lt 0 (length word)) (slice_split (λ byte. byte == 32) line)

-- one of the words is no UTF-8
pub record HasNoUtf8 (words : List (List ℕ)) : Type 0 where
  pub word : List ℕ
  pub there : Contains words word
  pub no_utf8 : IsUtf8 word → ⊥

-- what is printed for a command line that is not UTF-8
abbrev pub utf8_line : List ℕ
utf8_line = codes "error: the command line is not UTF-8" ++ 10 ∷ []

-- that line, with its status
abbrev pub IsUtf8Refusal : ℕ → List ℕ → Type 0
IsUtf8Refusal status text = (status ≡ 2) × (text ≡ utf8_line)
