-- Single tokens at the front of a list.
use Rattle.std.specs.Prelude.{ℕ, Bool, false, List, [], ◌∷◌, Option, Some, None, if◌then◌else◌}
use Rattle.text_tokens.specs.declared.token.Mark.{Mark}
use Rattle.text_tokens.specs.Marks.{same_mark}
use Rattle.text_tokens.specs.Tokens.{Tok, Word, Number, Sign, NoToken}

-- the word that comes first, and the tokens after it
abbrev pub word_at : List Tok → Option (List ℕ × List Tok)
word_at [] = None
word_at (Word w ∷ ts) = Some (w, ts)
word_at (Number n ∷ ts) = None
word_at (Sign m ∷ ts) = None
word_at (NoToken b ∷ ts) = None

-- the number that comes first, and the tokens after it
abbrev pub number_at : List Tok → Option (ℕ × List Tok)
number_at [] = None
number_at (Word w ∷ ts) = None
number_at (Number n ∷ ts) = Some (n, ts)
number_at (Sign m ∷ ts) = None
number_at (NoToken b ∷ ts) = None

-- whether this mark comes first
abbrev pub begins_with : Mark → List Tok → Bool
begins_with mark [] = false
begins_with mark (Word w ∷ ts) = false
begins_with mark (Number n ∷ ts) = false
begins_with mark (Sign m ∷ ts) = same_mark m mark
begins_with mark (NoToken b ∷ ts) = false

-- the tokens after the first
abbrev pub rest_of : List Tok → List Tok
rest_of [] = []
rest_of (t ∷ ts) = ts

-- the tokens after this mark, if it comes first
abbrev pub mark_at : Mark → List Tok → Option (List Tok)
mark_at mark ts = if begins_with mark ts then Some (rest_of ts) else None
