-- Texts in pieces: tokens, and the white space between them.
use Rattle.std.specs.Prelude.{◌≡◌, ◌≤◌, ℕ, true, false, List, [], ◌∷◌, ◌++◌}
use Rattle.std.specs.Fmt.{decimal}
use Rattle.text_tokens.specs.Bytes.{is_white_space}
use Rattle.text_tokens.specs.Marks.{mark_text}
use Rattle.text_tokens.specs.Comments.{opens}
use Rattle.text_tokens.specs.Tokens.{Tok, Word, Number, Sign, NoToken}
use Rattle.text_tokens.specs.Lexing.{IsWord, NoWordGoesOn}

-- a byte of white space, or a token
pub data Piece : Type 0 where
  Space : ℕ → Piece
  Part : Tok → Piece

-- how a token is written, a number without leading zeros
abbrev pub token_text : Tok → List ℕ
token_text (Word w) = w
token_text (Number n) = decimal n
token_text (Sign m) = mark_text m
token_text (NoToken b) = []

-- how a piece is written
abbrev pub piece_text : Piece → List ℕ
piece_text (Space b) = b ∷ []
piece_text (Part t) = token_text t

-- the text of the pieces, one after the other
abbrev pub text_of : List Piece → List ℕ
text_of [] = []
text_of (p ∷ ps) = piece_text p ++ text_of ps

-- the tokens among the pieces
abbrev pub tokens_of : List Piece → List Tok
tokens_of [] = []
tokens_of (Space b ∷ ps) = tokens_of ps
tokens_of (Part t ∷ ps) = t ∷ tokens_of ps

-- the token can be written before this text: a word or a number does not run into it, and `(` does not begin a comment with it
abbrev pub CanStand : Tok → List ℕ → Type 0
CanStand (Word w) rest = IsWord w × NoWordGoesOn rest
CanStand (Number n) rest = (n ≤ 4294967295) × NoWordGoesOn rest
CanStand (Sign m) rest = opens (mark_text m ++ rest) ≡ false
CanStand (NoToken b) rest = ⊥

-- the pieces can be written before this text, one after the other
abbrev pub AreApartBefore : List Piece → List ℕ → Type 0
AreApartBefore [] rest = Unit {0}
AreApartBefore (Space b ∷ ps) rest = (is_white_space b ≡ true) × AreApartBefore ps rest
AreApartBefore (Part t ∷ ps) rest = CanStand t (text_of ps ++ rest) × AreApartBefore ps rest

-- the pieces can be written one after the other
abbrev pub AreApart : List Piece → Type 0
AreApart ps = AreApartBefore ps []
