-- What the lexer tells of the front of a text.
use Rattle.std.specs.Prelude.{◌≡◌, ◌⊎◌, ℕ, true, List, ◌∷◌}
use Rattle.text_tokens.specs.declared.lexer.Lexeme.{Lexeme}
use Rattle.text_tokens.specs.declared.lexer.Lexeme.TheVariants as lexeme
use Rattle.text_tokens.specs.declared.lexer.Front.{Front}
use Rattle.text_tokens.specs.declared.lexer.Front.TheVariants as front
use Rattle.text_tokens.specs.Bytes.{is_white_space}
use Rattle.text_tokens.specs.Comments.{IsComment}
use Rattle.text_tokens.specs.Tokens.{Tok, Word, Number, Sign}
use Rattle.text_tokens.specs.Lexing.{BeginsWith, IsBad}

-- a token as it lies in the text
abbrev pub lexeme_tok : Lexeme → Tok
lexeme_tok (lexeme.Word w) = Word w.now
lexeme_tok (lexeme.Number n) = Number n
lexeme_tok (lexeme.Mark m) = Sign m

-- what stands at the front of the text, and what follows
abbrev pub IsFront : List ℕ → Front → Type 0
IsFront text (front.Space rest) = ((b : ℕ) × (is_white_space b ≡ true) × (text ≡ b ∷ rest.now)) ⊎ IsComment text rest.now
IsFront text (front.Token t rest) = BeginsWith (lexeme_tok t) text rest.now
IsFront text (front.Bad b) = IsBad b text
