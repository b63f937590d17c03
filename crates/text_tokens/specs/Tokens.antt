-- Tokens, without where a word lies in memory.
use Rattle.std.specs.Prelude.{ℕ, List, [], ◌∷◌, map}
use Rattle.text_tokens.specs.declared.token.Mark.{Mark}
use Rattle.text_tokens.specs.declared.token.Bad.{Bad}
use Rattle.text_tokens.specs.declared.token.Token.{Token}
use Rattle.text_tokens.specs.declared.token.Token.TheVariants as token

-- a word, a number, a mark; or what is no token, and why
pub data Tok : Type 0 where
  Word : List ℕ → Tok
  Number : ℕ → Tok
  Sign : Mark → Tok
  NoToken : Bad → Tok

-- what a token of the code stands for
abbrev pub tok : Token → Tok
tok (token.Word w) = Word w.items
tok (token.Number n) = Number n
tok (token.Mark m) = Sign m
tok (token.Bad b) = NoToken b

-- what the tokens of the code stand for
abbrev pub toks : List Token → List Tok
toks tokens = map tok tokens

-- each is a token
abbrev pub AreAllTokens : List Tok → Type 0
AreAllTokens [] = Unit {0}
AreAllTokens (Word w ∷ ts) = AreAllTokens ts
AreAllTokens (Number n ∷ ts) = AreAllTokens ts
AreAllTokens (Sign m ∷ ts) = AreAllTokens ts
AreAllTokens (NoToken b ∷ ts) = ⊥
