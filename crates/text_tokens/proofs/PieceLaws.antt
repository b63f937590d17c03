-- A text in pieces has their tokens.
use Rattle.text_tokens.proofs.Vocabulary.{ℕ, ◌<◌, ◌^◌, List, [], ◌∷◌, ◌++◌, refl, sym, subst, arith, append_assoc, decimal, append-nil, digits_decimal, digits_value-decimal, decimal_nonempty, Tok, Word, Number, Sign, NoToken, BeginsWith, BeginsWithAll, none}
use Rattle.text_tokens.proofs.Vocabulary.{white_space, token, Lexes}
use Rattle.text_tokens.specs.Pieces.{Piece, Space, Part, token_text, text_of, tokens_of, CanStand, AreApartBefore, AreApart}
use Rattle.text_tokens.proofs.NumberLaws.{own}

-- a token that can stand before a text begins its own text before that one
pub token_begins : (t : Tok) (rest : List ℕ) → CanStand t rest → BeginsWith t (token_text t ++ rest) rest
token_begins (Word w) rest h = (refl, h.0, h.1)
token_begins (Number n) rest h =
    let small : n < 2 ^ 64 = omega (arith, h.0) in
    (decimal n, refl, (decimal_nonempty n small, digits_decimal own n small), sym (digits_value-decimal own n small), h.0, h.1)
token_begins (Sign m) rest h = (refl, h)
token_begins (NoToken b) rest h = absurd h

-- the text of pieces before another text has their tokens before it
pub pieces_begin : (ps : List Piece) (rest : List ℕ) → AreApartBefore ps rest → BeginsWithAll (tokens_of ps) (text_of ps ++ rest) rest
pieces_begin [] rest h = none
pieces_begin (Space b ∷ ps) rest h = white_space h.0 (pieces_begin ps rest h.1)
pieces_begin (Part t ∷ ps) rest h = rw append_assoc (token (token_begins t (text_of ps ++ rest) h.0) (pieces_begin ps rest h.1))

-- the text of pieces has their tokens
pub pieces_lex : (ps : List Piece) → AreApart ps → Lexes (text_of ps) (tokens_of ps)
pieces_lex ps h = subst (λ (x : List ℕ). BeginsWithAll (tokens_of ps) x []) (append-nil (text_of ps)) (pieces_begin ps [] h)
