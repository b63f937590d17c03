-- Printed texts are ASCII, so they are UTF-8.
use Rattle.litmus_text.proofs.Vocabulary.{◌≡◌, ℕ, ◌<◌, ◌^◌, Bool, true, List, [], ◌∷◌, ◌++◌, refl, codes, nat_lt, arith, and_parts, list_all, IsAscii-append, Mark, Tok, Word, Number, Sign, NoToken, heading, IsAscii, IsAscii-decimal, ltb-true, nat_tests}
use Rattle.litmus_text.proofs.Vocabulary.{is_word_byte, Piece, Space, Part, token_text, text_of, CanStand, AreApartBefore, is_visible}
use Rattle.std.proofs.lemmas.Str.Ascii.{IsAscii-nil, IsAscii-cons}
use Rattle.text_tokens.specs.{declared.token.Mark.TheVariants.And, Marks.mark_text}

-- bytes that pass a test that only ASCII passes
ascii_by : (test : ℕ → Bool) → ((b : ℕ) → test b ≡ true → b < 128) → (bs : List ℕ) → list_all test bs ≡ true → IsAscii bs
ascii_by test small [] h = IsAscii-nil
ascii_by test small (b ∷ bs) h =
    let parts = and_parts (test b) (list_all test bs) h in IsAscii-cons b bs (small b parts.0) (ascii_by test small bs parts.1)

-- a text whose bytes are known
pub ascii_from : (bs : List ℕ) → list_all (λ b. nat_lt b 128) bs ≡ true → IsAscii bs
ascii_from bs h = ascii_by (λ b. nat_lt b 128) (λ b lt. ltb-true b 128 lt) bs h

ascii_mark : (m : Mark) → IsAscii (mark_text m)
ascii_mark And = ascii_from (mark_text And) refl
ascii_mark m = ascii_from (mark_text m) refl

ascii_token : (t : Tok) (rest : List ℕ) → CanStand t rest → IsAscii (token_text t)
ascii_token (Word w) rest h = ascii_by is_word_byte (λ b h. grind (arith, nat_tests)) w h.0.1
ascii_token (Number n) rest h = let small : n < 2 ^ 64 = omega (arith, h.0) in IsAscii-decimal n small
ascii_token (Sign m) rest h = ascii_mark m
ascii_token (NoToken b) rest h = absurd h

-- pieces that can be written one after the other are ASCII
pub ascii_pieces : (ps : List Piece) (rest : List ℕ) → AreApartBefore ps rest → IsAscii (text_of ps)
ascii_pieces [] rest h = IsAscii-nil
ascii_pieces (Space b ∷ ps) rest h = IsAscii-cons b (text_of ps) (grind (arith, nat_tests)) (ascii_pieces ps rest h.1)
ascii_pieces (Part t ∷ ps) rest h = IsAscii-append (token_text t) (text_of ps) (ascii_token t (text_of ps ++ rest) h.0) (ascii_pieces ps rest h.1)

-- the first line is ASCII
pub ascii_heading : (name : List ℕ) → list_all is_visible name ≡ true → IsAscii (heading name)
ascii_heading name h = IsAscii-append (codes "X86 ") (name ++ 10 ∷ []) (ascii_from (codes "X86 ") refl) (IsAscii-append name (10 ∷ []) (ascii_by is_visible (λ b h. grind (arith, nat_tests)) name h) (ascii_from (10 ∷ []) refl))
