-- What the first byte of a text tells.
use Rattle.text_tokens.proofs.Vocabulary.{◌≡◌, ◌≢◌, ℕ, ◌<◌, ◌≤◌, ◌==◌, true, false, List, [], ◌∷◌, ◌++◌, length, drop, Option, Some, cond, refl, sym, ap, ◌∙◌, arith, inl, inr, slice_index, if◌then◌else◌, list_all, is_ascii_digit, cases_Bool, and_parts}
use Rattle.text_tokens.proofs.Vocabulary.{eqb-true, length-append, nat_tests, Mark, OpenBrace, CloseBrace, OpenBracket, CloseBracket, OpenParen, CloseParen, Semicolon, Bar, Colon, Equals, Comma, Dollar, Tilde, And, Or, Bad, is_white_space, is_letter}
use Rattle.text_tokens.proofs.Vocabulary.{is_word_byte, mark_text, mark_from, opens, Tok, Word, Number, Sign, NoToken, BeginsWith, IsWord, AreDigits, IsBad, false_from_ne_true as false_from, same_Some, none-some}
use Rattle.text_tokens.specs.declared.token.Bad.TheVariants as bad

-- ---- classes of bytes, of which no two meet

pub data Class : Type 0 where
  WhiteSpace : Class
  Letter : Class
  Digit : Class
  Minus : Class
  Other : Class

abbrev pub class_of : ℕ → Class
class_of b = if is_white_space b then WhiteSpace else if is_letter b then Letter else if is_ascii_digit b then Digit else if b == 45 then Minus else Other

pub white_space_class : (b : ℕ) → is_white_space b ≡ true → class_of b ≡ WhiteSpace
white_space_class b h = rw h refl

pub letter_class : (b : ℕ) → is_letter b ≡ true → class_of b ≡ Letter
letter_class b h = let no_white_space : is_white_space b ≡ false = grind (arith, nat_tests) in rw (no_white_space, h) refl

pub digit_class : (b : ℕ) → is_ascii_digit b ≡ true → class_of b ≡ Digit
digit_class b h =
    let no_white_space : is_white_space b ≡ false = grind (arith, nat_tests) in
    let alone : is_letter b ≡ false = grind (arith, nat_tests) in
    rw (no_white_space, alone, h) refl

pub letter_goes_on : (b : ℕ) → is_letter b ≡ true → is_word_byte b ≡ true
letter_goes_on b h = rw h refl

pub no_letter : (b : ℕ) → is_word_byte b ≡ false → is_letter b ≡ false
no_letter b h = grind (arith, nat_tests)

pub no_digit : (b : ℕ) → is_word_byte b ≡ false → is_ascii_digit b ≡ false
no_digit b h = grind (arith, nat_tests)

pub no_word_byte : (b : ℕ) → is_letter b ≡ false → is_ascii_digit b ≡ false → is_word_byte b ≡ false
no_word_byte b h g = grind (arith, nat_tests)

other_class : (b : ℕ) → is_white_space b ≡ false → is_word_byte b ≡ false → b ≢ 45 → class_of b ≡ Other
other_class b h g k = let no_minus : (b == 45) ≡ false = grind (arith, nat_tests) in rw (h, no_letter b g, no_digit b g, no_minus) refl

word_class : (b : ℕ) → class_of b ≡ Other → is_word_byte b ≡ true → ⊥
word_class b h w =
    elim (cases_Bool (is_letter b)) [
      | inl y ↦ let bad : Letter ≡ Other = sym (letter_class b y) ∙ h in absurd cc
      | inr n ↦ let digit : is_ascii_digit b ≡ true = rw n at w in let bad : Digit ≡ Other = sym (digit_class b digit) ∙ h in absurd cc
    ]

pub other_parts : (b : ℕ) → class_of b ≡ Other → (is_white_space b ≡ false) × (is_word_byte b ≡ false) × (b ≢ 45)
other_parts b h = (
  false_from (is_white_space b) (λ y. let bad : WhiteSpace ≡ Other = sym (white_space_class b y) ∙ h in absurd cc),
  false_from (is_word_byte b) (word_class b h),
  λ e. let bad : Minus ≡ Other = sym (ap class_of e) ∙ h in absurd cc,
)

-- ---- the first byte of two texts, one after the other

pub first_of : (xs rest : List ℕ) → 0 < length xs → slice_index (xs ++ rest) 0 ≡ slice_index xs 0
first_of [] rest some = absurd (omega arith)
first_of (x ∷ xs) rest some = refl

pub word_some : (w : List ℕ) → IsWord w → 0 < length w
word_some [] h = absurd cc
word_some (x ∷ w) h = omega arith

pub first_digit : (ds : List ℕ) → AreDigits ds → is_ascii_digit (slice_index ds 0) ≡ true
first_digit [] h = absurd (omega (arith, h.0))
first_digit (x ∷ ds) h = (and_parts (is_ascii_digit x) (list_all is_ascii_digit ds) h.1).0

-- ---- marks

pub mark_some : (m : Mark) → 0 < length (mark_text m)
mark_some OpenBrace = omega arith
mark_some m = omega arith

pub mark_short : (m : Mark) → length (mark_text m) ≤ 2
mark_short OpenBrace = omega arith
mark_short m = omega arith

pub mark_class : (m : Mark) → class_of (slice_index (mark_text m) 0) ≡ Other
mark_class OpenBrace = refl
mark_class m = refl

-- a mark is the one that begins with its first byte
pub mark_from_text : (m : Mark) → mark_from (slice_index (mark_text m) 0) ≡ Some m
unfolding mark_from
mark_from_text OpenBrace = refl
mark_from_text m = refl

-- the texts of two marks that begin alike are of one mark
pub one_mark : (m n : Mark) (xs ys : List ℕ) → mark_text m ++ xs ≡ mark_text n ++ ys → m ≡ n
one_mark m n xs ys e =
    let first : slice_index (mark_text m) 0 ≡ slice_index (mark_text n) 0 =
    sym (first_of (mark_text m) xs (mark_some m)) ∙ ap (λ (text : List ℕ). slice_index text 0) e ∙ first_of (mark_text n) ys (mark_some n) in
    same_Some m n (sym (mark_from_text m) ∙ ap mark_from first ∙ mark_from_text n)

picked : (b c : ℕ) (k m : Mark) (o : Option Mark) → slice_index (mark_text k) 0 ≡ c → (o ≡ Some m → slice_index (mark_text m) 0 ≡ b) → cond (b == c) (Some k) o ≡ Some m → slice_index (mark_text m) 0 ≡ b
picked b c k m o is others e =
    elim (cases_Bool (b == c)) [
      | inl y ↦
          let same : b ≡ c = eqb-true b c y in
          let this : Some k ≡ Some m = rw y at e in
          ap (λ (n : Mark). slice_index (mark_text n) 0) (sym (same_Some k m this)) ∙ is ∙ sym same
      | inr n ↦ others (rw n at e)
    ]

-- the mark that is found begins with the byte
pub mark_from_is : (b : ℕ) (m : Mark) → mark_from b ≡ Some m → slice_index (mark_text m) 0 ≡ b
unfolding mark_from
mark_from_is b m e =
    picked b 123 OpenBrace m _ refl (
    picked b 125 CloseBrace m _ refl (
    picked b 91 OpenBracket m _ refl (
    picked b 93 CloseBracket m _ refl (
    picked b 40 OpenParen m _ refl (
    picked b 41 CloseParen m _ refl (
    picked b 59 Semicolon m _ refl (
    picked b 124 Bar m _ refl (
    picked b 58 Colon m _ refl (
    picked b 61 Equals m _ refl (
    picked b 44 Comma m _ refl (
    picked b 36 Dollar m _ refl (
    picked b 126 Tilde m _ refl (
    picked b 47 And m _ refl (
    picked b 92 Or m _ refl (λ e. absurd (none-some m e)))))))))))))))) e

-- ---- comments

-- a comment begins with the mark `(`
pub opens_paren : (text : List ℕ) → opens text ≡ true → text ≡ mark_text OpenParen ++ drop 1 text
opens_paren [] h = absurd cc
opens_paren (x ∷ text) h =
    let first : x ≡ 40 = eqb-true x 40 (and_parts (x == 40) (slice_index text 0 == 42) h).0 in
    ap (λ (y : ℕ). y ∷ text) first

pub opens_class : (text : List ℕ) → opens text ≡ true → class_of (slice_index text 0) ≡ Other
opens_class text h = ap (λ (x : List ℕ). class_of (slice_index x 0)) (opens_paren text h)

-- ---- what begins a text, by its first byte

abbrev pub token_class : Tok → Class
token_class (Word w) = Letter
token_class (Number n) = Digit
token_class (Sign m) = Other
token_class (NoToken b) = WhiteSpace

pub begins_class : (t : Tok) (text rest : List ℕ) → BeginsWith t text rest → class_of (slice_index text 0) ≡ token_class t
begins_class (Word w) text rest h = letter_class (slice_index text 0) (ap (λ (x : List ℕ). is_letter (slice_index x 0)) h.0 ∙ ap is_letter (first_of w rest (word_some w h.1)) ∙ h.1.0)
begins_class (Number n) text rest h = digit_class (slice_index text 0) (ap (λ (x : List ℕ). is_ascii_digit (slice_index x 0)) h.1 ∙ ap is_ascii_digit (first_of h.0 rest h.2.0) ∙ first_digit h.0 h.2)
begins_class (Sign m) text rest h = ap (λ (x : List ℕ). class_of (slice_index x 0)) h.0 ∙ ap class_of (first_of (mark_text m) rest (mark_some m)) ∙ mark_class m
begins_class (NoToken b) text rest h = absurd h

pub begins_some : (t : Tok) (text rest : List ℕ) → BeginsWith t text rest → length rest < length text
begins_some (Word w) text rest h = omega (arith, ap length h.0, length-append w rest, word_some w h.1)
begins_some (Number n) text rest h = omega (arith, ap length h.1, length-append h.0 rest, h.2.0)
begins_some (Sign m) text rest h = omega (arith, ap length h.0, length-append (mark_text m) rest, mark_some m)
begins_some (NoToken b) text rest h = absurd h

abbrev pub bad_class : Bad → Class
bad_class bad.Number = Digit
bad_class bad.Minus = Minus
bad_class h = Other

pub bad_begins : (b : Bad) (text : List ℕ) → IsBad b text → class_of (slice_index text 0) ≡ bad_class b
bad_begins bad.Number text h = digit_class (slice_index text 0) (ap (λ (x : List ℕ). is_ascii_digit (slice_index x 0)) h.2 ∙ ap is_ascii_digit (first_of h.0 h.1 h.3.0) ∙ first_digit h.0 h.3)
bad_begins bad.Minus text h = ap class_of h
bad_begins bad.Unfinished text h =
    elim h [
      | inl half ↦ ap class_of (sym (first_of text half.1 half.3) ∙ ap (λ (x : List ℕ). slice_index x 0) (sym half.2)) ∙ mark_class half.0
      | inr open_one ↦ opens_class text open_one.0
    ]
bad_begins bad.Stray text h = other_class (slice_index text 0) h.no_white_space h.no_word h.no_minus

-- nothing bad begins where the text stops
pub bad_some : (b : Bad) → IsBad b [] → ⊥
bad_some bad.Number h = omega (arith, ap length h.2, length-append h.0 h.1, h.3.0)
bad_some bad.Minus h = absurd cc
bad_some bad.Unfinished h = elim h [ inl half ↦ omega (arith, half.3) | inr open_one ↦ let e : false ≡ true = open_one.0 in cc ]
bad_some bad.Stray h = omega (arith, h.some)
