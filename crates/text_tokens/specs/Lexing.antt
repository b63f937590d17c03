-- The tokens of a text.
use Rattle.std.specs.Prelude.{◌≡◌, ◌≢◌, ◌<◌, ◌≤◌, ◌⊎◌, ℕ, true, false, List, [], ◌∷◌, ◌++◌, length, slice_index}
use Rattle.std.specs.List.{list_all}
use Rattle.std.specs.Char.{is_ascii_digit}
use Rattle.std.specs.Str.Parse.{digits_value}
use Rattle.text_tokens.specs.declared.token.Mark.{Mark}
use Rattle.text_tokens.specs.declared.token.Bad.{Bad}
use Rattle.text_tokens.specs.declared.token.Bad.TheVariants as bad
use Rattle.text_tokens.specs.Bytes.{is_white_space, is_letter, is_word_byte}
use Rattle.text_tokens.specs.Marks.{mark_text}
use Rattle.text_tokens.specs.Comments.{opens, IsComment}
use Rattle.text_tokens.specs.Tokens.{Tok, Word, Number, Sign, NoToken}

-- a letter or `_`, then letters, digits and `_`
abbrev pub IsWord : List ℕ → Type 0
IsWord w = (is_letter (slice_index w 0) ≡ true) × (list_all is_word_byte w ≡ true)

-- decimal digits, at least one
abbrev pub AreDigits : List ℕ → Type 0
AreDigits ds = (0 < length ds) × (list_all is_ascii_digit ds ≡ true)

-- neither a letter, a digit nor `_` comes first
abbrev pub NoWordGoesOn : List ℕ → Type 0
NoWordGoesOn rest = is_word_byte (slice_index rest 0) ≡ false

-- The text is the token and then the rest. A word or a number goes as far as it can, and `(` does not begin a comment.
abbrev pub BeginsWith : Tok → List ℕ → List ℕ → Type 0
BeginsWith (Word w) text rest = (text ≡ w ++ rest) × IsWord w × NoWordGoesOn rest
BeginsWith (Number n) text rest = (ds : List ℕ) × (text ≡ ds ++ rest) × AreDigits ds × (n ≡ digits_value 10 ds) × (n ≤ 4294967295) × NoWordGoesOn rest
BeginsWith (Sign m) text rest = (text ≡ mark_text m ++ rest) × (opens text ≡ false)
BeginsWith (NoToken b) text rest = ⊥

-- The text is these tokens, with white space and comments anywhere between them, and then the rest.
pub data BeginsWithAll : List Tok → List ℕ → List ℕ → Type 0 where
  none : {rest : List ℕ} → BeginsWithAll [] rest rest
  white_space : {b : ℕ} {ts : List Tok} {text rest : List ℕ} → is_white_space b ≡ true → BeginsWithAll ts text rest → BeginsWithAll ts (b ∷ text) rest
  comment : {ts : List Tok} {text others rest : List ℕ} → IsComment text others → BeginsWithAll ts others rest → BeginsWithAll ts text rest
  token : {t : Tok} {ts : List Tok} {text others rest : List ℕ} → BeginsWith t text others → BeginsWithAll ts others rest → BeginsWithAll (t ∷ ts) text rest

-- the whole text is these tokens
abbrev pub Lexes : List ℕ → List Tok → Type 0
Lexes text ts = BeginsWithAll ts text []

-- digits past 4294967295, or digits with a letter or `_` behind them
abbrev pub IsBadNumber : List ℕ → Type 0
IsBadNumber text = (ds : List ℕ) × (rest : List ℕ) × (text ≡ ds ++ rest) × AreDigits ds × (is_ascii_digit (slice_index rest 0) ≡ false)
    × ((4294967295 < digits_value 10 ds) ⊎ (is_letter (slice_index rest 0) ≡ true))

-- a mark without its last bytes, where the text stops
abbrev pub IsHalf : List ℕ → Type 0
IsHalf text = (m : Mark) × (more : List ℕ) × (mark_text m ≡ text ++ more) × (0 < length text) × (0 < length more)

-- a comment that does not end
abbrev pub StaysOpen : List ℕ → Type 0
StaysOpen text = (opens text ≡ true) × ((rest : List ℕ) → IsComment text rest → ⊥)

-- a byte with which nothing else begins
pub record IsStray (text : List ℕ) : Type 0 where
  pub some : 0 < length text
  pub no_white_space : is_white_space (slice_index text 0) ≡ false
  pub no_word : is_word_byte (slice_index text 0) ≡ false
  pub no_minus : slice_index text 0 ≢ 45
  pub no_mark : (m : Mark) (rest : List ℕ) → text ≡ mark_text m ++ rest → ⊥
  pub no_part : (m : Mark) (more : List ℕ) → mark_text m ≡ text ++ more → ⊥

-- why no token stands at the front of the text
abbrev pub IsBad : Bad → List ℕ → Type 0
IsBad bad.Number text = IsBadNumber text
IsBad bad.Minus text = slice_index text 0 ≡ 45
IsBad bad.Unfinished text = IsHalf text ⊎ StaysOpen text
IsBad bad.Stray text = IsStray text

-- the tokens up to a place where none can stand, and why none can
abbrev pub StopsAt : List ℕ → List Tok → Type 0
StopsAt text ts = (good : List Tok) × (b : Bad) × (rest : List ℕ) × (ts ≡ good ++ NoToken b ∷ []) × BeginsWithAll good text rest × IsBad b rest

-- the tokens of the whole text, or those up to a place where none can stand
abbrev pub LexesTo : List ℕ → List Tok → Type 0
LexesTo text ts = Lexes text ts ⊎ StopsAt text ts
