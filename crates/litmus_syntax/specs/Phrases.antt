-- Words to write a grammar with.
use Rattle.std.specs.Prelude.{◌≡◌, ℕ, Bool, false, List, [], ◌∷◌, ◌⊎◌}
use Rattle.std.specs.Str.{bytes_eq}
use Rattle.text_tokens.specs.declared.token.Mark.{Mark}
use Rattle.text_tokens.specs.Tokens.{Tok, Word, Number, Sign, NoToken}

-- a phrase relates tokens that begin with a spelling of it to those that follow
abbrev pub Phrase : Type 1
Phrase = List Tok → List Tok → Type 0

-- one phrase and then another
infixr 20 ◌▸◌
abbrev pub ◌▸◌ : Phrase → Phrase → Phrase
p ▸ q = λ ts rest. (us : List Tok) × p ts us × q us rest

-- one phrase or another
infixr 15 ◌or◌
abbrev pub ◌or◌ : Phrase → Phrase → Phrase
p or q = λ ts rest. p ts rest ⊎ q ts rest

-- this mark
abbrev pub mark : Mark → Phrase
mark m ts rest = ts ≡ Sign m ∷ rest

-- this word
abbrev pub word : List ℕ → Phrase
word w ts rest = ts ≡ Word w ∷ rest

-- this number
abbrev pub number : ℕ → Phrase
number n ts rest = ts ≡ Number n ∷ rest

-- nothing, where this mark comes next
abbrev pub before : Mark → Phrase
before m ts rest = (ts ≡ rest) × ((us : List Tok) × (ts ≡ Sign m ∷ us))

-- whether this word comes first
abbrev pub begins_with_word : List ℕ → List Tok → Bool
begins_with_word word [] = false
begins_with_word word (Word w ∷ ts) = bytes_eq w word
begins_with_word word (Number n ∷ ts) = false
begins_with_word word (Sign m ∷ ts) = false
begins_with_word word (NoToken b ∷ ts) = false

-- nothing, where this word does not come next
abbrev pub no_word : List ℕ → Phrase
no_word w ts rest = (ts ≡ rest) × (begins_with_word w ts ≡ false)

-- any number of items, and then the end
pub data Items {X : Type 0} (Item : X → List Tok → List Tok → Type 0) (End : List Tok → List Tok → Type 0) : List X → List Tok → List Tok → Type 0 where
  end : {ts rest : List Tok} → End ts rest → Items Item End [] ts rest
  item : {x : X} {xs : List X} {ts others rest : List Tok} → Item x ts others → Items Item End xs others rest → Items Item End (x ∷ xs) ts rest
