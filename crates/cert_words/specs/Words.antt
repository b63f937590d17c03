-- What each function of the words gives: a value, and the bytes after it; or nothing.
use Rattle.std.specs.Prelude.{◌==◌, ◌||◌, ℕ, zero, suc, Bool, true, false, List, [], ◌∷◌, ◌++◌, take, drop, nat_lt, not, Option, Some, None, if◌then◌else◌}
use Rattle.std.specs.List.{prefix_len}
use Rattle.std.specs.Str.{bytes_eq}
use Rattle.text_tokens.specs.Numbers.{plain_number_at}
use Rattle.text_tokens.specs.Steps.{◌>>=◌}
use Rattle.cert_words.specs.declared.numbers.TheConstants.{MAX_COUNT}
use Rattle.cert_words.specs.declared.refusal.Stop.{Stop, TheVariants.Refused, TheVariants.OutOfMemory}

-- the reason to stop is out of memory
abbrev pub stops_for_memory : Stop → Bool
stops_for_memory OutOfMemory = true
stops_for_memory (Refused r) = false

-- ---- words, and ends of lines

-- neither a space nor LF
abbrev pub is_inner : ℕ → Bool
is_inner b = not (b == 32 || b == 10)

abbrev pub front : List ℕ → List ℕ
front bytes = take (prefix_len is_inner bytes) bytes

abbrev pub after_word : List ℕ → List ℕ
after_word bytes = drop (prefix_len is_inner bytes) bytes

-- a space, and then a word as far as it goes
unfoldable pub word_at : List ℕ → Option (List ℕ × List ℕ)
word_at [] = None
word_at (b ∷ bytes) = if b == 32 then Some (front bytes, after_word bytes) else None

-- a space, and then a word as far as it goes, which spells a value
abbrev pub spaced_word_at : {A : Type 0} → (List ℕ → Option A) → List ℕ → Option (A × List ℕ)
spaced_word_at spelled bytes = do
  w ← word_at bytes
  x ← spelled w.0
  Some (x, w.1)

-- the first word of a line
unfoldable pub line_name_at : List ℕ → List ℕ → Option (List ℕ)
line_name_at name bytes = if bytes_eq (front bytes) name then Some (after_word bytes) else None

-- the end of a line
unfoldable pub end_at : List ℕ → Option (List ℕ)
end_at [] = None
end_at (b ∷ bytes) = if b == 10 then Some bytes else None

abbrev pub begins_word : List ℕ → Bool
begins_word [] = false
begins_word (b ∷ bytes) = b == 32

-- no byte of a word comes first
abbrev pub ends_word : List ℕ → Bool
ends_word [] = true
ends_word (b ∷ bytes) = not (is_inner b)

-- a number up to the limit
unfoldable pub number_within_at : ℕ → List ℕ → Option (ℕ × List ℕ)
number_within_at limit bytes = spaced_word_at (plain_number_at limit) bytes

-- a number of children or events
unfoldable pub count_at : List ℕ → Option (ℕ × List ℕ)
count_at bytes = do
  n ← number_within_at 18446744073709551615 bytes
  if nat_lt MAX_COUNT n.0 then None else Some n

-- the byte of a word of one byte
abbrev pub letter_of : List ℕ → Option ℕ
letter_of [] = None
letter_of (b ∷ []) = Some b
letter_of (b ∷ (d ∷ word)) = None

unfoldable pub letter_at : List ℕ → Option (ℕ × List ℕ)
letter_at bytes = spaced_word_at letter_of bytes

-- ---- lists

-- so many values, after those that there are
abbrev pub repeat_at : {A : Type 0} → (List ℕ → Option (A × List ℕ)) → ℕ → List A → List ℕ → Option (List A × List ℕ)
repeat_at read zero found bytes = Some (found, bytes)
repeat_at read (suc n) found bytes = do
  x ← read bytes
  repeat_at read n (found ++ x.0 ∷ []) x.1
