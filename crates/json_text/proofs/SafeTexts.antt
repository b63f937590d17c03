-- No text of a value has `<`.
use Rattle.json_text.proofs.Vocabulary.{◌≡◌, ◌≢◌, ℕ, ◌+◌, ◌<◌, ◌^◌, ◌/◌, ◌%◌, Bool, true, false, List, [], ◌∷◌, ◌++◌, arith, refl, sym, subst, nat_lt, if◌then◌else◌, flat_map, nat_tests, IsSafe, Json, Null, Truth, Number, Text, Array, Object, Elements}
use Rattle.json_text.proofs.Vocabulary.{NoElement, MoreElements, Fields, NoField, MoreFields, written, elements_written, members_written, IsJson, hex_digit, unicode_escape, needs_backslash, needs_number, escaped, quoted, after_comma, with_commas, enclosed}
use Rattle.json_text.proofs.Vocabulary.{member}
use Rattle.std.specs.Fmt.{decimal}
use Rattle.std.specs.Str.Parse.{AllDigits}
use Rattle.std.proofs.lemmas.Fmt.{decimal_is_IsNumeral}
use Rattle.std.proofs.lemmas.Str.Parse.{tells_digits}

safe_append : (xs ys : List ℕ) → IsSafe xs → IsSafe ys → IsSafe (xs ++ ys)
safe_append [] ys first second = second
safe_append (x ∷ xs) ys (other, first) second = (other, safe_append xs ys first second)

-- ---- strings

hex_other : (n : ℕ) (small : Bool) → nat_lt n 10 ≡ small → (if small then 48 + n else 87 + n) ≡ 60 → ⊥
hex_other n true below e = grind (arith, nat_tests)
hex_other n false above e = omega (arith, e)

hex_is_safe : (n : ℕ) → hex_digit n ≢ 60
hex_is_safe n e = hex_other n (nat_lt n 10) refl e

false_true : false ≡ true → ⊥
false_true e = absurd cc

true_false : true ≡ false → ⊥
true_false e = absurd cc

by_tests : (byte : ℕ) (first second : Bool) → needs_backslash byte ≡ first → needs_number byte ≡ second → IsSafe (if first then 92 ∷ byte ∷ [] else if second then unicode_escape byte else byte ∷ [])
by_tests byte true second is other = (omega arith, ((λ e. false_true (subst (λ (n : ℕ). needs_backslash n ≡ true) e is)), tt))
by_tests byte false true is other = (omega arith, (omega arith, (omega arith, (omega arith, (hex_is_safe (byte / 16), (hex_is_safe (byte % 16), tt))))))
by_tests byte false false is other = ((λ e. true_false (subst (λ (n : ℕ). needs_number n ≡ false) e other)), tt)

escaped_is_safe : (byte : ℕ) → IsSafe (escaped byte)
unfolding escaped
escaped_is_safe byte = by_tests byte (needs_backslash byte) (needs_number byte) refl refl

escapes_are_safe : (bytes : List ℕ) → IsSafe (flat_map escaped bytes)
escapes_are_safe [] = tt
escapes_are_safe (byte ∷ bytes) = safe_append (escaped byte) (flat_map escaped bytes) (escaped_is_safe byte) (escapes_are_safe bytes)

quoted_is_safe : (bytes : List ℕ) → IsSafe (quoted bytes)
quoted_is_safe bytes = (omega arith, safe_append (flat_map escaped bytes) (34 ∷ []) (escapes_are_safe bytes) (omega arith, tt))

-- ---- numbers

digits_are_safe : (ds : List ℕ) → AllDigits 10 ds → IsSafe ds
digits_are_safe [] all = tt
digits_are_safe (d ∷ ds) all = let part = tells_digits.parts d ds all in ((λ e. omega (arith, part.0.1, e)), digits_are_safe ds part.1)

number_is_safe : (n : ℕ) → n < 2 ^ 64 → IsSafe (decimal n)
number_is_safe n small = digits_are_safe (decimal n) (decimal_is_IsNumeral n small).0.1

-- ---- lists of texts

abbrev AreSafe : List (List ℕ) → Type 0
AreSafe [] = Unit {0}
AreSafe (text ∷ texts) = IsSafe text × AreSafe texts

rest_is_safe : (texts : List (List ℕ)) → AreSafe texts → IsSafe (flat_map after_comma texts)
rest_is_safe [] are = tt
rest_is_safe (text ∷ texts) are = safe_append (after_comma text) (flat_map after_comma texts) (omega arith, are.0) (rest_is_safe texts are.1)

commas_are_safe : (texts : List (List ℕ)) → AreSafe texts → IsSafe (with_commas texts)
commas_are_safe [] are = tt
commas_are_safe (text ∷ texts) are = safe_append text (flat_map after_comma texts) are.0 (rest_is_safe texts are.1)

enclosed_is_safe : (opening : ℕ) (texts : List (List ℕ)) (closing : ℕ) → opening ≢ 60 → closing ≢ 60 → AreSafe texts → IsSafe (enclosed opening texts closing)
enclosed_is_safe opening texts closing first last are = (first, safe_append (with_commas texts) (closing ∷ []) (commas_are_safe texts are) (last, tt))

member_is_safe : (name text : List ℕ) → IsSafe text → IsSafe (member name text)
member_is_safe name text is = safe_append (quoted name) (58 ∷ text) (quoted_is_safe name) (omega arith, is)

-- ---- values

mutual
  written_is_safe : (value : Json) → IsSafe (written value)
  written_is_safe Null = (omega arith, (omega arith, (omega arith, (omega arith, tt))))
  written_is_safe (Truth true) = (omega arith, (omega arith, (omega arith, (omega arith, tt))))
  written_is_safe (Truth false) = (omega arith, (omega arith, (omega arith, (omega arith, (omega arith, tt)))))
  written_is_safe (Number n small) = number_is_safe n small
  written_is_safe (Text bytes) = quoted_is_safe bytes
  written_is_safe (Array items) = enclosed_is_safe 91 (elements_written items) 93 (omega arith) (omega arith) (items_are_safe items)
  written_is_safe (Object fields) = enclosed_is_safe 123 (members_written fields) 125 (omega arith) (omega arith) (members_are_safe fields)

  items_are_safe : (items : Elements) → AreSafe (elements_written items)
  items_are_safe NoElement = tt
  items_are_safe (MoreElements value items) = (written_is_safe value, items_are_safe items)

  members_are_safe : (fields : Fields) → AreSafe (members_written fields)
  members_are_safe NoField = tt
  members_are_safe (MoreFields name value fields) = (member_is_safe name (written value) (written_is_safe value), members_are_safe fields)

pub json_is_safe : (text : List ℕ) → IsJson text → IsSafe text
json_is_safe text is = subst IsSafe (sym is.is) (written_is_safe is.value)

-- nor has it as a line
pub safe_line : (text : List ℕ) → IsSafe text → IsSafe (text ++ 10 ∷ [])
safe_line text is = safe_append text (10 ∷ []) is (omega arith, tt)
