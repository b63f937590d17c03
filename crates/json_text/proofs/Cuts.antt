-- The text of an object, cut into its members: they are those that it was made of, and it ends where they end.
use Rattle.json_text.proofs.Vocabulary.{◌≡◌, ◌∙◌, ℕ, suc, ◌+◌, ◌/◌, ◌%◌, ◌≤◌, Bool, true, false, List, [], ◌∷◌, ◌++◌, ◌==◌, ◌||◌, Option, Some, None, ap, append_assoc, append-nil, arith, refl, sym, subst, nat_lt, if◌then◌else◌, flat_map, nat_tests, Json, Null, Truth, Number, Text, Array, Object}
use Rattle.json_text.proofs.Vocabulary.{Elements, NoElement, MoreElements, Fields, NoField, MoreFields, written, elements_written, members_written, AreMembers, hex_digit, unicode_escape, needs_backslash, needs_number, escaped, quoted, after_comma, with_commas, enclosed, member, object_text}
use Rattle.std.specs.Prelude.{zero}
use Rattle.std.specs.Fmt.{decimal}
use Rattle.std.specs.Str.Parse.{AllDigits}
use Rattle.std.proofs.lemmas.Fmt.{decimal_is_IsNumeral}
use Rattle.std.proofs.lemmas.Str.Parse.{tells_digits}
use Rattle.json_text.specs.Laws.{NoObjectClosesEarly}

-- ---- cutting at the commas of an object that is open

-- where a byte stands: in no string, in one, or in one after a `\`
data Place : Type 0 where
  outside : Place
  inside : Place
  escaping : Place

-- the first piece, those after it, and what comes after the object; or nothing, where it does not end
abbrev Cut : Type 0
Cut = Option (List ℕ × List (List ℕ) × List ℕ)

-- one more byte before the first piece, and some
abbrev before : ℕ → Cut → Cut
before byte None = None
before byte (Some cut) = Some (byte ∷ cut.0, cut.1, cut.2)

abbrev all_before : List ℕ → Cut → Cut
all_before [] cut = cut
all_before (byte ∷ bytes) cut = before byte (all_before bytes cut)

-- a new piece before the others
abbrev apart : Cut → Cut
apart None = None
apart (Some cut) = Some ([], cut.0 ∷ cut.1, cut.2)

-- a quote, a bracket that opens, one that closes, a comma, or another byte outside strings, under so many open brackets
abbrev from_outside : Bool → Bool → Bool → Bool → ℕ → ℕ → List ℕ → (ℕ → Place → Cut) → Cut
from_outside true opens closes comma byte depth bytes next = before byte (next depth inside)
from_outside false true closes comma byte depth bytes next = before byte (next (suc depth) outside)
from_outside false false true comma byte zero bytes next = Some ([], [], bytes)
from_outside false false true comma byte (suc depth) bytes next = before byte (next depth outside)
from_outside false false false true byte zero bytes next = apart (next zero outside)
from_outside false false false true byte (suc depth) bytes next = before byte (next (suc depth) outside)
from_outside false false false false byte depth bytes next = before byte (next depth outside)

-- a quote, a `\`, or another byte in a string
abbrev from_inside : Bool → Bool → ℕ → ℕ → (ℕ → Place → Cut) → Cut
from_inside true backslash byte depth next = before byte (next depth outside)
from_inside false true byte depth next = before byte (next depth escaping)
from_inside false false byte depth next = before byte (next depth inside)

abbrev from : Place → ℕ → ℕ → List ℕ → (ℕ → Place → Cut) → Cut
from outside byte depth bytes next = from_outside (byte == 34) ((byte == 91) || (byte == 123)) ((byte == 93) || (byte == 125)) (byte == 44) byte depth bytes next
from inside byte depth bytes next = from_inside (byte == 34) (byte == 92) byte depth next
from escaping byte depth bytes next = before byte (next depth inside)

abbrev cut : List ℕ → ℕ → Place → Cut
cut [] depth place = None
cut (byte ∷ bytes) depth place = from place byte depth bytes (cut bytes)

all_before_append : (xs ys : List ℕ) (c : Cut) → all_before (xs ++ ys) c ≡ all_before xs (all_before ys c)
all_before_append [] ys c = refl
all_before_append (x ∷ xs) ys c = ap (before x) (all_before_append xs ys c)

all_before_some : (xs first : List ℕ) (more : List (List ℕ)) (rest : List ℕ) → all_before xs (Some (first, more, rest)) ≡ Some (xs ++ first, more, rest)
all_before_some [] first more rest = refl
all_before_some (x ∷ xs) first more rest = ap (before x) (all_before_some xs first more rest)

-- a text that stands in one piece, whatever comes after it
abbrev Passes : List ℕ → Type 0
Passes text = (depth : ℕ) (bytes : List ℕ) → cut (text ++ bytes) depth outside ≡ all_before text (cut bytes depth outside)

passes_append : (xs ys : List ℕ) → Passes xs → Passes ys → Passes (xs ++ ys)
passes_append xs ys first second depth bytes =
    ap (λ (t : List ℕ). cut t depth outside) (append_assoc xs ys bytes) ∙ first depth (ys ++ bytes) ∙ ap (all_before xs) (second depth bytes) ∙ sym (all_before_append xs ys (cut bytes depth outside))

true_is_false : true ≡ false → ⊥
true_is_false e = absurd cc

-- ---- strings

still_inside : (quote backslash : Bool) (byte depth : ℕ) (next : ℕ → Place → Cut) → (quote || backslash) ≡ false → from_inside quote backslash byte depth next ≡ before byte (next depth inside)
still_inside true backslash byte depth next is = absurd (true_is_false is)
still_inside false true byte depth next is = absurd (true_is_false is)
still_inside false false byte depth next is = refl

byte_passes : (byte : ℕ) (bytes : List ℕ) (depth : ℕ) → needs_backslash byte ≡ false → cut (byte ∷ bytes) depth inside ≡ before byte (cut bytes depth inside)
byte_passes byte bytes depth is = still_inside (byte == 34) (byte == 92) byte depth (cut bytes) is

hex_is_plain_by : (n : ℕ) (small : Bool) → nat_lt n 10 ≡ small → needs_backslash (if small then 48 + n else 87 + n) ≡ false
hex_is_plain_by n true below = grind (arith, nat_tests)
hex_is_plain_by n false above = grind (arith, nat_tests)

hex_is_plain : (n : ℕ) → needs_backslash (hex_digit n) ≡ false
hex_is_plain n = hex_is_plain_by n (nat_lt n 10) refl

escape_passes : (byte : ℕ) (first second : Bool) → needs_backslash byte ≡ first → needs_number byte ≡ second → (bytes : List ℕ) (depth : ℕ)
    → cut ((if first then 92 ∷ byte ∷ [] else if second then unicode_escape byte else byte ∷ []) ++ bytes) depth inside ≡ all_before (if first then 92 ∷ byte ∷ [] else if second then unicode_escape byte else byte ∷ []) (cut bytes depth inside)
escape_passes byte true second is other bytes depth = refl
escape_passes byte false true is other bytes depth =
    let high = hex_digit (byte / 16) in
    let low = hex_digit (byte % 16) in
    ap (λ (c : Cut). before 92 (before 117 (before 48 (before 48 c)))) (byte_passes high (low ∷ bytes) depth (hex_is_plain (byte / 16)) ∙ ap (before high) (byte_passes low bytes depth (hex_is_plain (byte % 16))))
escape_passes byte false false is other bytes depth = byte_passes byte bytes depth is

escaped_passes : (byte : ℕ) (bytes : List ℕ) (depth : ℕ) → cut (escaped byte ++ bytes) depth inside ≡ all_before (escaped byte) (cut bytes depth inside)
unfolding escaped
escaped_passes byte bytes depth = escape_passes byte (needs_backslash byte) (needs_number byte) refl refl bytes depth

string_passes : (text : List ℕ) (depth : ℕ) (bytes : List ℕ) → cut (flat_map escaped text ++ 34 ∷ bytes) depth inside ≡ all_before (flat_map escaped text) (before 34 (cut bytes depth outside))
string_passes [] depth bytes = refl
string_passes (byte ∷ text) depth bytes =
    let more = flat_map escaped text in
    ap (λ (t : List ℕ). cut t depth inside) (append_assoc (escaped byte) more (34 ∷ bytes)) ∙ escaped_passes byte (more ++ 34 ∷ bytes) depth
    ∙ ap (all_before (escaped byte)) (string_passes text depth bytes) ∙ sym (all_before_append (escaped byte) more (before 34 (cut bytes depth outside)))

quoted_passes : (text : List ℕ) → Passes (quoted text)
quoted_passes text depth bytes =
    let all = flat_map escaped text in
    ap (before 34) (ap (λ (t : List ℕ). cut t depth inside) (append_assoc all (34 ∷ []) bytes) ∙ string_passes text depth bytes ∙ sym (all_before_append all (34 ∷ []) (cut bytes depth outside)))

-- ---- numbers

still_outside : (quote opens closes comma : Bool) (byte depth : ℕ) (bytes : List ℕ) (next : ℕ → Place → Cut) → quote ≡ false → opens ≡ false → closes ≡ false → comma ≡ false
    → from_outside quote opens closes comma byte depth bytes next ≡ before byte (next depth outside)
still_outside true opens closes comma byte depth bytes next q o c m = absurd (true_is_false q)
still_outside false true closes comma byte depth bytes next q o c m = absurd (true_is_false o)
still_outside false false true comma byte depth bytes next q o c m = absurd (true_is_false c)
still_outside false false false true byte depth bytes next q o c m = absurd (true_is_false m)
still_outside false false false false byte depth bytes next q o c m = refl

digit_passes : (byte : ℕ) (bytes : List ℕ) (depth : ℕ) → 48 ≤ byte → byte ≤ 57 → cut (byte ∷ bytes) depth outside ≡ before byte (cut bytes depth outside)
digit_passes byte bytes depth low high =
    still_outside (byte == 34) ((byte == 91) || (byte == 123)) ((byte == 93) || (byte == 125)) (byte == 44) byte depth bytes (cut bytes) (grind (arith, nat_tests)) (grind (arith, nat_tests)) (grind (arith, nat_tests)) (grind (arith, nat_tests))

digits_pass : (ds : List ℕ) → AllDigits 10 ds → Passes ds
digits_pass [] all depth bytes = refl
digits_pass (d ∷ ds) all depth bytes =
    let part = tells_digits.parts d ds all in
    digit_passes d (ds ++ bytes) depth (omega (arith, part.0)) (omega (arith, part.0)) ∙ ap (before d) (digits_pass ds part.1 depth bytes)

-- ---- arrays and objects

abbrev AllPass : List (List ℕ) → Type 0
AllPass [] = Unit {0}
AllPass (text ∷ texts) = Passes text × AllPass texts

rest_passes : (texts : List (List ℕ)) → AllPass texts → (depth : ℕ) (bytes : List ℕ) → cut (flat_map after_comma texts ++ bytes) (suc depth) outside ≡ all_before (flat_map after_comma texts) (cut bytes (suc depth) outside)
rest_passes [] are depth bytes = refl
rest_passes (text ∷ texts) are depth bytes =
    let more = flat_map after_comma texts in
    ap (before 44) (ap (λ (t : List ℕ). cut t (suc depth) outside) (append_assoc text more bytes) ∙ are.0 (suc depth) (more ++ bytes) ∙ ap (all_before text) (rest_passes texts are.1 depth bytes)
    ∙ sym (all_before_append text more (cut bytes (suc depth) outside)))

commas_pass : (texts : List (List ℕ)) → AllPass texts → (depth : ℕ) (bytes : List ℕ) → cut (with_commas texts ++ bytes) (suc depth) outside ≡ all_before (with_commas texts) (cut bytes (suc depth) outside)
commas_pass [] are depth bytes = refl
commas_pass (text ∷ texts) are depth bytes =
    let more = flat_map after_comma texts in
    ap (λ (t : List ℕ). cut t (suc depth) outside) (append_assoc text more bytes) ∙ are.0 (suc depth) (more ++ bytes) ∙ ap (all_before text) (rest_passes texts are.1 depth bytes)
    ∙ sym (all_before_append text more (cut bytes (suc depth) outside))

enclosed_passes : (opening closing : ℕ) → ((bytes : List ℕ) (depth : ℕ) → cut (opening ∷ bytes) depth outside ≡ before opening (cut bytes (suc depth) outside))
    → ((bytes : List ℕ) (depth : ℕ) → cut (closing ∷ bytes) (suc depth) outside ≡ before closing (cut bytes depth outside)) → (texts : List (List ℕ)) → AllPass texts → Passes (enclosed opening texts closing)
enclosed_passes opening closing opens closes texts are depth bytes =
    let all = with_commas texts in
    opens ((all ++ closing ∷ []) ++ bytes) depth
    ∙ ap (before opening) (ap (λ (t : List ℕ). cut t (suc depth) outside) (append_assoc all (closing ∷ []) bytes) ∙ commas_pass texts are depth (closing ∷ bytes) ∙ ap (all_before all) (closes bytes depth)
    ∙ sym (all_before_append all (closing ∷ []) (cut bytes depth outside)))

member_passes : (name text : List ℕ) → Passes text → Passes (member name text)
member_passes name text is = passes_append (quoted name) (58 ∷ text) (quoted_passes name) (λ depth bytes. ap (before 58) (is depth bytes))

-- ---- values

mutual
  written_passes : (value : Json) → Passes (written value)
  written_passes Null depth bytes = refl
  written_passes (Truth true) depth bytes = refl
  written_passes (Truth false) depth bytes = refl
  written_passes (Number n small) depth bytes = digits_pass (decimal n) (decimal_is_IsNumeral n small).0.1 depth bytes
  written_passes (Text text) depth bytes = quoted_passes text depth bytes
  written_passes (Array items) depth bytes = enclosed_passes 91 93 (λ bytes depth. refl) (λ bytes depth. refl) (elements_written items) (items_pass items) depth bytes
  written_passes (Object fields) depth bytes = enclosed_passes 123 125 (λ bytes depth. refl) (λ bytes depth. refl) (members_written fields) (members_pass fields) depth bytes

  items_pass : (items : Elements) → AllPass (elements_written items)
  items_pass NoElement = tt
  items_pass (MoreElements value items) = (written_passes value, items_pass items)

  members_pass : (fields : Fields) → AllPass (members_written fields)
  members_pass NoField = tt
  members_pass (MoreFields name value fields) = (member_passes name (written value) (written_passes value), members_pass fields)

-- ---- an object

rest_cut : (texts : List (List ℕ)) → AllPass texts → (rest : List ℕ) → cut (flat_map after_comma texts ++ 125 ∷ rest) zero outside ≡ Some ([], texts, rest)
rest_cut [] are rest = refl
rest_cut (text ∷ texts) are rest =
    let more = flat_map after_comma texts in
    ap apart (ap (λ (t : List ℕ). cut t zero outside) (append_assoc text more (125 ∷ rest)) ∙ are.0 zero (more ++ 125 ∷ rest) ∙ ap (all_before text) (rest_cut texts are.1 rest) ∙ all_before_some text [] texts rest
    ∙ ap (λ (t : List ℕ). Some (t, texts, rest)) (append-nil text))

-- the pieces of some members, and what comes after
abbrev pieces : List (List ℕ) → List ℕ → Cut
pieces [] rest = Some ([], [], rest)
pieces (text ∷ texts) rest = Some (text, texts, rest)

members_cut : (texts : List (List ℕ)) → AllPass texts → (rest : List ℕ) → cut (with_commas texts ++ 125 ∷ rest) zero outside ≡ pieces texts rest
members_cut [] are rest = refl
members_cut (text ∷ texts) are rest =
    let more = flat_map after_comma texts in
    ap (λ (t : List ℕ). cut t zero outside) (append_assoc text more (125 ∷ rest)) ∙ are.0 zero (more ++ 125 ∷ rest) ∙ ap (all_before text) (rest_cut texts are.1 rest) ∙ all_before_some text [] texts rest
    ∙ ap (λ (t : List ℕ). Some (t, texts, rest)) (append-nil text)

-- a text after its first byte
abbrev opened : List ℕ → Cut
opened [] = None
opened (byte ∷ bytes) = cut bytes zero outside

object_cut : (texts : List (List ℕ)) → AllPass texts → (rest : List ℕ) → opened (object_text texts ++ rest) ≡ pieces texts rest
object_cut texts are rest = ap (λ (t : List ℕ). cut t zero outside) (append_assoc (with_commas texts) (125 ∷ []) rest) ∙ members_cut texts are rest

-- ---- what is cut is what was put together

abbrev first_of : Cut → List ℕ
first_of None = []
first_of (Some cut) = cut.0

abbrev more_of : Cut → List (List ℕ)
more_of None = []
more_of (Some cut) = cut.1

abbrev rest_of : Cut → List ℕ
rest_of None = []
rest_of (Some cut) = cut.2

abbrev HasByte : List ℕ → Type 0
HasByte [] = ⊥
HasByte (byte ∷ bytes) = Unit {0}

-- the first of some texts has a byte
abbrev IsFilled : List (List ℕ) → Type 0
IsFilled [] = Unit {0}
IsFilled (text ∷ texts) = HasByte text

members_are_filled : (fields : Fields) → IsFilled (members_written fields)
members_are_filled NoField = tt
members_are_filled (MoreFields name value fields) = tt

same_pieces : (members others : List (List ℕ)) (rest : List ℕ) → IsFilled members → IsFilled others → pieces members rest ≡ pieces others [] → (members ≡ others) × (rest ≡ [])
same_pieces [] [] rest one two e = (refl, ap rest_of e)
same_pieces [] (other ∷ others) rest one two e = absurd (subst HasByte (sym (ap first_of e)) two)
same_pieces (text ∷ members) [] rest one two e = absurd (subst HasByte (ap first_of e) one)
same_pieces (text ∷ members) (other ∷ others) rest one two e =
    let here : text ≡ other = ap first_of e in
    let there : members ≡ others = ap more_of e in
    (λ i. here i ∷ there i, ap rest_of e)

ends_once : (fields others : Fields) (rest : List ℕ) → object_text (members_written fields) ++ rest ≡ object_text (members_written others) → (members_written fields ≡ members_written others) × (rest ≡ [])
ends_once fields others rest e =
    let text = object_text (members_written others) in
    same_pieces (members_written fields) (members_written others) rest (members_are_filled fields) (members_are_filled others)
    (sym (object_cut (members_written fields) (members_pass fields) rest) ∙ ap opened (e ∙ sym (append-nil text)) ∙ object_cut (members_written others) (members_pass others) [])

pub no_object_closes_early : NoObjectClosesEarly
no_object_closes_early members others rest one two e =
    let same = ends_once one.fields two.fields rest (ap (λ (ms : List (List ℕ)). object_text ms ++ rest) (sym one.are) ∙ e ∙ ap object_text two.are) in
    (one.are ∙ same.0 ∙ sym two.are, same.1)
