-- What the lexer finds at the front of a text.
use Rattle.text_tokens.proofs.Vocabulary.{◌≡◌, ◌≢◌, ℕ, ◌<◌, ◌≤◌, true, false, List, [], ◌∷◌, ◌++◌, length, take, drop, Some, None, refl, sym, ap, ◌∙◌, arith, inl, inr, nat_eq, prefix_len, starts_with, take-append-drop, get_or-take, length-append, append-nil}
use Rattle.text_tokens.proofs.Vocabulary.{nil_from_length, Decides-eqb, slice_index, is_ascii_digit, Mark, is_white_space, is_letter, is_word_byte, value_at, mark_text, mark_from, Word, Number, BeginsWith, AreDigits, IsBadNumber, IsHalf, IsStray, same_Some}
use Rattle.text_tokens.proofs.Vocabulary.{none-some}
use Rattle.std.proofs.lemmas.List.Folds.{length-prefix_len}
use Rattle.std.proofs.lemmas.Slice.Eq.{starts_is}
use Rattle.text_tokens.proofs.{NumberLaws.value_found, NumberLaws.value_past, Prefixes.all_pass, Prefixes.next_fails, Prefixes.some_pass}
use Rattle.text_tokens.proofs.FirstBytes.{first_of, letter_goes_on, no_word_byte, mark_some, mark_from_text, mark_from_is, mark_short, class_of, mark_class, other_parts}

pub word_begins : (text : List ℕ) → is_letter (slice_index text 0) ≡ true → BeginsWith (Word (take (prefix_len is_word_byte text) text)) text (drop (prefix_len is_word_byte text) text)
word_begins text h =
    let some : 0 < prefix_len is_word_byte text = some_pass is_word_byte text refl (letter_goes_on (slice_index text 0) h) in
    let first : slice_index (take (prefix_len is_word_byte text) text) 0 ≡ slice_index text 0 = get_or-take (prefix_len is_word_byte text) text 0 0 some in
    (sym (take-append-drop (prefix_len is_word_byte text) text), (ap is_letter first ∙ h, all_pass is_word_byte text), next_fails is_word_byte text refl)

pub digits_begin : (text : List ℕ) → is_ascii_digit (slice_index text 0) ≡ true → AreDigits (take (prefix_len is_ascii_digit text) text)
digits_begin text h =
    let some : 0 < prefix_len is_ascii_digit text = some_pass is_ascii_digit text refl h in
    (omega (arith, length-prefix_len is_ascii_digit text), all_pass is_ascii_digit text)

-- the digits, and what follows them, are a number
pub number_begins : (text ds rest : List ℕ) (n : ℕ) → is_ascii_digit (slice_index text 0) ≡ true → ds ≡ take (prefix_len is_ascii_digit text) text → rest ≡ drop (prefix_len is_ascii_digit text) text
    → is_letter (slice_index rest 0) ≡ false → value_at 4294967295 ds ≡ Some n → BeginsWith (Number n) text rest
number_begins text ds rest n h front back alone value =
    let v = value_found 4294967295 n ds value in
    let stops : is_ascii_digit (slice_index rest 0) ≡ false = rw back (next_fails is_ascii_digit text refl) in
    (ds, rw (front, back) (sym (take-append-drop (prefix_len is_ascii_digit text) text)), rw front (digits_begin text h), v.0, v.1, no_word_byte (slice_index rest 0) alone stops)

pub number_past : (text ds : List ℕ) → is_ascii_digit (slice_index text 0) ≡ true → ds ≡ take (prefix_len is_ascii_digit text) text → value_at 4294967295 ds ≡ None → IsBadNumber text
number_past text ds h front past =
    (ds, drop (prefix_len is_ascii_digit text) text, rw front (sym (take-append-drop (prefix_len is_ascii_digit text) text)), rw front (digits_begin text h), next_fails is_ascii_digit text refl, inl (value_past 4294967295 ds past))

pub letter_behind : (text rest : List ℕ) → is_ascii_digit (slice_index text 0) ≡ true → rest ≡ drop (prefix_len is_ascii_digit text) text → is_letter (slice_index rest 0) ≡ true → IsBadNumber text
letter_behind text rest h back letter =
    (take (prefix_len is_ascii_digit text) text, rest, rw back (sym (take-append-drop (prefix_len is_ascii_digit text) text)), digits_begin text h, rw back (next_fails is_ascii_digit text refl), inr letter)

-- ---- marks

-- a mark that begins the text, or that the text begins, is the one whose first byte comes first
whole_mark : (text : List ℕ) (n : Mark) (rest : List ℕ) → text ≡ mark_text n ++ rest → mark_from (slice_index text 0) ≡ Some n
whole_mark text n rest is = ap (λ (x : List ℕ). mark_from (slice_index x 0)) is ∙ ap mark_from (first_of (mark_text n) rest (mark_some n)) ∙ mark_from_text n

part_mark : (text : List ℕ) (n : Mark) (more : List ℕ) → 0 < length text → mark_text n ≡ text ++ more → mark_from (slice_index text 0) ≡ Some n
part_mark text n more some is = sym (ap (λ (x : List ℕ). mark_from (slice_index x 0)) is ∙ ap mark_from (first_of text more some)) ∙ mark_from_text n

part_of : (xs : List ℕ) (x : ℕ) → slice_index xs 0 ≡ x → 1 < length xs → (more : List ℕ) × (xs ≡ x ∷ more) × (0 < length more)
part_of [] x e long = absurd (omega arith)
part_of (y ∷ more) x e long = (more, ap (λ (z : ℕ). z ∷ more) e, omega arith)

pub unfinished : (text : List ℕ) (m : Mark) → 0 < length text → mark_from (slice_index text 0) ≡ Some m → length text < length (mark_text m) → IsHalf text
unfinished [] m some found short = absurd (omega arith)
unfinished (x ∷ []) m some found short =
    let part = part_of (mark_text m) x (mark_from_is x m found) short in
    (m, part.0, part.1, some, part.2)
unfinished (x ∷ y ∷ text) m some found short = absurd (omega (arith, mark_short m))

-- the text does not begin with the mark
not_begun : (text : List ℕ) (m : Mark) (rest : List ℕ) → starts_with nat_eq text (mark_text m) ≡ false → text ≡ mark_text m ++ rest → ⊥
not_begun text m rest differs is =
    let starts : starts_with nat_eq text (mark_text m) ≡ true = (starts_is Decides-eqb text (mark_text m) (starts_with nat_eq text (mark_text m)) refl).1 rest is in
    let bad : true ≡ false = sym starts ∙ differs in
    absurd cc

no_more : (text : List ℕ) (m : Mark) (more : List ℕ) → length (mark_text m) ≤ length text → mark_text m ≡ text ++ more → text ≡ mark_text m ++ []
no_more text m more long is =
    let none : more ≡ [] = nil_from_length more (omega (arith, ap length is, length-append text more)) in
    sym (append-nil text) ∙ ap (λ (x : List ℕ). text ++ x) (sym none) ∙ sym is ∙ sym (append-nil (mark_text m))

pub stray_mark : (text : List ℕ) (m : Mark) (spelling : List ℕ) → 0 < length text → mark_from (slice_index text 0) ≡ Some m → spelling ≡ mark_text m → starts_with nat_eq text spelling ≡ false → length spelling ≤ length text → IsStray text
stray_mark text m spelling some found is_text differs' long' =
    let differs : starts_with nat_eq text (mark_text m) ≡ false = rw is_text at differs' in
    let long : length (mark_text m) ≤ length text = rw is_text at long' in
    let parts = other_parts (slice_index text 0) (ap class_of (sym (mark_from_is (slice_index text 0) m found)) ∙ mark_class m) in
    record {
      some = some;
      no_white_space = parts.0;
      no_word = parts.1;
      no_minus = parts.2;
      no_mark = λ n rest is.
          let same : n ≡ m = same_Some n m (sym (whole_mark text n rest is) ∙ found) in
          not_begun text m rest differs (is ∙ ap (λ (k : Mark). mark_text k ++ rest) same);
      no_part = λ n more is.
          let same : n ≡ m = same_Some n m (sym (part_mark text n more some is) ∙ found) in
          not_begun text m [] differs (no_more text m more long (ap mark_text (sym same) ∙ is));
    }

pub stray_byte : (text : List ℕ) → 0 < length text → is_white_space (slice_index text 0) ≡ false → is_word_byte (slice_index text 0) ≡ false → slice_index text 0 ≢ 45 → mark_from (slice_index text 0) ≡ None → IsStray text
stray_byte text some no_white_space no_word no_minus none = record {
  some = some;
  no_white_space = no_white_space;
  no_word = no_word;
  no_minus = no_minus;
  no_mark = λ n rest is. none-some n (sym none ∙ whole_mark text n rest is);
  no_part = λ n more is. none-some n (sym none ∙ part_mark text n more some is);
}
