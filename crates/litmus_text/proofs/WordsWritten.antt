-- The words that are written are words, and are read as what they stand for.
use Rattle.litmus_text.proofs.Vocabulary.{◌≡◌, ℕ, true, List, [], ◌∷◌, Some, refl, list_all, is_ascii_digit, is_letter, is_word_byte, IsWord, Reg, Eax, register_name, reg_of, and_from as both_true, or_right as or_true, and_parts}

-- ---- words

pub register_word : (r : Reg) → IsWord (register_name r)
register_word Eax = (refl, refl)
register_word r = (refl, refl)

-- digits may stand in a word
pub digits_in_word : (ds : List ℕ) → list_all is_ascii_digit ds ≡ true → list_all is_word_byte ds ≡ true
digits_in_word [] h = refl
digits_in_word (d ∷ ds) h =
    let parts = and_parts (is_ascii_digit d) (list_all is_ascii_digit ds) h in
    both_true (is_word_byte d) (list_all is_word_byte ds) (or_true (is_letter d) (is_ascii_digit d) parts.0) (digits_in_word ds parts.1)

-- ---- what they stand for

pub register_named : (r : Reg) → reg_of (register_name r) ≡ Some r
unfolding reg_of
register_named Eax = refl
register_named r = refl
