-- Texts with commas between them, one more.
use Rattle.json_text.proofs.Vocabulary.{◌≡◌, ◌∙◌, ℕ, ◌+◌, ◌<◌, suc, true, List, [], ◌∷◌, ◌++◌, length, take, get_or, arith, sym, ap, append_assoc, append-nil, take_more, nat_lt, if◌then◌else◌, flat_map, nat_tests, after_comma, with_commas}
use Rattle.std.proofs.lemmas.Grind.{common_steps, flat_map-append}

-- what stands before the text of this number
abbrev pub comma_before : ℕ → List ℕ
comma_before n = if nat_lt 0 n then 44 ∷ [] else []

not_first : (n : ℕ) → nat_lt 0 (suc n) ≡ true
not_first n = grind (arith, nat_tests)

pub with_commas_more : (texts : List (List ℕ)) (text : List ℕ) → with_commas (texts ++ text ∷ []) ≡ with_commas texts ++ (comma_before (length texts) ++ text)
with_commas_more [] text = append-nil text
with_commas_more (first ∷ texts) text =
    rw (not_first (length texts)) (ap (λ (ts : List ℕ). first ++ ts) (flat_map-append after_comma texts (text ∷ []) ∙ ap (λ (ts : List ℕ). flat_map after_comma texts ++ ts) (append-nil (44 ∷ text))) ∙ sym (append_assoc first (flat_map after_comma texts) (44 ∷ text)))

pub with_commas_at : (texts : List (List ℕ)) (n : ℕ) (d : List ℕ) → n < length texts → with_commas (take (n + 1) texts) ≡ with_commas (take n texts) ++ (comma_before n ++ get_or texts n d)
with_commas_at texts n d below =
    let few : length (take n texts) ≡ n = grind (arith, common_steps) in
    rw (take_more texts n d below) (with_commas_more (take n texts) (get_or texts n d) ∙ ap (λ (k : ℕ). with_commas (take n texts) ++ (comma_before k ++ get_or texts n d)) few)

-- texts with commas after a first byte, in the order in which they are added
pub added_at : (first : ℕ) (texts : List (List ℕ)) (n : ℕ) (d so_far with_comma with_text : List ℕ) → n < length texts → so_far ≡ first ∷ with_commas (take n texts)
    → with_comma ≡ so_far ++ comma_before n → with_text ≡ with_comma ++ get_or texts n d → with_text ≡ first ∷ with_commas (take (n + 1) texts)
added_at first texts n d so_far with_comma with_text below begun comma text =
    text ∙ ap (λ (ts : List ℕ). ts ++ get_or texts n d) (comma ∙ ap (λ (ts : List ℕ). ts ++ comma_before n) begun)
    ∙ append_assoc (first ∷ with_commas (take n texts)) (comma_before n) (get_or texts n d) ∙ ap (λ (ts : List ℕ). first ∷ ts) (sym (with_commas_at texts n d below))
