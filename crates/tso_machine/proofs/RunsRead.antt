-- The text that is written has the labels' words.
use Rattle.tso_machine.proofs.Vocabulary.{◌≡◌, ℕ, ◌<◌, ◌≤◌, ◌∙◌, ◌+◌, true, false, List, [], ◌∷◌, ◌++◌, length, get_or, map, take, refl, sym, ap, arith, All, append_assoc, AllByRecursion, join_with_byte, map_more, length-map, length-take, All-weaker, All-cons}
use Rattle.tso_machine.proofs.Vocabulary.{digits_decimal, own, lt-ltb, nat_tests, Label, Exec, Flush, spelling, IsLabel, words, run_text, is_white_space}
use Rattle.std.specs.Char.{is_ascii_digit}
use Rattle.std.proofs.lemmas.List.Splits.{slice_split_none, slice_split_at}
use Rattle.std.proofs.lemmas.List.Sums.{AllPass-from_list_all}
use Rattle.std.specs.Fmt.{decimal}
use Rattle.tso_machine.proofs.RunLabels.{word_of}

digit_not_white_space : (c : ℕ) → is_ascii_digit c ≡ true → is_white_space c ≡ false
digit_not_white_space c h = grind (arith, nat_tests)

decimal_not_white_space : (t : ℕ) → t < 256 → All (λ c. is_white_space c ≡ false) (decimal t)
decimal_not_white_space t lt = All-weaker (λ c. is_ascii_digit c ≡ true) (λ c. is_white_space c ≡ false) digit_not_white_space (decimal t) (AllPass-from_list_all is_ascii_digit (decimal t) (digits_decimal own t (omega arith)))

spelling_not_white_space : (l : Label) → IsLabel l → All (λ c. is_white_space c ≡ false) (spelling l)
spelling_not_white_space (Exec t) fits = All-cons (λ c. is_white_space c ≡ false) 101 (decimal t) refl (decimal_not_white_space t fits)
spelling_not_white_space (Flush t) fits = All-cons (λ c. is_white_space c ≡ false) 102 (decimal t) refl (decimal_not_white_space t fits)

spelling_is_word : (l : Label) → word_of (spelling l) ≡ true
spelling_is_word (Exec t) = lt-ltb 0 (length (spelling (Exec t))) (omega arith)
spelling_is_word (Flush t) = lt-ltb 0 (length (spelling (Flush t))) (omega arith)

-- what was written is read again
pub read_again : (ls : List Label) → AllByRecursion IsLabel ls → words (run_text ls) ≡ map spelling ls
read_again [] fits = refl
read_again (l ∷ []) fits = rw (slice_split_none is_white_space (spelling l) (spelling_not_white_space l fits.0), spelling_is_word l) refl
read_again (l ∷ m ∷ ls) fits =
    rw (slice_split_at is_white_space (spelling l) 32 (run_text (m ∷ ls)) (spelling_not_white_space l fits.0) refl, spelling_is_word l) (ap (λ ws. spelling l ∷ ws) (read_again (m ∷ ls) fits.1))

-- one more word behind those that are written
join_more : (w : List ℕ) (ws : List (List ℕ)) → 0 < length ws → join_with_byte 32 (ws ++ w ∷ []) ≡ join_with_byte 32 ws ++ (32 ∷ w)
join_more w [] some = absurd (omega arith)
join_more w (v ∷ []) some = refl
join_more w (v ∷ u ∷ ws) some = ap (λ (x : List ℕ). v ++ (32 ∷ x)) (join_more w (u ∷ ws) (omega arith)) ∙ sym (append_assoc v (32 ∷ join_with_byte 32 (u ∷ ws)) (32 ∷ w))

pub text_more : (ls : List Label) (i : ℕ) (d : Label) → i < length ls → 0 < i → run_text (take (i + 1) ls) ≡ run_text (take i ls) ++ (32 ∷ spelling (get_or ls i d))
text_more ls i d lt above =
    ap (join_with_byte 32) (map_more spelling ls i d lt) ∙ join_more (spelling (get_or ls i d)) (map spelling (take i ls)) (omega (arith, length-map (take i ls) spelling, length-take i ls))

pub text_first : (ls : List Label) (i : ℕ) (d : Label) → i < length ls → i ≤ 0 → run_text (take (i + 1) ls) ≡ run_text (take i ls) ++ spelling (get_or ls i d)
text_first ls i d lt none =
    let first : i ≡ 0 = omega arith in
    ap (join_with_byte 32) (map_more spelling ls i d lt) ∙ rw first refl
