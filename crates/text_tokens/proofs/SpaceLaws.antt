-- What follows white space and comments.
use Rattle.text_tokens.proofs.Vocabulary.{◌≡◌, ℕ, ◌<◌, ◌≤◌, true, false, List, [], ◌∷◌, length, drop, refl, sym, ap, ◌∙◌, subst, arith, slice_index, nat_tests, is_white_space, opens, IsComment}
use Rattle.text_tokens.specs.Space.{IsAfterSpace, nothing, white_space, comment}
use Rattle.text_tokens.proofs.CommentLaws.{Inside-one, comment_shorter}

-- a comment does not begin with white space
white_space_is_no_opening : (b : ℕ) (text : List ℕ) → is_white_space b ≡ true → opens (b ∷ text) ≡ true → ⊥
white_space_is_no_opening b text h k = grind (arith, nat_tests)

pub white_space_forth : (text rest : List ℕ) → 0 < length text → is_white_space (slice_index text 0) ≡ true → IsAfterSpace (drop 1 text) rest → IsAfterSpace text rest
white_space_forth [] rest some h s = absurd (omega arith)
white_space_forth (b ∷ text) rest some h s = white_space h s

pub white_space_back : (text rest : List ℕ) → 0 < length text → is_white_space (slice_index text 0) ≡ true → IsAfterSpace text rest → IsAfterSpace (drop 1 text) rest
white_space_back [] rest some h s = absurd (omega arith)
white_space_back (b ∷ text) rest some h (nothing k l) = absurd cc
white_space_back (b ∷ text) rest some h (white_space k s) = s
white_space_back (b ∷ text) rest some h (comment k s) = absurd (white_space_is_no_opening b text h k.0)

pub comment_back : (text others rest : List ℕ) → IsComment text others → IsAfterSpace text rest → IsAfterSpace others rest
comment_back text others rest h (nothing k l) = let e : true ≡ false = sym h.0 ∙ l in absurd cc
comment_back (b ∷ text) others rest h (white_space k s) = absurd (white_space_is_no_opening b text k h.0)
comment_back text others rest h (comment {others = us} k s) =
    let same : us ≡ others = Inside-one (drop 2 text) us others k.1 h.1 in
    subst (λ (ts : List ℕ). IsAfterSpace ts rest) same s

pub other_back : (text rest : List ℕ) → is_white_space (slice_index text 0) ≡ false → opens text ≡ false → IsAfterSpace text rest → text ≡ rest
other_back text rest h g (nothing k l) = refl
other_back (b ∷ text) rest h g (white_space k s) = absurd cc
other_back text rest h g (comment k s) = let e : true ≡ false = sym k.0 ∙ g in absurd cc

pub empty_back : (rest : List ℕ) → IsAfterSpace [] rest → [] ≡ rest
empty_back rest s = other_back [] rest refl refl s

-- what follows white space and comments is no longer
pub space_length : (text rest : List ℕ) → IsAfterSpace text rest → length rest ≤ length text
space_length text rest (nothing k l) = omega arith
space_length (b ∷ text) rest (white_space k s) = omega (arith, space_length text rest s)
space_length text rest (comment {others = us} k s) = omega (arith, space_length us rest s, comment_shorter text us k)

pub empty_is : (text : List ℕ) → text ≡ [] → IsAfterSpace text text
empty_is text e = nothing (ap (λ (t : List ℕ). is_white_space (slice_index t 0)) e) (ap opens e)
