-- What the readers of keywords and separators read is what the grammar says.
use Rattle.litmus_syntax.proofs.Vocabulary.{◌≡◌, ◌≢◌, ◌∙◌, ℕ, true, List, ◌∷◌, refl, ap, inl, inr, Some, cond_some, same_Some, bytes_eq-Decides, Mark, Tok, Word, mark_at, begins_with, rest_of, word, begins_with_word, separator, keyword_at, separator_at}
use Rattle.litmus_syntax.proofs.Vocabulary.{by_test, mark_takes, mark_again, begins_takes, begins_again, begins_other}
use Rattle.text_tokens.specs.declared.token.Mark.TheVariants as the

-- ---- keywords

begins_word_takes : (w : List ℕ) (ts : List Tok) → begins_with_word w ts ≡ true → ts ≡ Word w ∷ rest_of ts
begins_word_takes w (Word v ∷ ts) e = ap (λ (z : List ℕ). Word z ∷ ts) ((bytes_eq-Decides v w).0 e)
begins_word_takes w ts e = absurd cc

pub begins_word_again : (w : List ℕ) (ts rest : List Tok) → word w ts rest → begins_with_word w ts ≡ true
begins_word_again w ts rest h = ap (begins_with_word w) h ∙ (bytes_eq-Decides w w).1 refl

pub keyword_takes : (w : List ℕ) (ts rest : List Tok) → keyword_at w ts ≡ Some rest → word w ts rest
keyword_takes w ts rest e =
    let p = cond_some (begins_with_word w ts) (rest_of ts) rest e in
    begins_word_takes w ts p.0 ∙ ap (λ (z : List Tok). Word w ∷ z) p.1

pub keyword_again : (w : List ℕ) (ts rest : List Tok) → word w ts rest → keyword_at w ts ≡ Some rest
keyword_again w ts rest h = ap (keyword_at w) h ∙ rw ((bytes_eq-Decides w w).1 refl) refl

-- ---- separators

pub separator_takes : (m : Mark) (ts rest : List Tok) → separator_at m ts ≡ Some rest → separator m ts rest
separator_takes m ts rest e =
    elim (by_test (begins_with m ts) (Some ts) (mark_at the.Semicolon ts) (Some rest) e) [
      | inl h ↦ inr (same_Some ts rest h.1, (rest_of ts, begins_takes m ts h.0))
      | inr h ↦ inl (mark_takes the.Semicolon ts rest h.1)
    ]

pub separator_again : (m : Mark) (ts rest : List Tok) → the.Semicolon ≢ m → separator m ts rest → separator_at m ts ≡ Some rest
separator_again m ts rest apart h =
    elim h [
      | inl s ↦ rw (begins_other m the.Semicolon ts rest s apart) (mark_again the.Semicolon ts rest s)
      | inr b ↦ rw (begins_again m ts b.1.0 b.1.1, b.0) refl
    ]
