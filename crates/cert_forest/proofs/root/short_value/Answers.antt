use Rattle.cert_forest.proofs.Vocabulary.{◌≡◌, ℕ, ◌-◌, ◌≤◌, true, List, [], ◌∷◌, ◌++◌, length, get_or, take, drop, Some, refl, sym, ap, ◌∙◌, arith, plain_number_takes, plain_number_at, starts_here, ends_word, ValueHead, head_at, take_all}
use Rattle.cert_forest.proofs.CoverLaws.{head_again, head_text}
use Rattle.cert_forest.proofs.root.short_value.Goals as goal

read_here : (a b c d e f : ℕ) (more rest : List ℕ) (t n : ℕ) → rest ≡ more → a ≡ 32 → b ≡ 86 → c ≡ 32 → e ≡ 32 → plain_number_at 255 (d ∷ []) ≡ Some t → plain_number_at 255 (f ∷ []) ≡ Some n
    → ends_word rest ≡ true → head_at (a ∷ (b ∷ (c ∷ (d ∷ (e ∷ (f ∷ more)))))) ≡ Some (ValueHead t n, rest)
read_here a b c d e f more rest t n all one two three five first second ends =
    let thread = plain_number_takes 255 t (d ∷ []) (omega arith) first in
    let count = plain_number_takes 255 n (f ∷ []) (omega arith) second in
    let text : a ∷ (b ∷ (c ∷ (d ∷ (e ∷ (f ∷ more))))) ≡ head_text (ValueHead t n) ++ rest =
    λ k. one k ∷ (two k ∷ (((three k ∷ thread.0 k) ++ (five k ∷ count.0 k)) ++ sym all k)) in
    ap head_at text ∙ head_again (ValueHead t n) rest (omega (arith, thread.1), omega (arith, count.1)) (starts_here rest ends)

named : (bytes rest : List ℕ) (t n : ℕ) → 6 ≤ length bytes → rest ≡ take (length bytes - 6) (drop 6 bytes) → get_or bytes 0 0 ≡ 32 → get_or bytes 1 0 ≡ 86 → get_or bytes 2 0 ≡ 32
    → get_or bytes 4 0 ≡ 32 → plain_number_at 255 (get_or bytes 3 0 ∷ []) ≡ Some t → plain_number_at 255 (get_or bytes 5 0 ∷ []) ≡ Some n → ends_word rest ≡ true → head_at bytes ≡ Some (ValueHead t n, rest)
named [] rest t n long is one two three five first second ends = absurd (omega arith)
named (a ∷ []) rest t n long is one two three five first second ends = absurd (omega arith)
named (a ∷ (b ∷ [])) rest t n long is one two three five first second ends = absurd (omega arith)
named (a ∷ (b ∷ (c ∷ []))) rest t n long is one two three five first second ends = absurd (omega arith)
named (a ∷ (b ∷ (c ∷ (d ∷ [])))) rest t n long is one two three five first second ends = absurd (omega arith)
named (a ∷ (b ∷ (c ∷ (d ∷ (e ∷ []))))) rest t n long is one two three five first second ends = absurd (omega arith)
named (a ∷ (b ∷ (c ∷ (d ∷ (e ∷ (f ∷ more)))))) rest t n long is one two three five first second ends =
    read_here a b c d e f more rest t n (is ∙ take_all (length (a ∷ (b ∷ (c ∷ (d ∷ (e ∷ (f ∷ more)))))) - 6) more (omega arith)) one two three five first second ends

pub returns-in_ok-count-in-len6-up : goal.returns-in_ok-count-in-len6-up
returns-in_ok-count-in-len6-up c =
    named c.args.bytes.now _ _ _ c.in-len6-up.len_at_least refl c.if-before-ne32.false c.if-letter-ne86.false c.if-space-ne32.false c.if-between-ne32.false
    c.in_ok-thread-in-len6-up.ensures.value c.in_ok-count-in-len6-up.ensures.value (sym c.ends_word.ensures ∙ c.if-not-ends_word.false)
