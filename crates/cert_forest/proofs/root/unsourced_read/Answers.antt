use Rattle.cert_forest.proofs.Vocabulary.{◌≡◌, ℕ, ◌-◌, ◌≤◌, true, List, [], ◌∷◌, ◌++◌, length, get_or, take, drop, Some, refl, sym, ap, ◌∙◌, arith, plain_number_takes, plain_number_at, starts_here, ends_word, AccessId, SourceHead, head_at, take_all, decimal}
use Rattle.cert_forest.proofs.CoverLaws.{head_again, head_text}
use Rattle.cert_forest.proofs.root.unsourced_read.Goals as goal

read_here : (a b c d e f g h : ℕ) (more rest : List ℕ) (t i : ℕ) → rest ≡ more → a ≡ 32 → b ≡ 83 → c ≡ 32 → e ≡ 46 → g ≡ 32 → (n : ℕ) → plain_number_at 0 (h ∷ []) ≡ Some n
    → plain_number_at 255 (d ∷ []) ≡ Some t → plain_number_at 255 (f ∷ []) ≡ Some i → ends_word rest ≡ true
    → head_at (a ∷ (b ∷ (c ∷ (d ∷ (e ∷ (f ∷ (g ∷ (h ∷ more)))))))) ≡ Some (SourceHead (record { thread = t; access = i }) 0, rest)
read_here a b c d e f g h more rest t i all one two three five seven n eight first second ends =
    let thread = plain_number_takes 255 t (d ∷ []) (omega arith) first in
    let access = plain_number_takes 255 i (f ∷ []) (omega arith) second in
    let none = plain_number_takes 0 n (h ∷ []) (omega arith) eight in
    let zero : n ≡ 0 = omega (arith, none.1) in
    let last : h ∷ [] ≡ decimal 0 = none.0 ∙ ap decimal zero in
    let name : AccessId = record { thread = t; access = i } in
    let text : a ∷ (b ∷ (c ∷ (d ∷ (e ∷ (f ∷ (g ∷ (h ∷ more))))))) ≡ head_text (SourceHead name 0) ++ rest =
    λ k. one k ∷ (two k ∷ (((three k ∷ (thread.0 k ++ (five k ∷ access.0 k))) ++ (seven k ∷ last k)) ++ sym all k)) in
    ap head_at text ∙ head_again (SourceHead name 0) rest ((omega (arith, thread.1), omega (arith, access.1)), omega arith) (starts_here rest ends)

named : (bytes rest : List ℕ) (t i : ℕ) → 8 ≤ length bytes → rest ≡ take (length bytes - 8) (drop 8 bytes) → get_or bytes 0 0 ≡ 32 → get_or bytes 1 0 ≡ 83 → get_or bytes 2 0 ≡ 32
    → get_or bytes 4 0 ≡ 46 → get_or bytes 6 0 ≡ 32 → (n : ℕ) → plain_number_at 0 (get_or bytes 7 0 ∷ []) ≡ Some n → plain_number_at 255 (get_or bytes 3 0 ∷ []) ≡ Some t → plain_number_at 255 (get_or bytes 5 0 ∷ []) ≡ Some i
    → ends_word rest ≡ true → head_at bytes ≡ Some (SourceHead (record { thread = t; access = i }) 0, rest)
named [] rest t i long is one two three five seven n eight first second ends = absurd (omega arith)
named (a ∷ []) rest t i long is one two three five seven n eight first second ends = absurd (omega arith)
named (a ∷ (b ∷ [])) rest t i long is one two three five seven n eight first second ends = absurd (omega arith)
named (a ∷ (b ∷ (c ∷ []))) rest t i long is one two three five seven n eight first second ends = absurd (omega arith)
named (a ∷ (b ∷ (c ∷ (d ∷ [])))) rest t i long is one two three five seven n eight first second ends = absurd (omega arith)
named (a ∷ (b ∷ (c ∷ (d ∷ (e ∷ []))))) rest t i long is one two three five seven n eight first second ends = absurd (omega arith)
named (a ∷ (b ∷ (c ∷ (d ∷ (e ∷ (f ∷ [])))))) rest t i long is one two three five seven n eight first second ends = absurd (omega arith)
named (a ∷ (b ∷ (c ∷ (d ∷ (e ∷ (f ∷ (g ∷ []))))))) rest t i long is one two three five seven n eight first second ends = absurd (omega arith)
named (a ∷ (b ∷ (c ∷ (d ∷ (e ∷ (f ∷ (g ∷ (h ∷ more)))))))) rest t i long is one two three five seven n eight first second ends =
    read_here a b c d e f g h more rest t i (is ∙ take_all (length (a ∷ (b ∷ (c ∷ (d ∷ (e ∷ (f ∷ (g ∷ (h ∷ more)))))))) - 8) more (omega arith)) one two three five seven n eight first second ends

pub returns-in_ok-access-in-len8-up : goal.returns-in_ok-access-in-len8-up
returns-in_ok-access-in-len8-up c =
    named c.args.bytes.now _ _ _ c.in-len8-up.len_at_least refl c.if-before-ne32.false c.if-letter-ne83.false c.if-space-ne32.false c.if-stop-ne46.false c.if-last-ne32.false
    _ c.in_ok-digit_within-in-len8-up.ensures.value c.in_ok-thread-in-len8-up.ensures.value c.in_ok-access-in-len8-up.ensures.value (sym c.ends_word.ensures ∙ c.if-not-ends_word.false)
