use Rattle.cert_forest.proofs.Vocabulary.{◌≡◌, ℕ, ◌-◌, ◌≤◌, true, List, [], ◌∷◌, ◌++◌, length, get_or, take, drop, Some, refl, sym, ap, ◌∙◌, arith, plain_number_takes, plain_number_at, starts_here, ends_word, AccessId, access_at, take_all, done_with}
use Rattle.cert_forest.proofs.NameLaws.{access_text, access_exact}
use Rattle.cert_forest.proofs.access.short_access.Goals as goal

named : (bytes rest : List ℕ) (t i : ℕ) → 4 ≤ length bytes → rest ≡ take (length bytes - 4) (drop 4 bytes) → get_or bytes 0 0 ≡ 32 → get_or bytes 2 0 ≡ 46
    → plain_number_at 255 (get_or bytes 1 0 ∷ []) ≡ Some t → plain_number_at 255 (get_or bytes 3 0 ∷ []) ≡ Some i → ends_word rest ≡ true → access_at bytes ≡ done_with rest (record { thread = t; access = i })
named [] rest t i long is space stop first second ends = absurd (omega arith)
named (a ∷ []) rest t i long is space stop first second ends = absurd (omega arith)
named (a ∷ (b ∷ [])) rest t i long is space stop first second ends = absurd (omega arith)
named (a ∷ (b ∷ (c ∷ []))) rest t i long is space stop first second ends = absurd (omega arith)
named (a ∷ (b ∷ (c ∷ (d ∷ more)))) rest t i long is space stop first second ends =
    let all : rest ≡ more = is ∙ take_all (length (a ∷ (b ∷ (c ∷ (d ∷ more)))) - 4) more (omega arith) in
    let thread = plain_number_takes 255 t (b ∷ []) (omega arith) first in
    let access = plain_number_takes 255 i (d ∷ []) (omega arith) second in
    let name : AccessId = record { thread = t; access = i } in
    let text : a ∷ (b ∷ (c ∷ (d ∷ more))) ≡ access_text name ++ rest = λ k. space k ∷ ((thread.0 k ++ stop k ∷ access.0 k) ++ sym all k) in
    ap access_at text ∙ access_exact.again name rest (omega (arith, thread.1), omega (arith, access.1)) (starts_here rest ends)

pub returns-in_ok-access-in-len4-up : goal.returns-in_ok-access-in-len4-up
returns-in_ok-access-in-len4-up c =
    named c.args.bytes.now _ _ _ c.in-len4-up.len_at_least refl c.if-space-ne32.false c.if-stop-ne46.false c.in_ok-thread-in-len4-up.ensures.value c.in_ok-access-in-len4-up.ensures.value (sym c.ends_word.ensures ∙ c.if-not-ends_word.false)
