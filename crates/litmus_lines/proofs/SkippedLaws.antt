-- The lines before the initial values: where they end.
use Rattle.litmus_lines.proofs.Vocabulary.{◌≡◌, ℕ, ◌<◌, true, false, List, [], ◌∷◌, ◌++◌, length, Some, None, sym, ap, ◌∙◌, subst, arith, ◌==◌, slice_index, nat_tests, length-append, IsAfterSpace, line_at, space_length, empty_back, is_skipped, IsSkippedLine}
use Rattle.litmus_lines.proofs.Vocabulary.{AreSkipped, brace, line}
use Rattle.litmus_lines.proofs.FirstLineLaws.{line_takes, line_inside, line_again, same_line, none_or}

-- ---- one line

pub line_is : (text l rest : List ℕ) → line_at text ≡ Some (l, rest) → is_skipped l ≡ true → IsSkippedLine text rest
line_is text l rest e h = (l, line_takes text l rest e, line_inside text l rest e, h)

pub line_read : (text rest : List ℕ) → IsSkippedLine text rest → (l : List ℕ) × (line_at text ≡ Some (l, rest)) × (is_skipped l ≡ true)
line_read text rest h = (h.0, ap line_at h.1 ∙ line_again h.0 rest h.2, h.3)

pub line_only : (text l rest other : List ℕ) → line_at text ≡ Some (l, rest) → IsSkippedLine text other → rest ≡ other
line_only text l rest other e h = let r = line_read text other h in (same_line (line_at text) l r.0 rest other e r.1).1

pub other_line : (text l rest other : List ℕ) → line_at text ≡ Some (l, rest) → is_skipped l ≡ false → IsSkippedLine text other → ⊥
other_line text l rest other e fails h =
    let r = line_read text other h in
    let same : l ≡ r.0 = (same_line (line_at text) l r.0 rest other e r.1).0 in
    let yes : is_skipped l ≡ true = ap (λ (m : List ℕ). is_skipped m) same ∙ r.2 in
    let e : true ≡ false = sym yes ∙ fails in
    absurd cc

pub no_line : (text other : List ℕ) → None ≡ line_at text → IsSkippedLine text other → ⊥
no_line text other e h = let r = line_read text other h in none_or (line_at text) (r.0, other) e r.1

neither : (l : List ℕ) → slice_index l 0 ≡ 123 → is_skipped l ≡ true → ⊥
neither [] e h = absurd (omega arith)
neither (b ∷ l) e h = absurd (grind (arith, nat_tests))

lf_is_no_brace : (l rest : List ℕ) → slice_index (l ++ 10 ∷ rest) 0 ≡ 123 → slice_index l 0 ≡ 123
lf_is_no_brace [] rest e = absurd (omega arith)
lf_is_no_brace (b ∷ l) rest e = e

-- no such line begins with `{`
pub no_brace_line : (text rest : List ℕ) → slice_index text 0 ≡ 123 → IsSkippedLine text rest → ⊥
no_brace_line text rest e h =
    let first : slice_index (h.0 ++ 10 ∷ rest) 0 ≡ 123 = ap (λ (t : List ℕ). slice_index t 0) (sym h.1) ∙ e in
    neither h.0 (lf_is_no_brace h.0 rest first) h.3

pub line_shorter : (text rest : List ℕ) → IsSkippedLine text rest → length rest < length text
line_shorter text rest h = omega (arith, ap length h.1, length-append h.0 (10 ∷ rest))

pub no_line_in_nothing : (rest : List ℕ) → IsSkippedLine [] rest → ⊥
no_line_in_nothing rest h = let short : length rest < 0 = line_shorter [] rest h in absurd (omega arith)

-- ---- the lines

pub shorter : (text front rest : List ℕ) → IsAfterSpace text front → IsSkippedLine front rest → length rest < length text
shorter text front rest s h = omega (arith, space_length text front s, line_shorter front rest h)

-- behind white space and one more line
pub line_back : (text front others end : List ℕ) → ((r : List ℕ) → IsAfterSpace text r → front ≡ r) → slice_index front 0 == 123 ≡ false
    → ((r : List ℕ) → IsSkippedLine front r → others ≡ r) → AreSkipped text end → AreSkipped others end
line_back text front others end one fails next (brace s e) =
    let same : front ≡ end = one end s in
    let first : slice_index front 0 ≡ 123 = ap (λ (t : List ℕ). slice_index t 0) same ∙ e in
    absurd (grind (arith, nat_tests))
line_back text front others end one fails next (line {front = f} {others = us} s h more) =
    let same : front ≡ f = one f s in
    let here : IsSkippedLine front us = subst (λ (t : List ℕ). IsSkippedLine t us) (sym same) h in
    subst (λ (t : List ℕ). AreSkipped t end) (sym (next us here)) more

-- behind white space and before `{`
pub brace_back : (text front end : List ℕ) → ((r : List ℕ) → IsAfterSpace text r → front ≡ r) → slice_index front 0 == 123 ≡ true → AreSkipped text end → front ≡ end
brace_back text front end one is (brace s e) = one end s
brace_back text front end one is (line {front = f} {others = us} s h more) =
    let first : slice_index front 0 ≡ 123 = grind (arith, nat_tests) in
    let same : front ≡ f = one f s in
    absurd (no_brace_line f us (ap (λ (t : List ℕ). slice_index t 0) (sym same) ∙ first) h)

pub brace_is : (text front : List ℕ) → IsAfterSpace text front → slice_index front 0 == 123 ≡ true → AreSkipped text front
brace_is text front s is = let first : slice_index front 0 ≡ 123 = grind (arith, nat_tests) in brace s first

pub no_space_back : (text end : List ℕ) → ((r : List ℕ) → IsAfterSpace text r → ⊥) → AreSkipped text end → ⊥
no_space_back text end none (brace s e) = none end s
no_space_back text end none (line {front = f} s h more) = none f s

pub no_line_back : (text front end : List ℕ) → ((r : List ℕ) → IsAfterSpace text r → front ≡ r) → slice_index front 0 == 123 ≡ false
    → ((r : List ℕ) → IsSkippedLine front r → ⊥) → AreSkipped text end → ⊥
no_line_back text front end one fails none (brace s e) =
    let same : front ≡ end = one end s in
    let first : slice_index front 0 ≡ 123 = ap (λ (t : List ℕ). slice_index t 0) same ∙ e in
    absurd (grind (arith, nat_tests))
no_line_back text front end one fails none (line {front = f} {others = us} s h more) =
    let same : front ≡ f = one f s in
    none us (subst (λ (t : List ℕ). IsSkippedLine t us) (sym same) h)

no_first : (end : List ℕ) → slice_index end 0 ≡ 123 → [] ≡ end → ⊥
no_first end e h = let first : slice_index [] 0 ≡ 123 = ap (λ (t : List ℕ). slice_index t 0) h ∙ e in absurd (omega arith)

pub nothing_back : (end : List ℕ) → AreSkipped [] end → ⊥
nothing_back end (brace s e) = no_first end e (empty_back end s)
nothing_back end (line {front = f} {others = us} s h more) = let short : length us < length f = line_shorter f us h in let e : 0 ≡ length f = ap length (empty_back f s) in absurd (omega arith)
