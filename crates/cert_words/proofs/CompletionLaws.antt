-- What a number whose digits are cut can still become: the tens that its function compares.
use Rattle.cert_words.proofs.Vocabulary.{◌≡◌, ℕ, zero, suc, ◌+◌, ◌*◌, ◌/◌, ◌%◌, ◌<◌, ◌≤◌, ◌^◌, inl, inr, true, List, [], ◌∷◌, ◌++◌, length, get_or, refl, sym, ap, ◌∙◌, append_assoc, length-append, arith, is_ascii_digit, digit_value, cases_lt, and_parts}
use Rattle.cert_words.proofs.Vocabulary.{decimal_step, decimal_digit, digits_decimal, digits_value-decimal, first_decimal, list_all, decimal, nat_tests, append-nil, own, CanBecome}
use Rattle.std.specs.Str.Parse.{digits_value_after}
use Rattle.std.proofs.lemmas.List.Folds.{list_all-append}

-- the number without its last k digits
abbrev pub shorter : ℕ → ℕ → ℕ
shorter zero n = n
shorter (suc k) n = shorter k (n / 10)

-- some number from low to high is this one, after k of its digits are taken away
pub record IsBetween (number low high : ℕ) : Type 0 where
  pub digits : ℕ
  pub above : shorter digits low ≤ number
  pub below : number ≤ shorter digits high

shorter_le : (k a b : ℕ) → a ≤ b → shorter k a ≤ shorter k b
shorter_le zero a b le = le
shorter_le (suc k) a b le = shorter_le k (a / 10) (b / 10) (omega arith)

shorter_small : (k n : ℕ) → shorter k n ≤ n
shorter_small zero n = omega arith
shorter_small (suc k) n = omega (arith, shorter_small k (n / 10))

shorter_last : (k n : ℕ) → shorter k (n / 10) ≡ shorter k n / 10
shorter_last zero n = refl
shorter_last (suc k) n = shorter_last k (n / 10)

-- ---- a number with these digits in front

zeros : ℕ → ℕ → ℕ
zeros zero d = d
zeros (suc k) d = 10 * zeros k d

shorter_zeros : (k d : ℕ) → shorter k (zeros k d) ≡ d
unfolding zeros
shorter_zeros zero d = refl
shorter_zeros (suc k) d =
    let tenth : (10 * zeros k d) / 10 ≡ zeros k d = omega arith in
    ap (shorter k) tenth ∙ shorter_zeros k d

zeros_le : (k d b : ℕ) → d ≤ shorter k b → zeros k d ≤ b
unfolding zeros
zeros_le zero d b le = le
zeros_le (suc k) d b le =
    let rest : zeros k d ≤ b / 10 = zeros_le k d (b / 10) le in
    omega arith

one_between : (k d a b : ℕ) → a ≤ b → shorter k a ≤ d → d ≤ shorter k b → (n : ℕ) × (a ≤ n) × (n ≤ b) × (shorter k n ≡ d)
one_between k d a b le above below =
    elim (cases_lt (shorter k a) d) [
      | inl lt ↦
          let whole : a ≤ zeros k d = elim (cases_lt (zeros k d) a) [
            | inl early ↦ absurd (omega (arith, shorter_le k (zeros k d) a (omega arith), shorter_zeros k d))
            | inr late ↦ late
          ] in
          (zeros k d, whole, zeros_le k d b below, shorter_zeros k d)
      | inr ge ↦ (a, omega arith, le, omega arith)
    ]

-- the digits of a number are those in front, and the k that were taken away
spelled_with : (k n d : ℕ) → 0 < d → n < 2 ^ 64 → shorter k n ≡ d → (more : List ℕ) × (decimal n ≡ decimal d ++ more) × (length more ≡ k)
spelled_with zero n d pos fits is = ([], ap decimal is ∙ sym (append-nil (decimal d)), refl)
spelled_with (suc k) n d pos fits is =
    let some : 10 ≤ n = omega (arith, shorter_small k (n / 10)) in
    let front = spelled_with k (n / 10) d pos (omega arith) is in
    let last : List ℕ = (48 + n % 10) ∷ [] in
    let long : length (front.0 ++ last) ≡ suc k = omega (arith, length-append front.0 last, front.2) in
    (front.0 ++ last, decimal_step n some fits ∙ ap (λ (ds : List ℕ). ds ++ last) front.1 ∙ append_assoc (decimal d) front.0 last, long)

-- ---- the digits in front of a number

digit_small : (c : ℕ) → is_ascii_digit c ≡ true → digit_value c < 10
digit_small c is = grind (arith, nat_tests)

after_shorter : (more : List ℕ) (d : ℕ) → list_all is_ascii_digit more ≡ true → shorter (length more) (digits_value_after 10 d more) ≡ d
after_shorter [] d all = refl
after_shorter (c ∷ more) d all =
    let a = and_parts (is_ascii_digit c) (list_all is_ascii_digit more) all in
    let rest : shorter (length more) (digits_value_after 10 (d * 10 + digit_value c) more) ≡ d * 10 + digit_value c = after_shorter more (d * 10 + digit_value c) a.1 in
    shorter_last (length more) (digits_value_after 10 (d * 10 + digit_value c) more) ∙ omega (arith, rest, digit_small c a.0)

after_append : (n : ℕ) (xs ys : List ℕ) → digits_value_after 10 n (xs ++ ys) ≡ digits_value_after 10 (digits_value_after 10 n xs) ys
after_append n [] ys = refl
after_append n (x ∷ xs) ys = after_append (n * 10 + digit_value x) xs ys

front_is : (n d : ℕ) (more : List ℕ) → n < 2 ^ 64 → d < 2 ^ 64 → decimal n ≡ decimal d ++ more → shorter (length more) n ≡ d
front_is n d more fits small e =
    let digits : list_all is_ascii_digit (decimal d ++ more) ≡ true = ap (list_all is_ascii_digit) (sym e) ∙ digits_decimal own n fits in
    let both = and_parts (list_all is_ascii_digit (decimal d)) (list_all is_ascii_digit more) (sym (list_all-append is_ascii_digit (decimal d) more) ∙ digits) in
    let value : n ≡ digits_value_after 10 d more =
    sym (digits_value-decimal own n fits) ∙ ap (digits_value_after 10 0) e ∙ after_append 0 (decimal d) more ∙ ap (λ (m : ℕ). digits_value_after 10 m more) (digits_value-decimal own d small) in
    ap (shorter (length more)) value ∙ after_shorter more d both.1

-- nothing longer begins with 0
no_zero : (n : ℕ) (more : List ℕ) → n < 2 ^ 64 → decimal n ≡ decimal 0 ++ more → 0 < length more → ⊥
no_zero n more fits e longer =
    let front : decimal n ≡ 48 ∷ more = e ∙ ap (λ (ds : List ℕ). ds ++ more) (decimal_digit 0 (omega arith)) in
    elim (cases_lt 0 n) [
      | inl above ↦ omega (arith, first_decimal n above fits, ap (λ (ds : List ℕ). get_or ds 0 0) front)
      | inr none ↦ omega (arith, ap length front, ap length (decimal_digit n (omega arith)))
    ]

-- ---- what the function compares

pub zero_ends : (number least greatest : ℕ) → greatest < 2 ^ 64 → number ≡ 0 → CanBecome number least greatest → ⊥
zero_ends number least greatest fits is c = no_zero c.whole c.more (omega (arith, c.high)) (c.spelled ∙ ap (λ (d : ℕ). decimal d ++ c.more) is) c.longer

pub none_between : (number least greatest : ℕ) → greatest < least → CanBecome number least greatest → ⊥
none_between number least greatest lt c = omega (arith, c.low, c.high)

between_longer : (number low high k : ℕ) → 0 < k → shorter k low ≤ number → number ≤ shorter k high → IsBetween number (low / 10) (high / 10)
between_longer number low high zero some above below = absurd (omega arith)
between_longer number low high (suc k) some above below = record { digits = k; above = above; below = below }

pub as_between : (number least greatest : ℕ) → number < 2 ^ 64 → greatest < 2 ^ 64 → CanBecome number least greatest → IsBetween number (least / 10) (greatest / 10)
as_between number least greatest small fits c =
    between_longer number least greatest (length c.more) c.longer
    (omega (arith, shorter_le (length c.more) least c.whole c.low, front_is c.whole number c.more (omega (arith, c.high)) small c.spelled))
    (omega (arith, shorter_le (length c.more) c.whole greatest c.high, front_is c.whole number c.more (omega (arith, c.high)) small c.spelled))

pub from_between : (number least greatest : ℕ) → 0 < number → least ≤ greatest → greatest < 2 ^ 64 → IsBetween number (least / 10) (greatest / 10) → CanBecome number least greatest
from_between number least greatest pos le fits b =
    let n = one_between (suc b.digits) number least greatest le b.above b.below in
    let text = spelled_with (suc b.digits) n.0 number pos (omega (arith, n.2)) n.3 in
    record { whole = n.0; more = text.0; spelled = text.1; longer = omega (arith, text.2); low = n.1; high = n.2 }

pub between_past : (number low high : ℕ) → high < number → IsBetween number low high → ⊥
between_past number low high lt b = omega (arith, b.below, shorter_small b.digits high)

pub between_on : (number low high : ℕ) → number < low → IsBetween number low high → IsBetween number (low / 10) (high / 10)
between_on number low high lt b = on b.digits b.above b.below
  where
    on : (k : ℕ) → shorter k low ≤ number → number ≤ shorter k high → IsBetween number (low / 10) (high / 10)
    on zero above below = absurd (omega arith)
    on (suc k) above below = record { digits = k; above = above; below = below }

pub between_back : (number low high : ℕ) → IsBetween number (low / 10) (high / 10) → IsBetween number low high
between_back number low high b = record { digits = suc b.digits; above = b.above; below = b.below }
