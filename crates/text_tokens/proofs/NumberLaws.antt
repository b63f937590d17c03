-- Decimal numbers and their digits.
use Rattle.text_tokens.proofs.Vocabulary.{◌≡◌, ℕ, ◌<◌, ◌≤◌, ◌+◌, ◌*◌, ◌-◌, ◌^◌, true, false, List, length, get_or, take, Option, Some, None, refl, sym, ap, ◌∙◌, arith, rules, inl, inr, min, nat_le, IfSome, is_ascii_digit, digit_value, cases_lt, leb-true}
use Rattle.text_tokens.proofs.Vocabulary.{le-leb, and_parts, and_from, digits_decimal, digits_value-decimal, decimal-digits_value, decimal_nonempty, first_decimal, decimal_digit, list_all, decimal, digits_value, cond_some, nat_tests, is_plain, value_at}
use Rattle.text_tokens.proofs.Vocabulary.{plain_number_at}
use Rattle.std.proofs.lemmas.Str.Parse.{IsNumeralModel, numerals_by_value}
use Rattle.std.proofs.lemmas.List.Sums.{AllPass-from_list_all}
use Rattle.std.proofs.lemmas.List.Elements.{All-get_or}
use Rattle.std.proofs.lemmas.Int.Digits.{digits_value_more}
use Rattle.text_tokens.proofs.StepLaws.{let_through, not_passed}

pub own : IsNumeralModel (λ ds. list_all is_ascii_digit ds ≡ true) (digits_value 10)
own = numerals_by_value _ (search rules)

-- digits without leading zeros, by their parts
record Plain (ds : List ℕ) : Type 0 where
  digits : list_all is_ascii_digit ds ≡ true
  some : 0 < length ds
  first : get_or ds 0 0 ≡ 48 → length ds ≡ 1

plain_parts : (ds : List ℕ) → is_plain ds ≡ true → Plain ds
plain_parts ds e =
    let a = and_parts _ _ e in
    let b = and_parts _ _ a.0 in
    record { digits = b.0; some = grind (arith, nat_tests); first = λ zero. grind (arith, nat_tests) }

plain_decimal : (n : ℕ) → n < 2 ^ 64 → Plain (decimal n)
plain_decimal n lt = record {
  digits = digits_decimal own n lt;
  some = decimal_nonempty n lt;
  first = λ e. elim (cases_lt 0 n) [
    | inl above ↦ omega (arith, first_decimal n above lt)
    | inr zero ↦ ap length (decimal_digit n (omega arith))
  ];
}

-- the number that is read is written so
pub plain_number_takes : (limit n : ℕ) (ds : List ℕ) → limit < 2 ^ 64 → plain_number_at limit ds ≡ Some n → (ds ≡ decimal n) × (n ≤ limit)
unfolding plain_number_at
plain_number_takes limit n ds fits e =
    let p = let_through (is_plain ds) (value_at limit ds) n e in
    let v = cond_some (nat_le (digits_value 10 ds) limit) (digits_value 10 ds) n p.1 in
    let parts = plain_parts ds p.0 in
    let small : digits_value 10 ds ≤ limit = leb-true _ _ v.0 in
    let same : decimal (digits_value 10 ds) ≡ ds = decimal-digits_value own ds parts.digits parts.some parts.first (omega arith) in
    (sym (rw (← v.1) same), omega arith)

-- what a number is written as is read as that number
pub plain_number_again : (limit n : ℕ) → limit < 2 ^ 64 → n ≤ limit → plain_number_at limit (decimal n) ≡ Some n
unfolding plain_number_at
plain_number_again limit n fits le =
    let p = plain_decimal n (omega arith) in
    let plain : is_plain (decimal n) ≡ true = and_from _ _ (and_from _ _ p.digits (grind (arith, nat_tests))) (grind (arith, nat_tests, p.first)) in
    let value : digits_value 10 (decimal n) ≡ n = digits_value-decimal own n (omega arith) in
    rw (plain, value, le-leb n limit le) refl

as_digit : (c : ℕ) → is_ascii_digit c ≡ true → digit_value c ≡ c - 48
as_digit c h = grind (arith, nat_tests)

-- one more digit
pub value_more : (ds : List ℕ) (i limit v d : ℕ) → list_all is_ascii_digit ds ≡ true → i < length ds → v ≡ min (digits_value 10 (take i ds)) (limit + 1) → d ≡ get_or ds i 0 - 48
    → min (v * 10 + d) (limit + 1) ≡ min (digits_value 10 (take (i + 1) ds)) (limit + 1)
value_more ds i limit v d digits lt e is = omega (arith, digits_value_more 10 ds i lt, as_digit (get_or ds i 0) (All-get_or (λ c. is_ascii_digit c ≡ true) ds i 0 lt (AllPass-from_list_all is_ascii_digit ds digits)))

-- what a bounded value says of the digits' value
pub value_found : (limit n : ℕ) (ds : List ℕ) → value_at limit ds ≡ Some n → (n ≡ digits_value 10 ds) × (n ≤ limit)
value_found limit n ds e =
    let v = cond_some (nat_le (digits_value 10 ds) limit) (digits_value 10 ds) n e in
    let small : digits_value 10 ds ≤ limit = leb-true _ _ v.0 in
    (sym v.1, omega arith)

pub value_past : (limit : ℕ) (ds : List ℕ) → value_at limit ds ≡ None → limit < digits_value 10 ds
value_past limit ds e =
    let past : nat_le (digits_value 10 ds) limit ≡ false = not_passed (nat_le (digits_value 10 ds) limit) (digits_value 10 ds) e in
    grind (arith, nat_tests)

-- ---- what `plain_number` answers

plain_then : (limit : ℕ) (ds : List ℕ) → is_plain ds ≡ true → plain_number_at limit ds ≡ value_at limit ds
unfolding plain_number_at
plain_then limit ds e = rw e refl

pub found_plain : (limit : ℕ) (ds : List ℕ) (o : Option ℕ) → limit < 2 ^ 64 → is_plain ds ≡ true → o ≡ value_at limit ds → IfSome o (λ n. (n ≤ limit) × (ds ≡ decimal n))
found_plain limit ds (Some n) fits plain e = let t = plain_number_takes limit n ds fits (plain_then limit ds plain ∙ sym e) in (t.1, t.0)
found_plain limit ds None fits plain e = tt

pub only_plain : (limit n : ℕ) (ds : List ℕ) (o : Option ℕ) → limit < 2 ^ 64 → is_plain ds ≡ true → o ≡ value_at limit ds → n ≤ limit → ds ≡ decimal n → o ≡ Some n
only_plain limit n ds o fits plain e le is = e ∙ sym (plain_then limit ds plain) ∙ ap (plain_number_at limit) is ∙ plain_number_again limit n fits le

pub never_plain : (limit n : ℕ) (ds : List ℕ) → limit < 2 ^ 64 → is_plain ds ≡ false → n ≤ limit → ds ≡ decimal n → None ≡ Some n
unfolding plain_number_at
never_plain limit n ds fits plain le is =
    let nothing : plain_number_at limit ds ≡ None = rw plain refl in
    sym nothing ∙ ap (plain_number_at limit) is ∙ plain_number_again limit n fits le
