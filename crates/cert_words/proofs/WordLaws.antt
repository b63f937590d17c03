-- Words: what the reader takes of each kind, and that it takes each again.
use Rattle.cert_words.proofs.Vocabulary.{◌≡◌, ℕ, suc, ◌+◌, ◌-◌, ◌<◌, ◌≤◌, ◌==◌, ◌^◌, Bool, true, false, cond, List, [], ◌∷◌, ◌++◌, length, get_or, take, drop, Option, Some, None, refl, sym, ap, subst, ◌∙◌, arith, inl, inr, list_all, prefix_len, and_parts}
use Rattle.cert_words.proofs.Vocabulary.{and_from, cases_Bool, eqb-true, ltb-false, le-ltb, take_at, drop_at, take_all, take-append-drop, decimal_digit, own, plain_number_takes, plain_number_again, spaced, is_inner, front, after_word, word_at, line_name_at}
use Rattle.cert_words.proofs.Vocabulary.{end_at, ends_word, number_within_at, count_at, letter_of, letter_at, spaced_word_at, bind_some, kept_out, cond_some, same_Some, is_ascii_digit, decimal, nat_tests, digits_decimal, ◌>>=◌}
use Rattle.std.specs.Prelude.{nat_lt}
use Rattle.std.specs.Str.{bytes_eq}
use Rattle.std.proofs.lemmas.Slice.Eq.{bytes_eq-Decides}
use Rattle.text_tokens.specs.Numbers.{plain_number_at}
use Rattle.cert_words.specs.declared.numbers.TheConstants.{MAX_COUNT}
use Rattle.cert_words.proofs.Steps.{Stops, Starts, IsExact}

-- ---- how far bytes go that pass a test

one_more : (n : ℕ) → 1 + n ≡ suc n
one_more n = omega arith

pub prefix_is : (p : ℕ → Bool) (xs rest : List ℕ) → list_all p xs ≡ true → Stops p rest → prefix_len p (xs ++ rest) ≡ length xs
prefix_is p [] [] all stop = refl
prefix_is p [] (y ∷ rest) all stop = rw stop refl
prefix_is p (x ∷ xs) rest all stop =
    let a = and_parts (p x) (list_all p xs) all in
    let others : prefix_len p (xs ++ rest) ≡ length xs = prefix_is p xs rest a.1 stop in
    rw a.0 (omega arith)

pub after_prefix : (p : ℕ → Bool) (xs : List ℕ) (b : ℕ) (ys : List ℕ) → drop (prefix_len p xs) xs ≡ b ∷ ys → p b ≡ false
after_prefix p [] b ys e = absurd cc
after_prefix p (x ∷ xs) b ys e =
    elim (cases_Bool (p x)) [
      | inl y ↦ after_prefix p xs b ys (rw (y, one_more) at e)
      | inr n ↦ let whole : x ∷ xs ≡ b ∷ ys = rw n at e in let same : x ≡ b = cc in subst (λ (z : ℕ). p z ≡ false) same n
    ]

front_is : (w rest : List ℕ) → list_all is_inner w ≡ true → Starts rest → front (w ++ rest) ≡ w
front_is w rest all st = ap (λ n. take n (w ++ rest)) (prefix_is is_inner w rest all st) ∙ take_at w rest (length w) refl

behind_is : (w rest : List ℕ) → list_all is_inner w ≡ true → Starts rest → after_word (w ++ rest) ≡ rest
behind_is w rest all st = ap (λ n. drop n (w ++ rest)) (prefix_is is_inner w rest all st) ∙ drop_at w rest (length w) refl

front_behind : (bytes : List ℕ) → front bytes ++ after_word bytes ≡ bytes
front_behind bytes = take-append-drop (prefix_len is_inner bytes) bytes

-- ---- words

pub word_takes : (bytes : List ℕ) (x : List ℕ × List ℕ) → word_at bytes ≡ Some x → bytes ≡ spaced x.0 ++ x.1
unfolding word_at
word_takes [] x e = absurd cc
word_takes (b ∷ bytes) x e =
    let g = cond_some (b == 32) (front bytes, after_word bytes) x e in
    let first : b ≡ 32 = eqb-true _ _ g.0 in
    let here : b ∷ bytes ≡ spaced (front bytes) ++ after_word bytes = λ i. first i ∷ sym (front_behind bytes) i in
    subst (λ (y : List ℕ × List ℕ). b ∷ bytes ≡ spaced y.0 ++ y.1) g.1 here

pub word_again : (w rest : List ℕ) → list_all is_inner w ≡ true → Starts rest → word_at (spaced w ++ rest) ≡ Some (w, rest)
unfolding word_at
word_again w rest all st = rw (front_is w rest all st, behind_is w rest all st) refl

-- the byte after a space that no byte of the word follows is the word
one_inner : (byte : ℕ) → is_inner byte ≡ true → list_all is_inner (byte ∷ []) ≡ true
one_inner byte inner = rw inner refl

pub starts_here : (rest : List ℕ) → ends_word rest ≡ true → Starts rest
starts_here [] e = tt
starts_here (b ∷ rest) e = grind (arith, nat_tests)

short_whole : (bytes rest : List ℕ) (byte : ℕ) → bytes ≡ 32 ∷ (byte ∷ rest) → is_inner byte ≡ true → ends_word rest ≡ true → word_at bytes ≡ Some (byte ∷ [], rest)
short_whole bytes rest byte e inner ends = ap word_at e ∙ word_again (byte ∷ []) rest (one_inner byte inner) (starts_here rest ends)

pub short_here : (bytes rest : List ℕ) → 2 ≤ length bytes → rest ≡ take (length bytes - 2) (drop 2 bytes) → get_or bytes 0 0 ≡ 32 → is_inner (get_or bytes 1 0) ≡ true → ends_word rest ≡ true
    → word_at bytes ≡ Some (get_or bytes 1 0 ∷ [], rest)
short_here [] rest long is space inner ends = absurd (omega arith)
short_here (a ∷ []) rest long is space inner ends = absurd (omega arith)
short_here (a ∷ (byte ∷ more)) rest long is space inner ends =
    let all : rest ≡ more = is ∙ take_all (length (a ∷ (byte ∷ more)) - 2) more (omega arith) in
    short_whole (a ∷ (byte ∷ more)) rest byte (λ i. space i ∷ (byte ∷ sym all i)) inner ends

pub name_takes : (name bytes rest : List ℕ) → line_name_at name bytes ≡ Some rest → bytes ≡ name ++ rest
unfolding line_name_at
name_takes name bytes rest e =
    let g = cond_some (bytes_eq (front bytes) name) (after_word bytes) rest e in
    let first : front bytes ≡ name = (bytes_eq-Decides (front bytes) name).0 g.0 in
    sym (front_behind bytes) ∙ (λ i. first i ++ g.1 i)

pub name_again : (name rest : List ℕ) → list_all is_inner name ≡ true → Starts rest → line_name_at name (name ++ rest) ≡ Some rest
unfolding line_name_at
name_again name rest all st =
    let same : bytes_eq name name ≡ true = (bytes_eq-Decides name name).1 refl in
    rw (front_is name rest all st, behind_is name rest all st, same) refl

pub end_takes : (bytes rest : List ℕ) → end_at bytes ≡ Some rest → bytes ≡ 10 ∷ rest
unfolding end_at
end_takes [] rest e = absurd cc
end_takes (b ∷ bytes) rest e =
    let g = cond_some (b == 10) bytes rest e in
    let first : b ≡ 10 = eqb-true _ _ g.0 in
    λ i. first i ∷ g.1 i

pub end_again : (rest : List ℕ) → end_at (10 ∷ rest) ≡ Some rest
unfolding end_at
end_again rest = refl

-- ---- words that spell values

pub spaced_exact : {A : Type 0} (spelled : List ℕ → Option A) (word : A → List ℕ) (P : A → Type 0) → ((w : List ℕ) (x : A) → spelled w ≡ Some x → (w ≡ word x) × P x)
    → ((x : A) → P x → spelled (word x) ≡ Some x) → ((x : A) → P x → list_all is_inner (word x) ≡ true) → IsExact (spaced_word_at spelled) (λ x. spaced (word x)) P
spaced_exact {A} spelled word P takes again inner =
    record { takes = taken; again = λ x rest p st. rw (word_again (word x) rest (inner x p) st, again x p) refl; starts = λ x rest p st. refl }
  where
    taken : (bytes : List ℕ) (x : A × List ℕ) → spaced_word_at spelled bytes ≡ Some x → (bytes ≡ spaced (word x.0) ++ x.1) × P x.0
    taken bytes x e =
        let a = bind_some (word_at bytes) (λ w. spelled w.0 >>= λ y. Some (y, w.1)) x e in
        let b = bind_some (spelled a.0.0) (λ y. Some (y, a.0.1)) x a.2 in
        let t = takes a.0.0 b.0 b.1 in
        let here : bytes ≡ spaced (word b.0) ++ a.0.1 = word_takes bytes a.0 a.1 ∙ ap (λ (v : List ℕ). spaced v ++ a.0.1) t.0 in
        subst (λ (y : A × List ℕ). (bytes ≡ spaced (word y.0) ++ y.1) × P y.0) (same_Some (b.0, a.0.1) x b.2) (here, t.1)

-- ---- numbers

digit_inner : (c : ℕ) → is_ascii_digit c ≡ true → is_inner c ≡ true
digit_inner c h = grind (arith, nat_tests)

digits_inner : (ds : List ℕ) → list_all is_ascii_digit ds ≡ true → list_all is_inner ds ≡ true
digits_inner [] all = refl
digits_inner (d ∷ ds) all =
    let a = and_parts (is_ascii_digit d) (list_all is_ascii_digit ds) all in
    and_from (is_inner d) (list_all is_inner ds) (digit_inner d a.0) (digits_inner ds a.1)

pub decimal_inner : (n : ℕ) → n < 2 ^ 64 → list_all is_inner (decimal n) ≡ true
decimal_inner n lt = digits_inner (decimal n) (digits_decimal own n lt)

abbrev pub number_text : ℕ → List ℕ
number_text n = spaced (decimal n)

pub number_exact : (limit : ℕ) → limit < 2 ^ 64 → IsExact (number_within_at limit) number_text (λ n. n ≤ limit)
unfolding number_within_at
number_exact limit fits =
    let s = spaced_exact (plain_number_at limit) decimal (λ n. n ≤ limit) (λ w n e. plain_number_takes limit n w fits e) (λ n le. plain_number_again limit n fits le) (λ n le. decimal_inner n (omega arith)) in
    record { takes = s.takes; again = s.again; starts = s.starts }

-- a number of one digit
pub digit_plain : (limit byte : ℕ) → limit < 2 ^ 64 → is_ascii_digit byte ≡ true → byte - 48 ≤ limit → plain_number_at limit (byte ∷ []) ≡ Some (byte - 48)
digit_plain limit byte fits digit le =
    let low : 48 ≤ byte = grind (arith, nat_tests) in
    let high : byte < 58 = grind (arith, nat_tests) in
    let back : 48 + (byte - 48) ≡ byte = omega arith in
    let written : decimal (byte - 48) ≡ byte ∷ [] = decimal_digit (byte - 48) (omega arith) ∙ ap (λ (b : ℕ). b ∷ []) back in
    ap (plain_number_at limit) (sym written) ∙ plain_number_again limit (byte - 48) fits le

pub below64 : 18446744073709551615 < 2 ^ 64
below64 = omega arith

pub count_exact : IsExact count_at number_text (λ n. n ≤ MAX_COUNT)
unfolding count_at
count_exact = record { takes = taken; again = λ n rest le st. again n rest le st; starts = λ n rest le st. refl }
  where
    taken : (bytes : List ℕ) (x : ℕ × List ℕ) → count_at bytes ≡ Some x → (bytes ≡ number_text x.0 ++ x.1) × (x.0 ≤ MAX_COUNT)
    taken bytes x e =
        let a = bind_some (number_within_at 18446744073709551615 bytes) (λ n. cond (nat_lt MAX_COUNT n.0) None (Some n)) x e in
        let k = kept_out (nat_lt MAX_COUNT a.0.0) (Some a.0) x a.2 in
        let small : a.0.0 ≤ MAX_COUNT = ltb-false _ _ k.0 in
        let here = (number_exact 18446744073709551615 below64).takes bytes a.0 a.1 in
        subst (λ (y : ℕ × List ℕ). (bytes ≡ number_text y.0 ++ y.1) × (y.0 ≤ MAX_COUNT)) (same_Some a.0 x k.1) (here.0, small)

    again : (n : ℕ) (rest : List ℕ) → n ≤ MAX_COUNT → Starts rest → count_at (number_text n ++ rest) ≡ Some (n, rest)
    again n rest le st =
        let small : nat_lt MAX_COUNT n ≡ false = le-ltb _ _ le in
        rw ((number_exact 18446744073709551615 below64).again n rest (omega arith) st, small) refl

-- ---- letters

letter_of_takes : (word : List ℕ) (b : ℕ) → letter_of word ≡ Some b → word ≡ b ∷ []
letter_of_takes (c ∷ []) b e = let same : c ≡ b = same_Some c b e in λ i. same i ∷ []
letter_of_takes word b e = absurd cc

pub letter_takes : (bytes : List ℕ) (x : ℕ × List ℕ) → letter_at bytes ≡ Some x → bytes ≡ spaced (x.0 ∷ []) ++ x.1
unfolding letter_at
letter_takes bytes x e =
    let a = bind_some (word_at bytes) (λ w. letter_of w.0 >>= λ letter. Some (letter, w.1)) x e in
    let b = bind_some (letter_of a.0.0) (λ letter. Some (letter, a.0.1)) x a.2 in
    let here : bytes ≡ spaced (b.0 ∷ []) ++ a.0.1 = word_takes bytes a.0 a.1 ∙ ap (λ (v : List ℕ). spaced v ++ a.0.1) (letter_of_takes a.0.0 b.0 b.1) in
    subst (λ (y : ℕ × List ℕ). bytes ≡ spaced (y.0 ∷ []) ++ y.1) (same_Some (b.0, a.0.1) x b.2) here

pub letter_again : (b : ℕ) (rest : List ℕ) → list_all is_inner (b ∷ []) ≡ true → Starts rest → letter_at (spaced (b ∷ []) ++ rest) ≡ Some (b, rest)
unfolding letter_at
letter_again b rest all st = rw (word_again (b ∷ []) rest all st) refl
