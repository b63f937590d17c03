-- The first line that is read is the one that stands there.
use Rattle.litmus_lines.proofs.Vocabulary.{◌≡◌, ℕ, suc, ◌+◌, ◌<◌, Bool, true, false, List, [], ◌∷◌, ◌++◌, length, take, drop, Option, Some, None, refl, sym, ap, ◌∙◌, subst, arith, inl, inr, ◌&&◌, ◌==◌, codes, nat_lt, slice_index, nat_tests, take_at, take_all}
use Rattle.litmus_lines.proofs.Vocabulary.{drop_at, take-append-drop, length-append, name_after, heading_name, line_at}
use Rattle.std.specs.List.{list_all, prefix_len}
use Rattle.std.specs.Str.{bytes_eq}
use Rattle.std.proofs.lemmas.Bool.{and_parts, and_from, cases_Bool, lt-ltb, ltb-true, ltb-false, eqb-true, not-false}
use Rattle.std.proofs.lemmas.List.Folds.{list_all-append}
use Rattle.std.proofs.lemmas.Option.{cond_some}
use Rattle.std.proofs.lemmas.Slice.Eq.{bytes_eq-Decides}
use Rattle.text_tokens.specs.Bytes.{is_blank, is_line_space, AreBlanks}
use Rattle.text_tokens.proofs.{Prefixes.prefix_is, Prefixes.all_pass, StepLaws.let_through, StepLaws.not_passed}
use Rattle.litmus_lines.specs.FirstLine.{is_inside, is_visible, AreVisible, IsHeading, IsFirstLine}

weaker : (p q : ℕ → Bool) → ((b : ℕ) → p b ≡ true → q b ≡ true) → (xs : List ℕ) → list_all p xs ≡ true → list_all q xs ≡ true
weaker p q h [] all = refl
weaker p q h (x ∷ xs) all = let a = and_parts (p x) (list_all p xs) all in and_from (q x) (list_all q xs) (h x a.0) (weaker p q h xs a.1)

one_more : (n : ℕ) → 1 + n ≡ suc n
one_more n = omega arith

-- ---- a line

after_takes : (blanks rest name : List ℕ) → list_all is_blank blanks ≡ true → name_after blanks rest ≡ Some name
    → (trailing : List ℕ) × (blanks ++ rest ≡ blanks ++ (name ++ trailing)) × AreBlanks blanks × AreVisible name × (list_all is_line_space trailing ≡ true)
after_takes blanks rest name blanks_are e =
    let n = prefix_len is_visible rest in
    let a = cond_some (nat_lt 0 (length blanks) && nat_lt 0 (length (take n rest)) && list_all is_line_space (drop n rest)) (take n rest) name e in
    let b = and_parts _ _ a.0 in
    let d = and_parts _ _ b.0 in
    let visible : AreVisible (take n rest) = (ltb-true _ _ d.1, all_pass is_visible rest) in
    (drop n rest, ap (λ (r : List ℕ). blanks ++ r) (sym (take-append-drop n rest) ∙ ap (λ (m : List ℕ). m ++ drop n rest) a.1), (ltb-true _ _ d.0, blanks_are), subst AreVisible a.1 visible, b.1)

heading_takes : (line name : List ℕ) → heading_name line ≡ Some name → IsHeading line name
unfolding heading_name
heading_takes line name e =
    let rest = drop 3 line in
    let n = prefix_len is_blank rest in
    let a = let_through (bytes_eq (take 3 line) (codes "X86")) (name_after (take n rest) (drop n rest)) name e in
    let x86 : take 3 line ≡ codes "X86" = (bytes_eq-Decides (take 3 line) (codes "X86")).0 a.0 in
    let t = after_takes (take n rest) (drop n rest) name (all_pass is_blank rest) a.1 in
    (take n rest, t.0, sym (take-append-drop 3 line) ∙ ap (λ (h : List ℕ). h ++ rest) x86 ∙ ap (λ (r : List ℕ). codes "X86" ++ r) (sym (take-append-drop n rest) ∙ t.1), t.2, t.3, t.4)

no_visible : (trailing : List ℕ) → list_all is_line_space trailing ≡ true → is_visible (slice_index trailing 0) ≡ false
no_visible [] all = refl
no_visible (b ∷ bs) all = let a = and_parts (is_line_space b) (list_all is_line_space bs) all in let first = a.0 in no_visible_byte b first
  where
    no_visible_byte : (b : ℕ) → is_line_space b ≡ true → is_visible b ≡ false
    no_visible_byte b h = grind (arith, nat_tests)

after_again : (blanks name trailing : List ℕ) → AreBlanks blanks → AreVisible name → list_all is_line_space trailing ≡ true → name_after blanks (name ++ trailing) ≡ Some name
after_again blanks name trailing blanks_are names ends =
    let n : prefix_len is_visible (name ++ trailing) ≡ length name = prefix_is is_visible name trailing names.1 (no_visible trailing ends) in
    let front : take (length name) (name ++ trailing) ≡ name = take_at name trailing (length name) refl in
    let back : drop (length name) (name ++ trailing) ≡ trailing = drop_at name trailing (length name) refl in
    let g : nat_lt 0 (length blanks) ≡ true = lt-ltb _ _ blanks_are.0 in
    let v : nat_lt 0 (length name) ≡ true = lt-ltb _ _ names.0 in
    rw (n, front, back, g, v, ends) refl

no_blank : (name others : List ℕ) → AreVisible name → is_blank (slice_index (name ++ others) 0) ≡ false
no_blank [] others h = absurd (omega (arith, h.0))
no_blank (b ∷ bs) others h = no_blank_byte b (and_parts (is_visible b) (list_all is_visible bs) h.1).0
  where
    no_blank_byte : (b : ℕ) → is_visible b ≡ true → is_blank b ≡ false
    no_blank_byte b h = grind (arith, nat_tests)

heading_of_parts : (blanks name trailing : List ℕ) → AreBlanks blanks → AreVisible name → list_all is_line_space trailing ≡ true → heading_name (codes "X86" ++ (blanks ++ (name ++ trailing))) ≡ Some name
unfolding heading_name
heading_of_parts blanks name trailing blanks_are names ends =
    let n : prefix_len is_blank (blanks ++ (name ++ trailing)) ≡ length blanks = prefix_is is_blank blanks (name ++ trailing) blanks_are.1 (no_blank name trailing names) in
    let front : take (length blanks) (blanks ++ (name ++ trailing)) ≡ blanks = take_at blanks (name ++ trailing) (length blanks) refl in
    let back : drop (length blanks) (blanks ++ (name ++ trailing)) ≡ name ++ trailing = drop_at blanks (name ++ trailing) (length blanks) refl in
    rw (n, front, back) (after_again blanks name trailing blanks_are names ends)

heading_again : (line name : List ℕ) → IsHeading line name → heading_name line ≡ Some name
heading_again line name h = rw h.2 (heading_of_parts h.0 name h.1 h.3 h.4 h.5)

-- ---- the text

-- no LF stands in a first line
heading_inside : (line name : List ℕ) → IsHeading line name → list_all is_inside line ≡ true
heading_inside line name h =
    let blanks = weaker is_blank is_inside (λ b own. grind (arith, nat_tests)) h.0 h.3.1 in
    let names = weaker is_visible is_inside (λ b own. grind (arith, nat_tests)) name h.4.1 in
    let ends = weaker is_line_space is_inside (λ b own. grind (arith, nat_tests)) h.1 h.5 in
    rw (h.2, list_all-append is_inside h.0 (name ++ h.1), list_all-append is_inside name h.1, blanks, names, ends) refl

begins : (text : List ℕ) → prefix_len is_inside text < length text → drop (prefix_len is_inside text) text ≡ 10 ∷ drop 1 (drop (prefix_len is_inside text) text)
begins [] lt = absurd (omega arith)
begins (b ∷ text) lt =
    elim (cases_Bool (is_inside b)) [
      | inl y ↦
          let n : prefix_len is_inside (b ∷ text) ≡ 1 + prefix_len is_inside text = rw y refl in
          rw (n, one_more) (begins text (omega (arith, n)))
      | inr out ↦
          let n : prefix_len is_inside (b ∷ text) ≡ 0 = rw out refl in
          let first : b ≡ 10 = eqb-true b 10 (not-false (b == 10) out) in
          rw (n, first) refl
    ]

pub line_takes : (text line rest : List ℕ) → line_at text ≡ Some (line, rest) → text ≡ line ++ 10 ∷ rest
unfolding line_at
line_takes text line rest e =
    let n = prefix_len is_inside text in
    let a = cond_some (nat_lt n (length text)) (take n text, drop 1 (drop n text)) (line, rest) e in
    let front : take n text ≡ line = ap (λ (p : List ℕ × List ℕ). p.0) a.1 in
    let back : drop 1 (drop n text) ≡ rest = ap (λ (p : List ℕ × List ℕ). p.1) a.1 in
    sym (take-append-drop n text) ∙ ap (λ (x : List ℕ). x ++ drop n text) front ∙ ap (λ (x : List ℕ). line ++ x) (begins text (ltb-true _ _ a.0) ∙ ap (λ (x : List ℕ). 10 ∷ x) back)

-- no LF stands in a line
pub line_inside : (text line rest : List ℕ) → line_at text ≡ Some (line, rest) → list_all is_inside line ≡ true
unfolding line_at
line_inside text line rest e =
    let n = prefix_len is_inside text in
    let a = cond_some (nat_lt n (length text)) (take n text, drop 1 (drop n text)) (line, rest) e in
    let front : take n text ≡ line = ap (λ (p : List ℕ × List ℕ). p.0) a.1 in
    subst (λ (l : List ℕ). list_all is_inside l ≡ true) front (all_pass is_inside text)

pub line_again : (line rest : List ℕ) → list_all is_inside line ≡ true → line_at (line ++ 10 ∷ rest) ≡ Some (line, rest)
unfolding line_at
line_again line rest all =
    let n : prefix_len is_inside (line ++ 10 ∷ rest) ≡ length line = prefix_is is_inside line (10 ∷ rest) all refl in
    let front : take (length line) (line ++ 10 ∷ rest) ≡ line = take_at line (10 ∷ rest) (length line) refl in
    let back : drop (length line) (line ++ 10 ∷ rest) ≡ 10 ∷ rest = drop_at line (10 ∷ rest) (length line) refl in
    let lt : nat_lt (length line) (length (line ++ 10 ∷ rest)) ≡ true = lt-ltb _ _ (omega (arith, length-append line (10 ∷ rest))) in
    rw (n, front, back, lt) refl

-- a line and a name that are read are a first line's
pub first_takes : (text line rest name : List ℕ) → line_at text ≡ Some (line, rest) → heading_name line ≡ Some name → IsFirstLine text name rest
first_takes text line rest name e h = (line, line_takes text line rest e, heading_takes line name h)

-- a first line is read
pub first_again : (text name rest : List ℕ) → IsFirstLine text name rest → (line : List ℕ) × (line_at text ≡ Some (line, rest)) × (heading_name line ≡ Some name)
first_again text name rest h = (h.0, rw h.1 (line_again h.0 rest (heading_inside h.0 name h.2)), heading_again h.0 name h.2)

-- ---- what is read twice is the same

pub none_or : {A : Type 0} (o : Option A) (x : A) → None ≡ o → o ≡ Some x → ⊥
none_or o x e h = absurd cc

pub same_line : (o : Option (List ℕ × List ℕ)) (l m r s : List ℕ) → o ≡ Some (l, r) → o ≡ Some (m, s) → (l ≡ m) × (r ≡ s)
same_line o l m r s e h = let p : ◌≡◌ {A = List ℕ × List ℕ} (l, r) (m, s) = cc in (ap (λ (q : List ℕ × List ℕ). q.0) p, ap (λ (q : List ℕ × List ℕ). q.1) p)

pub same_parts : (l m n k : List ℕ) → l ≡ m → heading_name l ≡ Some n → heading_name m ≡ Some k → n ≡ k
same_parts l m n k same e h = let f = ap heading_name same in cc

-- a text has one first line
pub first_line_once : (text name other rest after : List ℕ) → IsFirstLine text name rest → IsFirstLine text other after → (name ≡ other) × (rest ≡ after)
first_line_once text name other rest after h g =
    let a = first_again text name rest h in
    let b = first_again text other after g in
    let same = same_line (line_at text) a.0 b.0 rest after a.1 b.1 in
    (same_parts a.0 b.0 name other same.0 a.2 b.2, same.1)

-- ---- where no first line is read

pub no_end : (text : List ℕ) → None ≡ line_at text → list_all is_inside text ≡ true
unfolding line_at
no_end text e =
    let n = prefix_len is_inside text in
    let all = not_passed (nat_lt n (length text)) (take n text, drop 1 (drop n text)) (sym e) in
    rw (sym (take_all n text (ltb-false _ _ all))) (all_pass is_inside text)

pub has_end : (text line rest : List ℕ) → line_at text ≡ Some (line, rest) → list_all is_inside text ≡ false
has_end text line rest e = rw (line_takes text line rest e, list_all-append is_inside line (10 ∷ rest), line_inside text line rest e) refl
