-- Lines are read exactly.
use Rattle.cert_forest.proofs.Vocabulary.{◌≡◌, ℕ, zero, suc, ◌-◌, ◌<◌, ◌≤◌, ◌^◌, true, List, [], ◌∷◌, ◌++◌, length, map, Option, Some, refl, sym, ap, subst, ◌∙◌, append_assoc, arith, inl, inr, codes, AllByRecursion, list_all, decimal, append-nil, Label}
use Rattle.cert_forest.proofs.Vocabulary.{spelling, IsLabel, MAX_GAPS, SetOfGaps, IsGapSet, numbers_of_set, MAX_COUNT, MAX_COVER_DEPTH, MAX_GAP_DEPTH, Rule, Cover, Gap, texts_of, line, cover_words, gap_words, labels_line, runs_lines, ◌>>=◌, is_inner, line_name_at}
use Rattle.cert_forest.proofs.Vocabulary.{end_at, begins_word, number_within_at, repeat_at, label_word_at, run_labels_at, gap_number_at, ascending_at, run_at, runs_at, set_at, cost_at, cover_at, gap_at, cover_line_at, gap_line_at, bind_some, kept_out, by_test}
use Rattle.cert_forest.proofs.Vocabulary.{same_Some, name_takes, name_again, end_takes, end_again, number_text, number_exact, below64, IsWrittenRun, AreRuns, IsCoverTo, IsGapTo, Starts, done_with, IsExact, repeat_takes, repeat_free}
use Rattle.std.specs.FinSet as set
use Rattle.cert_forest.proofs.{AscendingLaws.numbers_start, AscendingLaws.numbers_take, AscendingLaws.numbers_again, NameLaws.label_text, NameLaws.label_exact}
use Rattle.cert_forest.proofs.{TreeTexts.texts_map, TreeTexts.cover_text, TreeTexts.gap_text, CoverLaws.cover_exact, GapLaws.gap_exact}

-- ---- a line of a name and a value

abbrev pub line_at : {A : Type 0} → List ℕ → (List ℕ → Option (A × List ℕ)) → List ℕ → Option (A × List ℕ)
line_at name r bytes = line_name_at name bytes >>= λ t. r t >>= λ x. end_at x.1 >>= λ rest. Some (x.0, rest)

abbrev pub line_of : List ℕ → List ℕ → List ℕ
line_of name text = name ++ (text ++ 10 ∷ [])

line_parts : (name text rest : List ℕ) → name ++ (text ++ 10 ∷ rest) ≡ line_of name text ++ rest
line_parts name text rest = simp append_assoc

pub line_takes : {A : Type 0} (r : List ℕ → Option (A × List ℕ)) (text : A → List ℕ) (P : A → Type 0) → ((bytes : List ℕ) (x : A × List ℕ) → r bytes ≡ Some x → (bytes ≡ text x.0 ++ x.1) × P x.0)
    → (name bytes : List ℕ) (x : A × List ℕ) → line_at name r bytes ≡ Some x → (bytes ≡ line_of name (text x.0) ++ x.1) × P x.0
line_takes r text P takes name bytes x e =
    let t = bind_some (line_name_at name bytes) (λ t. r t >>= λ x. end_at x.1 >>= λ rest. Some (x.0, rest)) x e in
    let v = bind_some (r t.0) (λ x. end_at x.1 >>= λ rest. Some (x.0, rest)) x t.2 in
    let n = bind_some (end_at v.0.1) (λ rest. Some (v.0.0, rest)) x v.2 in
    let one = name_takes name bytes t.0 t.1 in
    let two = takes t.0 v.0 v.1 in
    let three = end_takes v.0.1 n.0 n.1 in
    let here : bytes ≡ line_of name (text v.0.0) ++ n.0 = one ∙ ap (λ (w : List ℕ). name ++ w) (two.0 ∙ ap (λ (w : List ℕ). text v.0.0 ++ w) three) ∙ line_parts name (text v.0.0) n.0 in
    subst (λ (y : _ × List ℕ). (bytes ≡ line_of name (text y.0) ++ y.1) × P y.0) (same_Some (v.0.0, n.0) x n.2) (here, two.1)

pub line_again : {A : Type 0} (r : List ℕ → Option (A × List ℕ)) (text : List ℕ) (name : List ℕ) (x : A) (rest : List ℕ) → list_all is_inner name ≡ true → Starts (text ++ 10 ∷ rest) → r (text ++ 10 ∷ rest) ≡ Some (x, 10 ∷ rest)
    → line_at name r (line_of name text ++ rest) ≡ Some (x, rest)
line_again r text name x rest word st e =
    ap (line_at name r) (sym (line_parts name text rest))
    ∙ rw (name_again name (text ++ 10 ∷ rest) word st, e, end_again rest) refl

-- ---- labels

labels_take : (n : ℕ) (found : List Label) (bytes : List ℕ) (x : List Label × List ℕ) → run_labels_at n found bytes ≡ Some x
    → (more : List Label) × (x.0 ≡ found ++ more) × (bytes ≡ texts_of label_text more ++ x.1) × (length more ≤ n) × AllByRecursion IsLabel more
unfolding run_labels_at
labels_take zero found bytes x e =
    let k = kept_out (begins_word bytes) (Some (found, bytes)) x e in
    let same = same_Some (found, bytes) x k.1 in
    ([], sym (ap (λ p. p.0) same) ∙ sym (append-nil found), ap (λ p. p.1) same, omega arith, tt)
labels_take (suc n) found bytes x e =
    elim (by_test (begins_word bytes) (label_word_at bytes >>= λ label. run_labels_at n (found ++ label.0 ∷ []) label.1) (Some (found, bytes)) (Some x) e) [
      | inl h ↦
          let u = bind_some (label_word_at bytes) (λ label. run_labels_at n (found ++ label.0 ∷ []) label.1) x h.1 in
          let one = label_exact.takes bytes u.0 u.1 in
          let others = labels_take n (found ++ u.0.0 ∷ []) u.0.1 x u.2 in
          (u.0.0 ∷ others.0, others.1 ∙ append_assoc found (u.0.0 ∷ []) others.0, one.0 ∙ ap (λ (w : List ℕ). label_text u.0.0 ++ w) others.2 ∙ sym (append_assoc (label_text u.0.0) (texts_of label_text others.0) x.1), omega (arith, others.3), (one.1, others.4))
      | inr h ↦
          let same = same_Some (found, bytes) x h.1 in
          ([], sym (ap (λ p. p.0) same) ∙ sym (append-nil found), ap (λ p. p.1) same, omega arith, tt)
    ]

labels_start : (ls : List Label) (rest : List ℕ) → Starts (texts_of label_text ls ++ 10 ∷ rest)
labels_start [] rest = refl
labels_start (l ∷ ls) rest = refl

labels_again : (n : ℕ) (ls found : List Label) (rest : List ℕ) → AllByRecursion IsLabel ls → length ls ≤ n → run_labels_at n found (texts_of label_text ls ++ 10 ∷ rest) ≡ Some (found ++ ls, 10 ∷ rest)
unfolding run_labels_at
labels_again zero [] found rest all few = ap (done_with (10 ∷ rest)) (sym (append-nil found))
labels_again zero (l ∷ ls) found rest all few = absurd (omega arith)
labels_again (suc n) [] found rest all few = ap (done_with (10 ∷ rest)) (sym (append-nil found))
labels_again (suc n) (l ∷ ls) found rest all few =
    let here : label_word_at (label_text l ++ (texts_of label_text ls ++ 10 ∷ rest)) ≡ Some (l, texts_of label_text ls ++ 10 ∷ rest) = label_exact.again l (texts_of label_text ls ++ 10 ∷ rest) all.0 (labels_start ls rest) in
    let whole : label_word_at ((label_text l ++ texts_of label_text ls) ++ 10 ∷ rest) ≡ Some (l, texts_of label_text ls ++ 10 ∷ rest) = ap label_word_at (append_assoc (label_text l) (texts_of label_text ls) (10 ∷ rest)) ∙ here in
    ap (λ o. o >>= λ label. run_labels_at n (found ++ label.0 ∷ []) label.1) whole
    ∙ labels_again n ls (found ++ l ∷ []) rest all.1 (omega arith)
    ∙ ap (done_with (10 ∷ rest)) (append_assoc found (l ∷ []) ls)

-- ---- each line

pub run_takes : (bytes : List ℕ) (x : List Label × List ℕ) → run_at bytes ≡ Some x → (bytes ≡ labels_line x.0 ++ x.1) × IsWrittenRun x.0
unfolding run_at
run_takes bytes x e =
    let t = line_takes (run_labels_at MAX_COUNT []) (λ ls. texts_of label_text ls) IsWrittenRun read (codes "run") bytes x e in
    (t.0 ∙ ap (λ (w : List ℕ). line_of (codes "run") w ++ x.1) (sym (texts_map spelling x.0)), t.1)
  where
    read : (bytes : List ℕ) (x : List Label × List ℕ) → run_labels_at MAX_COUNT [] bytes ≡ Some x → (bytes ≡ texts_of label_text x.0 ++ x.1) × IsWrittenRun x.0
    read bytes x e =
        let l = labels_take MAX_COUNT [] bytes x e in
        subst (λ (ls : List Label). (bytes ≡ texts_of label_text ls ++ x.1) × IsWrittenRun ls) (sym l.1) (l.2, (l.3, l.4))

pub run_again : (ls : List Label) (rest : List ℕ) → IsWrittenRun ls → run_at (labels_line ls ++ rest) ≡ Some (ls, rest)
unfolding run_at
run_again ls rest fits =
    ap (λ (w : List ℕ). line_at (codes "run") (run_labels_at MAX_COUNT []) (line_of (codes "run") w ++ rest)) (texts_map spelling ls)
    ∙ line_again (run_labels_at MAX_COUNT []) (texts_of label_text ls) (codes "run") ls rest refl (labels_start ls rest) (labels_again MAX_COUNT ls [] rest fits.1 fits.0)

counted : (name n texts rest : List ℕ) → name ++ (n ++ (10 ∷ (texts ++ rest))) ≡ ((name ++ ((n ++ []) ++ 10 ∷ [])) ++ texts) ++ rest
counted name n texts rest = simp (append_assoc, append-nil)

pub runs_takes : (name bytes : List ℕ) (x : List (List Label) × List ℕ) → runs_at name bytes ≡ Some x → (bytes ≡ runs_lines name x.0 ++ x.1) × AreRuns x.0
unfolding runs_at
runs_takes name bytes x e =
    let t = bind_some (line_name_at name bytes) (λ t. number_within_at 18446744073709551615 t >>= λ n. end_at n.1 >>= λ lines. repeat_at run_at n.0 [] lines) x e in
    let n = bind_some (number_within_at 18446744073709551615 t.0) (λ n. end_at n.1 >>= λ lines. repeat_at run_at n.0 [] lines) x t.2 in
    let l = bind_some (end_at n.0.1) (λ lines. repeat_at run_at n.0.0 [] lines) x n.2 in
    let one = name_takes name bytes t.0 t.1 in
    let two = (number_exact 18446744073709551615 below64).takes t.0 n.0 n.1 in
    let three = end_takes n.0.1 l.0 l.1 in
    let more = repeat_takes run_at labels_line IsWrittenRun run_takes n.0.0 [] l.0 x l.2 in
    let len : n.0.0 ≡ length more.0 = sym more.3 in
    let here : bytes ≡ runs_lines name more.0 ++ x.1 =
    one ∙ ap (λ (w : List ℕ). name ++ w) (two.0 ∙ (λ i. number_text (len i) ++ (three ∙ ap (λ (w : List ℕ). 10 ∷ w) more.2) i)) ∙ counted name (number_text (length more.0)) (texts_of labels_line more.0) x.1 in
    let few : length more.0 < 2 ^ 64 = omega (arith, two.1, more.3) in
    subst (λ (rs : List (List Label)). (bytes ≡ runs_lines name rs ++ x.1) × AreRuns rs) (sym more.1) (here, (few, more.4))

pub runs_again : (name : List ℕ) (rs : List (List Label)) (rest : List ℕ) → list_all is_inner name ≡ true → AreRuns rs → runs_at name (runs_lines name rs ++ rest) ≡ Some (rs, rest)
unfolding runs_at
runs_again name rs rest word fits =
    let n-again : number_within_at 18446744073709551615 (number_text (length rs) ++ (10 ∷ (texts_of labels_line rs ++ rest))) ≡ Some (length rs, 10 ∷ (texts_of labels_line rs ++ rest)) = (number_exact 18446744073709551615 below64).again (length rs) (10 ∷ (texts_of labels_line rs ++ rest)) (omega (arith, fits.0)) refl in
    ap (λ (w : List ℕ). line_name_at name w >>= λ t. number_within_at 18446744073709551615 t >>= λ n. end_at n.1 >>= λ lines. repeat_at run_at n.0 [] lines) (sym (counted name (number_text (length rs)) (texts_of labels_line rs) rest))
    ∙ rw (name_again name (number_text (length rs) ++ (10 ∷ (texts_of labels_line rs ++ rest))) word refl, n-again, end_again (texts_of labels_line rs ++ rest)) (repeat_free run_at labels_line IsWrittenRun run_again rs [] rest fits.1)

gap_exact_below : IsExact gap_number_at number_text (λ n. n < MAX_GAPS)
gap_exact_below =
    let e = number_exact (MAX_GAPS - 1) (omega arith) in
    record {
      takes = λ bytes x is. (let t = e.takes bytes x is in (t.0, omega (arith, t.1)));
      again = λ n rest low st. e.again n rest (omega arith) st;
      starts = λ n rest low st. e.starts n rest (omega arith) st;
    }

pub set_takes : (bytes : List ℕ) (x : SetOfGaps × List ℕ) → set_at bytes ≡ Some x → (bytes ≡ line (codes "set") (map decimal (numbers_of_set x.0)) ++ x.1) × IsGapSet x.0
unfolding set_at
set_takes bytes x e =
    let t = line_takes (ascending_at gap_number_at MAX_GAPS 0 set.empty) (λ s. texts_of number_text (numbers_of_set s)) IsGapSet (numbers_take gap_number_at decimal MAX_GAPS gap_exact_below (omega arith)) (codes "set") bytes x e in
    (t.0 ∙ ap (λ (w : List ℕ). line_of (codes "set") w ++ x.1) (sym (texts_map decimal (numbers_of_set x.0))), t.1)

pub set_again : (s : SetOfGaps) (rest : List ℕ) → IsGapSet s → set_at (line (codes "set") (map decimal (numbers_of_set s)) ++ rest) ≡ Some (s, rest)
unfolding set_at
set_again s rest low =
    ap (λ (w : List ℕ). line_at (codes "set") (ascending_at gap_number_at MAX_GAPS 0 set.empty) (line_of (codes "set") w ++ rest)) (texts_map decimal (numbers_of_set s))
    ∙ line_again (ascending_at gap_number_at MAX_GAPS 0 set.empty) (texts_of number_text (numbers_of_set s)) (codes "set") s rest refl
    (numbers_start gap_number_at decimal MAX_GAPS gap_exact_below (numbers_of_set s) rest) (numbers_again gap_number_at decimal MAX_GAPS gap_exact_below (omega arith) s rest low)

pub cost_takes : (bytes : List ℕ) (x : ℕ × List ℕ) → cost_at bytes ≡ Some x → (bytes ≡ line (codes "cost") (decimal x.0 ∷ []) ++ x.1) × (x.0 < 2 ^ 64)
unfolding cost_at
cost_takes bytes x e =
    let t = line_takes (number_within_at 18446744073709551615) number_text (λ n. n ≤ 18446744073709551615) (number_exact 18446744073709551615 below64).takes (codes "cost") bytes x e in
    (t.0 ∙ ap (λ (w : List ℕ). line_of (codes "cost") w ++ x.1) (sym (append-nil (number_text x.0))), omega (arith, t.1))

pub cost_again : (n : ℕ) (rest : List ℕ) → n < 2 ^ 64 → cost_at (line (codes "cost") (decimal n ∷ []) ++ rest) ≡ Some (n, rest)
unfolding cost_at
cost_again n rest fits =
    ap (λ (w : List ℕ). line_at (codes "cost") (number_within_at 18446744073709551615) (line_of (codes "cost") w ++ rest)) (append-nil (number_text n))
    ∙ line_again (number_within_at 18446744073709551615) (number_text n) (codes "cost") n rest refl refl ((number_exact 18446744073709551615 below64).again n (10 ∷ rest) (omega arith) refl)

pub cover_line_takes : (name bytes : List ℕ) (x : Cover × List ℕ) → cover_line_at name bytes ≡ Some x → (bytes ≡ line name (cover_words x.0) ++ x.1) × IsCoverTo MAX_COVER_DEPTH x.0
unfolding cover_line_at
cover_line_takes name bytes x e = line_takes (cover_at MAX_COVER_DEPTH) cover_text (IsCoverTo MAX_COVER_DEPTH) (cover_exact MAX_COVER_DEPTH).takes name bytes x e

pub cover_line_again : (name : List ℕ) (t : Cover) (rest : List ℕ) → list_all is_inner name ≡ true → IsCoverTo MAX_COVER_DEPTH t → cover_line_at name (line name (cover_words t) ++ rest) ≡ Some (t, rest)
unfolding cover_line_at
cover_line_again name t rest word fits =
    line_again (cover_at MAX_COVER_DEPTH) (cover_text t) name t rest word ((cover_exact MAX_COVER_DEPTH).starts t (10 ∷ rest) fits refl) ((cover_exact MAX_COVER_DEPTH).again t (10 ∷ rest) fits refl)

pub gap_line_takes : (rule : Rule) (bytes : List ℕ) (x : Gap × List ℕ) → gap_line_at rule bytes ≡ Some x → (bytes ≡ line (codes "gaps") (gap_words rule x.0) ++ x.1) × IsGapTo rule MAX_GAP_DEPTH x.0
unfolding gap_line_at
gap_line_takes rule bytes x e = line_takes (gap_at rule MAX_GAP_DEPTH) (gap_text rule) (IsGapTo rule MAX_GAP_DEPTH) (gap_exact rule MAX_GAP_DEPTH).takes (codes "gaps") bytes x e

pub gap_line_again : (rule : Rule) (t : Gap) (rest : List ℕ) → IsGapTo rule MAX_GAP_DEPTH t → gap_line_at rule (line (codes "gaps") (gap_words rule t) ++ rest) ≡ Some (t, rest)
unfolding gap_line_at
gap_line_again rule t rest fits =
    line_again (gap_at rule MAX_GAP_DEPTH) (gap_text rule t) (codes "gaps") t rest refl ((gap_exact rule MAX_GAP_DEPTH).starts t (10 ∷ rest) fits refl) ((gap_exact rule MAX_GAP_DEPTH).again t (10 ∷ rest) fits refl)
