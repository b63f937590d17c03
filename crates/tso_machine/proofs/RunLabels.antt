-- Labels and the words that spell them.
use Rattle.tso_machine.proofs.Vocabulary.{sym, ◌∙◌, subst, ◌==◌, inl, inr, ◌⊎◌, take, drop, Option, Some, None, ◌+◌, ◌≡◌, ℕ, zero, suc, ◌<◌, Bool, true, false, List, [], ◌∷◌, ◌++◌, length, get_or, map, refl, ap, arith, cond, filter, nat_lt, option_map}
use Rattle.tso_machine.proofs.Vocabulary.{map_more, map_push, filter-append, lt-ltb, eqb-true, cases_Bool, decimal_injective, AllByRecursion, Label, Exec, Flush, label_at, plain_number_takes, plain_number_again, spelling, IsLabel, words, IsFirstNoLabel}
use Rattle.std.specs.Borrow.{Bor}
use Rattle.text_tokens.specs.Numbers.{plain_number_at}

same_label : (l m : Label) → IsLabel l → IsLabel m → spelling l ≡ spelling m → l ≡ m
same_label (Exec t) (Exec u) a b e = let same : t ≡ u = decimal_injective t u (omega (arith, a)) (omega (arith, b)) (cc) in cc
same_label (Flush t) (Flush u) a b e = let same : t ≡ u = decimal_injective t u (omega (arith, a)) (omega (arith, b)) (cc) in cc
same_label (Exec t) (Flush u) a b e = let bad : 101 ≡ 102 = ap (λ (w : List ℕ). get_or w 0 0) e in absurd (omega (arith, bad))
same_label (Flush t) (Exec u) a b e = let bad : 102 ≡ 101 = ap (λ (w : List ℕ). get_or w 0 0) e in absurd (omega (arith, bad))

pub same_labels : (ls ms : List Label) → AllByRecursion IsLabel ls → AllByRecursion IsLabel ms → map spelling ls ≡ map spelling ms → ls ≡ ms
same_labels [] [] a b e = refl
same_labels (l ∷ ls) (m ∷ ms) a b e =
    let first : l ≡ m = same_label l m a.0 b.0 (cc) in
    let others : ls ≡ ms = same_labels ls ms a.1 b.1 (cc) in
    cc
same_labels ls ms a b e = absurd cc

mapped : (f : ℕ → Label) (o : Option ℕ) (l : Label) → option_map f o ≡ Some l → (t : ℕ) × (o ≡ Some t) × (f t ≡ l)
mapped f (Some t) l e = (t, refl, cc)
mapped f None l e = absurd cc

label_then : (b d : Bool) (x y : Option Label) (l : Label) → cond b x (cond d y None) ≡ Some l → ((b ≡ true) × (x ≡ Some l)) ⊎ ((d ≡ true) × (y ≡ Some l))
label_then true d x y l e = inl (refl, e)
label_then false true x y l e = inr (refl, e)
label_then false false x y l e = absurd cc

-- the label that is read is spelled so
pub label_takes : (word : List ℕ) (l : Label) → label_at word ≡ Some l → (spelling l ≡ word) × IsLabel l
unfolding label_at
label_takes [] l e = absurd cc
label_takes (b ∷ ds) l e =
    elim (label_then (b == 101) (b == 102) (option_map Exec (plain_number_at 255 ds)) (option_map Flush (plain_number_at 255 ds)) l e) [
      | inl h ↦
          let m = mapped Exec (plain_number_at 255 ds) l h.1 in
          let t = plain_number_takes 255 m.0 ds (omega arith) m.1 in
          let first : b ≡ 101 = eqb-true _ _ h.0 in
          let small : m.0 < 256 = omega (arith, t.1) in
          (sym (ap spelling m.2) ∙ (λ i. sym first i ∷ sym t.0 i), subst IsLabel m.2 small)
      | inr h ↦
          let m = mapped Flush (plain_number_at 255 ds) l h.1 in
          let t = plain_number_takes 255 m.0 ds (omega arith) m.1 in
          let first : b ≡ 102 = eqb-true _ _ h.0 in
          let small : m.0 < 256 = omega (arith, t.1) in
          (sym (ap spelling m.2) ∙ (λ i. sym first i ∷ sym t.0 i), subst IsLabel m.2 small)
    ]

pub label_again : (l : Label) → IsLabel l → label_at (spelling l) ≡ Some l
unfolding label_at
label_again (Exec t) fits = rw (plain_number_again 255 t (omega arith) (omega arith)) refl
label_again (Flush t) fits = rw (plain_number_again 255 t (omega arith) (omega arith)) refl

abbrev pub word_of : List ℕ → Bool
word_of w = nat_lt 0 (length w)

-- what is left of the labels where the first part's label, if it is one, is taken off
no_label_here : (labels : List Label) (p : List ℕ) (ps : List (List ℕ)) → AllByRecursion IsLabel labels → cond (word_of p) (p ∷ filter word_of ps) (filter word_of ps) ≡ map spelling labels
    → 0 < length p → label_at p ≡ None → ⊥
no_label_here [] p ps fits e some none =
    let yes : word_of p ≡ true = lt-ltb 0 (length p) some in
    let bad : p ∷ filter word_of ps ≡ [] = rw yes at e in absurd cc
no_label_here (l ∷ ls) p ps fits e some none =
    let yes : word_of p ≡ true = lt-ltb 0 (length p) some in
    let both : p ∷ filter word_of ps ≡ spelling l ∷ map spelling ls = rw yes at e in
    let same : p ≡ spelling l = cc in
    let found : label_at p ≡ Some l = rw same (label_again l fits.0) in
    absurd cc

-- no word that isn't a label's is among the labels' words
pub no_label : (labels : List Label) (ps : List (Bor (List ℕ))) (i : ℕ) (d : Bor (List ℕ)) → AllByRecursion IsLabel labels → filter word_of (map (λ p. p.now) ps) ≡ map spelling labels → i < length ps
    → 0 < length (get_or ps i d).now → label_at (get_or ps i d).now ≡ None → ⊥
no_label labels [] i d fits e lt some none = omega arith
no_label labels (p ∷ ps) zero d fits e lt some none = no_label_here labels p.now (map (λ p. p.now) ps) fits e some none
no_label [] (p ∷ ps) (suc i) d fits e lt some none =
    elim (cases_Bool (word_of p.now)) [
      | inl w ↦ let bad : p.now ∷ filter word_of (map (λ q. q.now) ps) ≡ [] = rw w at e in absurd cc
      | inr w ↦ no_label [] ps i d fits (rw w at e) (omega arith) some none
    ]
no_label (l ∷ ls) (p ∷ ps) (suc i) d fits e lt some none =
    elim (cases_Bool (word_of p.now)) [
      | inl w ↦
          let both : p.now ∷ filter word_of (map (λ q. q.now) ps) ≡ spelling l ∷ map spelling ls = rw w at e in
          no_label ls ps i d fits.1 (cc) (omega arith) some none
      | inr w ↦ no_label (l ∷ ls) ps i d fits (rw w at e) (omega arith) some none
    ]

-- one more part, which is a label's word
pub one_more : (ls : List Label) (l : Label) (ps : List (Bor (List ℕ))) (i : ℕ) (d : Bor (List ℕ)) → i < length ps → 0 < length (get_or ps i d).now → label_at (get_or ps i d).now ≡ Some l
    → map spelling ls ≡ filter word_of (map (λ p. p.now) (take i ps)) → map spelling (ls ++ l ∷ []) ≡ filter word_of (map (λ p. p.now) (take (i + 1) ps))
one_more ls l ps i d lt some is so_far =
    let yes : word_of (get_or ps i d).now ≡ true = lt-ltb 0 (length (get_or ps i d).now) some in
    let same = label_takes (get_or ps i d).now l is in
    rw (map_push spelling ls l, map_more (λ (p : Bor (List ℕ)). p.now) ps i d lt, filter-append word_of (map (λ (p : Bor (List ℕ)). p.now) (take i ps)) ((get_or ps i d).now ∷ []), so_far, yes, same.0) refl

-- the words of some parts, at a part that is a word
words_at : (ps : List (Bor (List ℕ))) (i : ℕ) (d : Bor (List ℕ)) → i < length ps → 0 < length (get_or ps i d).now
    → filter word_of (map (λ p. p.now) ps) ≡ filter word_of (map (λ p. p.now) (take i ps)) ++ (get_or ps i d).now ∷ filter word_of (map (λ p. p.now) (drop (suc i) ps))
words_at [] i d lt some = absurd (omega arith)
words_at (p ∷ ps) zero d lt some =
    let yes : word_of p.now ≡ true = lt-ltb 0 (length p.now) some in
    rw yes refl
words_at (p ∷ ps) (suc i) d lt some =
    elim (cases_Bool (word_of p.now)) [
      | inl w ↦ rw w (ap (λ (ws : List (List ℕ)). p.now ∷ ws) (words_at ps i d (omega arith) some))
      | inr w ↦ rw w (words_at ps i d (omega arith) some)
    ]

-- the word at which no label is read, after the words of the labels so far
pub first_no_label : (text : List ℕ) (ls : List Label) (ps : List (Bor (List ℕ))) (i n : ℕ) (d : Bor (List ℕ)) → filter word_of (map (λ p. p.now) ps) ≡ words text
    → map spelling ls ≡ filter word_of (map (λ p. p.now) (take i ps)) → AllByRecursion IsLabel ls → length ls ≡ n → i < length ps → 0 < length (get_or ps i d).now → label_at (get_or ps i d).now ≡ None
    → IsFirstNoLabel text n
first_no_label text ls ps i n d parts so_far fits count lt some none = record {
  labels = ls;
  count = count;
  fits = fits;
  word = (get_or ps i d).now;
  others = filter word_of (map (λ (p : Bor (List ℕ)). p.now) (drop (suc i) ps));
  text_words = sym parts ∙ words_at ps i d lt some ∙ ap (λ (ws : List (List ℕ)). ws ++ (get_or ps i d).now ∷ filter word_of (map (λ (p : Bor (List ℕ)). p.now) (drop (suc i) ps))) (sym so_far);
  no_label = λ l is e. (let found : label_at (get_or ps i d).now ≡ Some l = rw (← e) (label_again l is) in cc);
}
