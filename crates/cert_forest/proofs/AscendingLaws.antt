-- Ascending numbers are read exactly, as a set.
use Rattle.cert_forest.proofs.Vocabulary.{◌≡◌, ℕ, zero, suc, ◌+◌, ◌<◌, ◌≤◌, false, cond, List, [], ◌∷◌, ◌++◌, length, Option, Some, None, refl, sym, ap, subst, ◌∙◌, append_assoc, arith, inl, inr, ltb-false, le-ltb, nat_lt, MAX_GAPS, SetOfGaps, numbers_of_set}
use Rattle.cert_forest.proofs.Vocabulary.{texts_of, spaced, ◌>>=◌, begins_word, bind_some, kept_out, by_test, same_Some, Starts, done_with, IsExact, ascending_at}
use Rattle.std.specs.FinSet as set
use Rattle.cert_forest.proofs.Ascending.{Ascend, IsBelow, numbers_back, ascending_are_below, numbers_ascend, set_back, with_all, all_from_none}

module _ (read : List ℕ → Option (ℕ × List ℕ)) (word : ℕ → List ℕ) (limit : ℕ) (exact : IsExact read (λ n. spaced (word n)) (λ n. n < limit)) where
  abbrev text : ℕ → List ℕ
  text n = spaced (word n)

  -- a number that was read, and then the others
  abbrev next : ℕ → ℕ → SetOfGaps → ℕ × List ℕ → Option (SetOfGaps × List ℕ)
  next n least found number = cond (nat_lt number.0 least) None (ascending_at read n (number.0 + 1) (set.insert found number.0) number.1)

  take_all : (n least : ℕ) (found : SetOfGaps) (bytes : List ℕ) (x : SetOfGaps × List ℕ) → ascending_at read n least found bytes ≡ Some x
      → (more : List ℕ) × (x.0 ≡ with_all found more) × (bytes ≡ texts_of text more ++ x.1) × Ascend limit least more
  unfolding ascending_at
  take_all zero least found bytes x e =
      let k = kept_out (begins_word bytes) (Some (found, bytes)) x e in
      let same = same_Some (found, bytes) x k.1 in
      ([], sym (ap (λ p. p.0) same), ap (λ p. p.1) same, tt)
  take_all (suc n) least found bytes x e =
      elim (by_test (begins_word bytes) (read bytes >>= next n least found) (Some (found, bytes)) (Some x) e) [
        | inl h ↦
            let u = bind_some (read bytes) (next n least found) x h.1 in
            let k = kept_out (nat_lt u.0.0 least) (ascending_at read n (u.0.0 + 1) (set.insert found u.0.0) u.0.1) x u.2 in
            let above : least ≤ u.0.0 = ltb-false _ _ k.0 in
            let one = exact.takes bytes u.0 u.1 in
            let others = take_all n (u.0.0 + 1) (set.insert found u.0.0) u.0.1 x k.1 in
            (u.0.0 ∷ others.0, others.1, one.0 ∙ ap (λ (w : List ℕ). text u.0.0 ++ w) others.2 ∙ sym (append_assoc (text u.0.0) (texts_of text others.0) x.1), (above, one.1, others.3))
        | inr h ↦
            let same = same_Some (found, bytes) x h.1 in
            ([], sym (ap (λ p. p.0) same), ap (λ p. p.1) same, tt)
      ]

  pub numbers_start : (ns : List ℕ) (rest : List ℕ) → Starts (texts_of text ns ++ 10 ∷ rest)
  numbers_start [] rest = refl
  numbers_start (n ∷ ns) rest = refl

  few : (least : ℕ) (ns : List ℕ) → least ≤ limit → Ascend limit least ns → length ns + least ≤ limit
  few least [] le up = omega arith
  few least (n ∷ ns) le up = omega (arith, up.0, up.1, few (n + 1) ns (omega (arith, up.1)) up.2)

  all_again : (n least : ℕ) (ns : List ℕ) (found : SetOfGaps) (rest : List ℕ) → Ascend limit least ns → length ns ≤ n → ascending_at read n least found (texts_of text ns ++ 10 ∷ rest) ≡ Some (with_all found ns, 10 ∷ rest)
  unfolding ascending_at
  all_again zero least [] found rest up fits = refl
  all_again zero least (m ∷ ns) found rest up fits = absurd (omega arith)
  all_again (suc n) least [] found rest up fits = refl
  all_again (suc n) least (m ∷ ns) found rest up fits =
      let here : read (text m ++ (texts_of text ns ++ 10 ∷ rest)) ≡ Some (m, texts_of text ns ++ 10 ∷ rest) = exact.again m (texts_of text ns ++ 10 ∷ rest) up.1 (numbers_start ns rest) in
      let whole : read ((text m ++ texts_of text ns) ++ 10 ∷ rest) ≡ Some (m, texts_of text ns ++ 10 ∷ rest) = ap read (append_assoc (text m) (texts_of text ns) (10 ∷ rest)) ∙ here in
      let above : nat_lt m least ≡ false = le-ltb _ _ up.0 in
      ap (λ o. o >>= next n least found) whole
      ∙ rw above (all_again n (m + 1) ns (set.insert found m) rest up.2 (omega arith))

  pub numbers_take : limit ≤ MAX_GAPS → (bytes : List ℕ) (x : SetOfGaps × List ℕ) → ascending_at read limit 0 set.empty bytes ≡ Some x
      → (bytes ≡ texts_of text (numbers_of_set x.0) ++ x.1) × IsBelow limit x.0
  numbers_take le bytes x e =
      let t = take_all limit 0 set.empty bytes x e in
      let is : x.0 ≡ set.from_list t.0 = t.1 ∙ all_from_none t.0 in
      let same : t.0 ≡ numbers_of_set x.0 = sym (numbers_back limit t.0 le t.3) ∙ ap numbers_of_set (sym is) in (
        t.2 ∙ ap (λ (ns : List ℕ). texts_of text ns ++ x.1) same,
        subst (IsBelow limit) (sym is) (ascending_are_below limit t.0 t.3),
      )

  pub numbers_again : limit ≤ MAX_GAPS → (s : SetOfGaps) (rest : List ℕ) → IsBelow limit s
      → ascending_at read limit 0 set.empty (texts_of text (numbers_of_set s) ++ 10 ∷ rest) ≡ Some (s, 10 ∷ rest)
  numbers_again le s rest low =
      let up : Ascend limit 0 (numbers_of_set s) = numbers_ascend limit s low in
      all_again limit 0 (numbers_of_set s) set.empty rest up (omega (arith, few 0 (numbers_of_set s) (omega arith) up))
      ∙ ap (done_with (10 ∷ rest)) (all_from_none (numbers_of_set s) ∙ set_back limit s le low)
