-- Gap trees are read exactly.
use Rattle.cert_forest.proofs.Vocabulary.{◌≡◌, ℕ, zero, suc, ◌<◌, ◌≤◌, ◌==◌, ◌^◌, cond, List, [], ◌∷◌, ◌++◌, length, Some, None, refl, sym, ap, subst, ◌∙◌, append_assoc, arith, inl, inr, codes, eqb-true, MAX_COUNT, Gap, Split, Bound, GapTrees, gap_trees_of}
use Rattle.cert_forest.proofs.Vocabulary.{decimal, AllByRecursion, Rule, Whole, Early, AreBoundRuns, run_number_at, bound_runs_at, bound_at, gap_list, texts_of, spaced, count_gaps, gaps_depth, IsGapTo, ◌>>=◌, number_within_at, count_at, letter_at, repeat_at, split_at, gap_by, gap_at, bind_some, by_test, same_Some, Starts, IsExact, takes_two}
use Rattle.cert_forest.proofs.Vocabulary.{again_two, repeat_takes, repeat_again, starts_all, number_text, number_exact, below64, count_exact, letter_takes, letter_again, gaps_count}
use Rattle.cert_forest.proofs.TreeTexts.{gap_text, gaps_again, gaps_text, gaps_to, gaps_from, gap_deep, regroup, texts_map}

abbrev both : ℕ → ℕ → ℕ × ℕ
both run n = (run, n)

abbrev split_text : ℕ × ℕ → List ℕ
split_text node = number_text node.0 ++ number_text node.1

pub split_takes : (bytes : List ℕ) (x : (ℕ × ℕ) × List ℕ) → split_at bytes ≡ Some x → (bytes ≡ split_text x.0 ++ x.1) × (x.0.0 < 2 ^ 64) × (x.0.1 ≤ MAX_COUNT)
unfolding split_at
split_takes bytes x e =
    let t = takes_two (number_within_at 18446744073709551615) count_at number_text number_text (λ n. n ≤ 18446744073709551615) (λ n. n ≤ MAX_COUNT) (number_exact 18446744073709551615 below64) count_exact both bytes x e in
    let here : bytes ≡ split_text (both t.0 t.1) ++ x.1 = t.5 ∙ sym (append_assoc (number_text t.0) (number_text t.1) x.1) in
    let low : t.0 < 2 ^ 64 = omega (arith, t.2) in
    subst (λ (h : ℕ × ℕ). (bytes ≡ split_text h ++ x.1) × (h.0 < 2 ^ 64) × (h.1 ≤ MAX_COUNT)) t.4 (here, low, t.3)

split_again : (run n : ℕ) (rest : List ℕ) → run ≤ 18446744073709551615 → n ≤ MAX_COUNT → Starts rest → split_at ((number_text run ++ number_text n) ++ rest) ≡ Some ((run, n), rest)
unfolding split_at
split_again run n rest a b st =
    ap split_at (append_assoc (number_text run) (number_text n) rest)
    ∙ again_two (number_within_at 18446744073709551615) count_at number_text number_text (λ n. n ≤ 18446744073709551615) (λ n. n ≤ MAX_COUNT) (number_exact 18446744073709551615 below64) count_exact both run n rest a b st

abbrev pair : Gap → List ℕ → Gap × List ℕ
pair t rest = (t, rest)

-- ---- bounds

runs_low : (runs : List ℕ) → AllByRecursion (λ run. run ≤ 18446744073709551615) runs → AllByRecursion (λ run. run < 2 ^ 64) runs
runs_low [] all = tt
runs_low (run ∷ runs) all = (omega (arith, all.0), runs_low runs all.1)

runs_within : (runs : List ℕ) → AllByRecursion (λ run. run < 2 ^ 64) runs → AllByRecursion (λ run. run ≤ 18446744073709551615) runs
runs_within [] all = tt
runs_within (run ∷ runs) all = (omega (arith, all.0), runs_within runs all.1)

-- a bound's text after its letter
abbrev bound_text : Rule → List ℕ → List ℕ
bound_text Whole runs = []
bound_text Early runs = number_text (length runs) ++ texts_of number_text runs

bound_spelled : (rule : Rule) (runs : List ℕ) → gap_text rule (Bound runs) ≡ spaced (codes "B") ++ bound_text rule runs
bound_spelled Whole runs = refl
bound_spelled Early runs = ap (λ (w : List ℕ). spaced (codes "B") ++ (number_text (length runs) ++ w)) (texts_map decimal runs)

abbrev BoundTaken : Rule → List ℕ → Gap × List ℕ → Type 0
BoundTaken rule bytes x = (runs : List ℕ) × (x.0 ≡ Bound runs) × (bytes ≡ bound_text rule runs ++ x.1) × AreBoundRuns rule runs

bound_runs_take : (bytes : List ℕ) (x : List ℕ × List ℕ) → bound_runs_at bytes ≡ Some x → (bytes ≡ bound_text Early x.0 ++ x.1) × AreBoundRuns Early x.0
unfolding bound_runs_at
bound_runs_take bytes x e =
    let n = bind_some (count_at bytes) (λ n. repeat_at run_number_at n.0 [] n.1) x e in
    let one = count_exact.takes bytes n.0 n.1 in
    let exact = number_exact 18446744073709551615 below64 in
    let more = repeat_takes run_number_at number_text (λ run. run ≤ 18446744073709551615) exact.takes n.0.0 [] n.0.1 x n.2 in
    let len : n.0.0 ≡ length more.0 = sym more.3 in
    let here : bytes ≡ bound_text Early more.0 ++ x.1 =
    one.0 ∙ (λ i. number_text (len i) ++ more.2 i) ∙ sym (append_assoc (number_text (length more.0)) (texts_of number_text more.0) x.1) in
    let few : length more.0 ≤ MAX_COUNT = omega (arith, one.1, more.3) in
    subst (λ (runs : List ℕ). (bytes ≡ bound_text Early runs ++ x.1) × AreBoundRuns Early runs) (sym more.1) (here, (few, runs_low more.0 more.4))

bound_takes : (rule : Rule) (bytes : List ℕ) (x : Gap × List ℕ) → bound_at rule bytes ≡ Some x → BoundTaken rule bytes x
bound_takes Whole bytes x e = subst (BoundTaken Whole bytes) (same_Some (pair (Bound []) bytes) x e) ([], refl, refl, refl)
bound_takes Early bytes x e =
    let runs = bind_some (bound_runs_at bytes) (λ runs. Some (Bound runs.0, runs.1)) x e in
    let taken = bound_runs_take bytes runs.0 runs.1 in
    subst (BoundTaken Early bytes) (same_Some (pair (Bound runs.0.0) runs.0.1) x runs.2) (runs.0.0, refl, taken.0, taken.1)

runs_starts : (runs : List ℕ) (rest : List ℕ) → Starts rest → Starts (texts_of number_text runs ++ rest)
runs_starts [] rest st = st
runs_starts (run ∷ runs) rest st = refl

bound_runs_again : (runs rest : List ℕ) → AreBoundRuns Early runs → Starts rest → bound_runs_at (bound_text Early runs ++ rest) ≡ Some (runs, rest)
unfolding bound_runs_at
bound_runs_again runs rest fits st =
    let exact = number_exact 18446744073709551615 below64 in
    ap (λ w. count_at w >>= λ n. repeat_at run_number_at n.0 [] n.1) (append_assoc (number_text (length runs)) (texts_of number_text runs) rest)
    ∙ ap (λ o. o >>= λ n. repeat_at run_number_at n.0 [] n.1) (count_exact.again (length runs) (texts_of number_text runs ++ rest) fits.0 (runs_starts runs rest st))
    ∙ repeat_again run_number_at number_text (λ run. run ≤ 18446744073709551615) exact runs [] rest (runs_within runs fits.1) st

bound_after : (rule : Rule) (runs rest : List ℕ) → AreBoundRuns rule runs → Starts rest → bound_at rule (bound_text rule runs ++ rest) ≡ Some (Bound runs, rest)
bound_after Whole runs rest none st = ap (λ (rs : List ℕ). Some (Bound rs, rest)) (sym none)
bound_after Early runs rest fits st = ap (λ o. o >>= λ runs. Some (Bound runs.0, runs.1)) (bound_runs_again runs rest fits st)

bound_starts : (rule : Rule) (runs rest : List ℕ) → Starts rest → Starts (bound_text rule runs ++ rest)
bound_starts Whole runs rest st = st
bound_starts Early runs rest st = refl

-- ---- trees

module _ (rule : Rule) where
  split_node_text : (run : ℕ) (ts : List Gap) (rest : List ℕ) → (spaced (codes "P") ++ split_text (both run (length ts))) ++ (texts_of (gap_text rule) ts ++ rest) ≡ gap_text rule (Split run (gap_trees_of ts)) ++ rest
  split_node_text run ts rest =
      regroup (spaced (codes "P")) (number_text run) (number_text (length ts)) (texts_of (gap_text rule) ts) rest
      ∙ (λ i. (spaced (codes "P") ++ (number_text run ++ (number_text (sym (gaps_count ts) i) ++ sym (gaps_text rule ts) i))) ++ rest)

  -- what follows a letter
  by_takes : (d : ℕ) → ((bytes : List ℕ) (x : Gap × List ℕ) → gap_at rule d bytes ≡ Some x → (bytes ≡ gap_text rule x.0 ++ x.1) × IsGapTo rule d x.0)
      → (l : ℕ) (bytes : List ℕ) (x : Gap × List ℕ) → gap_by rule (gap_at rule d) l bytes ≡ Some x → (spaced (l ∷ []) ++ bytes ≡ gap_text rule x.0 ++ x.1) × IsGapTo rule (suc d) x.0
  by_takes d takes l bytes x e =
      elim (by_test (l == 80) (split_at bytes >>= λ node. repeat_at (gap_at rule d) node.0.1 [] node.1 >>= λ ts. Some (Split node.0.0 (gap_trees_of ts.0), ts.1)) (cond (l == 66) (bound_at rule bytes) None) (Some x) e) [
        | inl h ↦
            let first : l ≡ 80 = eqb-true _ _ h.0 in
            let node = bind_some (split_at bytes) (λ node. repeat_at (gap_at rule d) node.0.1 [] node.1 >>= λ ts. Some (Split node.0.0 (gap_trees_of ts.0), ts.1)) x h.1 in
            let u = bind_some (repeat_at (gap_at rule d) node.0.0.1 [] node.0.1) (λ ts. Some (Split node.0.0.0 (gap_trees_of ts.0), ts.1)) x node.2 in
            let s = split_takes bytes node.0 node.1 in
            let more = repeat_takes (gap_at rule d) (gap_text rule) (IsGapTo rule d) takes node.0.0.1 [] node.0.1 u.0 u.1 in
            let to = gaps_to rule d more.0 more.4 in
            let behind : bytes ≡ split_text (both node.0.0.0 (length more.0)) ++ (texts_of (gap_text rule) more.0 ++ u.0.1) = s.0 ∙ (λ i. split_text (both node.0.0.0 (sym more.3 i)) ++ more.2 i) in
            let text : spaced (l ∷ []) ++ bytes ≡ gap_text rule (Split node.0.0.0 (gap_trees_of more.0)) ++ u.0.1 = (λ i. spaced (first i ∷ []) ++ behind i) ∙ split_node_text node.0.0.0 more.0 u.0.1 in
            let deep : suc (gaps_depth (gap_trees_of more.0)) ≤ suc d = omega (arith, to.0) in
            let small : count_gaps (gap_trees_of more.0) ≤ MAX_COUNT = omega (arith, gaps_count more.0, more.3, s.2) in
            let made : pair (Split node.0.0.0 (gap_trees_of more.0)) u.0.1 ≡ x = ap (λ (ts : List Gap). pair (Split node.0.0.0 (gap_trees_of ts)) u.0.1) (sym more.1) ∙ same_Some (Split node.0.0.0 (gap_trees_of u.0.0), u.0.1) x u.2 in
            subst (λ (y : Gap × List ℕ). (spaced (l ∷ []) ++ bytes ≡ gap_text rule y.0 ++ y.1) × IsGapTo rule (suc d) y.0) made (text, (deep, (s.1, small, to.1)))
        | inr h ↦ elim (by_test (l == 66) (bound_at rule bytes) None (Some x) h.1) [
          | inl g ↦
              let first : l ≡ 66 = eqb-true _ _ g.0 in
              let (runs, is, taken, are) = bound_takes rule bytes x g.1 in
              let deep : 1 ≤ suc d = omega arith in
              let text : spaced (l ∷ []) ++ bytes ≡ gap_text rule (Bound runs) ++ x.1 =
              (λ i. spaced (first i ∷ []) ++ taken i) ∙ sym (append_assoc (spaced (codes "B")) (bound_text rule runs) x.1) ∙ ap (λ (w : List ℕ). w ++ x.1) (sym (bound_spelled rule runs)) in
              subst (λ (t : Gap). (spaced (l ∷ []) ++ bytes ≡ gap_text rule t ++ x.1) × IsGapTo rule (suc d) t) (sym is) (text, (deep, are))
          | inr g ↦ absurd (let q = g.1 in cc)
        ]
      ]

  gap_takes : (d : ℕ) (bytes : List ℕ) (x : Gap × List ℕ) → gap_at rule d bytes ≡ Some x → (bytes ≡ gap_text rule x.0 ++ x.1) × IsGapTo rule d x.0
  unfolding gap_at
  gap_takes zero bytes x e = absurd cc
  gap_takes (suc d) bytes x e =
      let a = bind_some (letter_at bytes) (λ l. gap_by rule (gap_at rule d) l.0 l.1) x e in
      let b = by_takes d (gap_takes d) a.0.0 a.0.1 x a.2 in
      (letter_takes bytes a.0 a.1 ∙ b.0, b.1)

  gap_starts : (t : Gap) (rest : List ℕ) → Starts (gap_text rule t ++ rest)
  gap_starts (Split run children) rest = refl
  gap_starts (Bound runs) rest = rw (bound_spelled rule runs) refl

  split_node : (d : ℕ) → IsExact (gap_at rule d) (gap_text rule) (IsGapTo rule d) → (run : ℕ) (ts : List Gap) (rest : List ℕ) → IsGapTo rule (suc d) (Split run (gap_trees_of ts)) → Starts rest
      → gap_at rule (suc d) (gap_text rule (Split run (gap_trees_of ts)) ++ rest) ≡ Some (Split run (gap_trees_of ts), rest)
  unfolding gap_at
  split_node d exact run ts rest fits st =
      let deep : gaps_depth (gap_trees_of ts) ≤ d = omega (arith, fits.0) in
      let few : length ts ≤ MAX_COUNT = omega (arith, gaps_count ts, fits.1.1) in
      let low : run ≤ 18446744073709551615 = omega (arith, fits.1.0) in
      let all = gaps_from rule d ts deep fits.1.2 in
      let after = starts_all (gap_text rule) (IsGapTo rule d) exact.starts ts rest all st in
      ap (gap_at rule (suc d)) (sym (split_node_text run ts rest))
      ∙ rw (letter_again 80 (split_text (both run (length ts)) ++ (texts_of (gap_text rule) ts ++ rest)) refl refl, split_again run (length ts) (texts_of (gap_text rule) ts ++ rest) low few after, repeat_again (gap_at rule d) (gap_text rule) (IsGapTo rule d) exact ts [] rest all st) refl

  bound_again : (d : ℕ) (runs rest : List ℕ) → AreBoundRuns rule runs → Starts rest → gap_at rule (suc d) (gap_text rule (Bound runs) ++ rest) ≡ Some (Bound runs, rest)
  unfolding gap_at
  bound_again d runs rest fits st =
      ap (λ (w : List ℕ). gap_at rule (suc d) (w ++ rest)) (bound_spelled rule runs)
      ∙ ap (λ o. o >>= λ l. gap_by rule (gap_at rule d) l.0 l.1) (letter_again 66 (bound_text rule runs ++ rest) refl (bound_starts rule runs rest st))
      ∙ bound_after rule runs rest fits st

  tree_again : (d : ℕ) → IsExact (gap_at rule d) (gap_text rule) (IsGapTo rule d) → (t : Gap) (rest : List ℕ) → IsGapTo rule (suc d) t → Starts rest → gap_at rule (suc d) (gap_text rule t ++ rest) ≡ Some (t, rest)
  tree_again d exact (Split run ts) rest fits st =
      subst (λ (f : GapTrees). IsGapTo rule (suc d) (Split run f) → gap_at rule (suc d) (gap_text rule (Split run f) ++ rest) ≡ Some (Split run f, rest)) (gaps_again ts) (λ h. split_node d exact run (gap_list ts) rest h st) fits
  tree_again d exact (Bound runs) rest fits st = bound_again d runs rest fits.1 st

  pub gap_exact : (d : ℕ) → IsExact (gap_at rule d) (gap_text rule) (IsGapTo rule d)
  gap_exact zero = record {
    takes = gap_takes zero;
    again = λ t rest fits st. absurd (omega (arith, fits.0, gap_deep t));
    starts = λ t rest fits st. gap_starts t rest;
  }
  gap_exact (suc d) = record {
    takes = gap_takes (suc d);
    again = λ t rest fits st. tree_again d (gap_exact d) t rest fits st;
    starts = λ t rest fits st. gap_starts t rest;
  }
