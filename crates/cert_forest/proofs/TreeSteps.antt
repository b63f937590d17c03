-- Nodes of trees, as the code reads them.
use Rattle.cert_forest.proofs.Vocabulary.{◌≡◌, ℕ, suc, ◌-◌, ◌<◌, List, [], Some, None, refl, ap, ◌∙◌, arith, Stop, Refused, OutOfMemory, Gap, Split, gap_trees_of, Fails, letter_at, repeat_at, stops_for_memory, AccessId, Source, NoCover, Head}
use Rattle.cert_forest.proofs.Vocabulary.{SourceHead, head_at, below_at, cover_at, split_at, gap_by, gap_at, ne_eqb, Rule, bound_at}

less : (d : ℕ) → 0 < d → d ≡ suc (d - 1)
less d lt = omega arith

-- ---- cover trees

pub cover_none : (d : ℕ) (bytes : List ℕ) → d ≡ 0 → cover_at d bytes ≡ None
unfolding cover_at
cover_none d bytes e = rw e refl

pub cover_node : (d : ℕ) (bytes : List ℕ) (h : Head) (rest : List ℕ) → 0 < d → head_at bytes ≡ Some (h, rest) → cover_at d bytes ≡ below_at (cover_at (d - 1)) h rest
unfolding cover_at
cover_node d bytes h rest lt e =
    let step : cover_at (suc (d - 1)) bytes ≡ below_at (cover_at (d - 1)) h rest = rw e refl in
    ap (λ (n : ℕ). cover_at n bytes) (less d lt) ∙ step

-- a read without a source is a whole tree
pub cover_leaf : (d : ℕ) (bytes rest : List ℕ) (read : AccessId) → 0 < d → head_at bytes ≡ Some (SourceHead read 0, rest) → cover_at d bytes ≡ Some (Source read NoCover, rest)
cover_leaf d bytes rest read lt e = cover_node d bytes (SourceHead read 0) rest lt e

pub cover_stops : (d : ℕ) (bytes : List ℕ) (stop : Stop) → 0 < d → Fails stops_for_memory stop (head_at bytes) → Fails stops_for_memory stop (cover_at d bytes)
unfolding cover_at
cover_stops d bytes OutOfMemory lt e = tt
cover_stops d bytes (Refused r) lt e =
    let step : cover_at (suc (d - 1)) bytes ≡ None = rw e refl in
    ap (λ (n : ℕ). cover_at n bytes) (less d lt) ∙ step

-- ---- gap trees

module _ (rule : Rule) where
  pub gap_none : (d : ℕ) (bytes : List ℕ) → d ≡ 0 → gap_at rule d bytes ≡ None
  unfolding gap_at
  gap_none d bytes e = rw e refl

  gap_node : (d : ℕ) (bytes : List ℕ) (l : ℕ) (rest : List ℕ) → 0 < d → letter_at bytes ≡ Some (l, rest) → gap_at rule d bytes ≡ gap_by rule (gap_at rule (d - 1)) l rest
  unfolding gap_at
  gap_node d bytes l rest lt e =
      let step : gap_at rule (suc (d - 1)) bytes ≡ gap_by rule (gap_at rule (d - 1)) l rest = rw e refl in
      ap (λ (n : ℕ). gap_at rule n bytes) (less d lt) ∙ step

  pub gap_no_letter : (d : ℕ) (bytes : List ℕ) → 0 < d → letter_at bytes ≡ None → gap_at rule d bytes ≡ None
  unfolding gap_at
  gap_no_letter d bytes lt e =
      let step : gap_at rule (suc (d - 1)) bytes ≡ None = rw e refl in
      ap (λ (n : ℕ). gap_at rule n bytes) (less d lt) ∙ step

  pub gap_no_split : (d : ℕ) (bytes : List ℕ) (l : ℕ) (rest : List ℕ) → 0 < d → letter_at bytes ≡ Some (l, rest) → l ≡ 80 → split_at rest ≡ None → gap_at rule d bytes ≡ None
  gap_no_split d bytes l rest lt e is none =
      let step : gap_by rule (gap_at rule (d - 1)) 80 rest ≡ None = rw none refl in
      gap_node d bytes l rest lt e ∙ ap (λ (k : ℕ). gap_by rule (gap_at rule (d - 1)) k rest) is ∙ step

  pub gap_no_children : (d : ℕ) (bytes : List ℕ) (l : ℕ) (rest : List ℕ) (run n : ℕ) (more : List ℕ) (stop : Stop) → 0 < d → letter_at bytes ≡ Some (l, rest) → l ≡ 80 → split_at rest ≡ Some ((run, n), more)
      → Fails stops_for_memory stop (repeat_at (gap_at rule (d - 1)) n [] more) → Fails stops_for_memory stop (gap_at rule d bytes)
  gap_no_children d bytes l rest run n more OutOfMemory lt e is so fails = tt
  gap_no_children d bytes l rest run n more (Refused r) lt e is so fails =
      let step : gap_by rule (gap_at rule (d - 1)) 80 rest ≡ None = rw (so, fails) refl in
      gap_node d bytes l rest lt e ∙ ap (λ (k : ℕ). gap_by rule (gap_at rule (d - 1)) k rest) is ∙ step

  pub gap_split : (d : ℕ) (bytes : List ℕ) (l : ℕ) (rest : List ℕ) (run n : ℕ) (more : List ℕ) (ts : List Gap) (end : List ℕ) → 0 < d → letter_at bytes ≡ Some (l, rest) → l ≡ 80 → split_at rest ≡ Some ((run, n), more)
      → repeat_at (gap_at rule (d - 1)) n [] more ≡ Some (ts, end) → gap_at rule d bytes ≡ Some (Split run (gap_trees_of ts), end)
  gap_split d bytes l rest run n more ts end lt e is so all =
      let step : gap_by rule (gap_at rule (d - 1)) 80 rest ≡ Some (Split run (gap_trees_of ts), end) = rw (so, all) refl in
      gap_node d bytes l rest lt e ∙ ap (λ (k : ℕ). gap_by rule (gap_at rule (d - 1)) k rest) is ∙ step

  -- a bound is what follows its letter
  gap_bound : (d : ℕ) (bytes : List ℕ) (l : ℕ) (rest : List ℕ) → 0 < d → letter_at bytes ≡ Some (l, rest) → l ≡ 66 → gap_at rule d bytes ≡ bound_at rule rest
  gap_bound d bytes l rest lt e is = gap_node d bytes l rest lt e ∙ ap (λ (k : ℕ). gap_by rule (gap_at rule (d - 1)) k rest) is

  pub bound_read : (d : ℕ) (bytes : List ℕ) (l : ℕ) (rest : List ℕ) (tree : Gap) (end : List ℕ) → 0 < d → letter_at bytes ≡ Some (l, rest) → l ≡ 66 → bound_at rule rest ≡ Some (tree, end) → gap_at rule d bytes ≡ Some (tree, end)
  bound_read d bytes l rest tree end lt e is so = gap_bound d bytes l rest lt e is ∙ so

  pub bound_stops : (d : ℕ) (bytes : List ℕ) (l : ℕ) (rest : List ℕ) (stop : Stop) → 0 < d → letter_at bytes ≡ Some (l, rest) → l ≡ 66 → Fails stops_for_memory stop (bound_at rule rest) → Fails stops_for_memory stop (gap_at rule d bytes)
  bound_stops d bytes l rest OutOfMemory lt e is fails = tt
  bound_stops d bytes l rest (Refused r) lt e is fails = gap_bound d bytes l rest lt e is ∙ fails

  pub gap_other : (d : ℕ) (bytes : List ℕ) (l : ℕ) (rest : List ℕ) → 0 < d → letter_at bytes ≡ Some (l, rest) → ¬ (l ≡ 80) → ¬ (l ≡ 66) → gap_at rule d bytes ≡ None
  gap_other d bytes l rest lt e one two =
      let step : gap_by rule (gap_at rule (d - 1)) l rest ≡ None = rw (ne_eqb l 80 one, ne_eqb l 66 two) refl in
      gap_node d bytes l rest lt e ∙ step
