-- The labels of the canonical rows are the labels.
use Rattle.litmus_text.proofs.Vocabulary.{◌≡◌, ℕ, ◌+◌, ◌<◌, ◌≤◌, zero, suc, Bool, true, false, List, [], ◌∷◌, ◌++◌, length, map, Option, refl, sym, ap, ◌∙◌, subst, inl, inr, arith, slice_get, nat_lt, option_map, if◌then◌else◌, AllByRecursion, flat_map}
use Rattle.litmus_text.proofs.Vocabulary.{cons_option, range_with_len, option_map_or, cases_lt, slice_get-get_or, Instr, Thread, code_of, place_of, rises, CodeView, CellView, CodeLabel, column, size, labels_behind, thread_labels, label_names_at, own_labels}
use Rattle.litmus_text.proofs.Vocabulary.{moved_label, code_named, cell_of, row_of, most_cells, rows_of, IsLabelName, IsPrintableCell, IsPrintableRow}
use Rattle.tso_program.specs.declared.instruction.Instr.TheVariants as instr
use Rattle.litmus_reader.specs.Meaning as meaning
use Rattle.litmus_reader.proofs.Positions.{code_count}
use Rattle.litmus_text.proofs.LabelsNamed.{AreGoodLabels, Ascending, ascending_from, Before, none_at_end, before_more, none_past, standing, all_standing}
use Rattle.litmus_text.proofs.{ToldCode.within_most, NamedPlaces.Named, Lists.made_at, Lists.all_of_both, Lists.all_mapped, Lists.all_more_so, Lists.all_at, Lists.all_with}

-- ---- of a text

-- how many instructions cells have
abbrev instructions : List CellView → ℕ
instructions [] = 0
instructions (c ∷ cs) = size c + instructions cs

named_ascending : (k n : ℕ) (names : List (List ℕ)) (rest : List CodeLabel) → k ≤ n → Ascending k n rest → Ascending k n (map (λ l. record { name = l; position = k }) names ++ rest)
named_ascending k n [] rest le h = h
named_ascending k n (l ∷ names) rest le h = let itself : k ≤ k = omega arith in (itself, le, named_ascending k n names rest le h)

behind_ascending : (k : ℕ) (cs : List CellView) → Ascending k (k + instructions cs) (labels_behind k cs)
behind_ascending k [] = tt
behind_ascending k (c ∷ cs) =
    let same : (k + size c) + instructions cs ≡ k + (size c + instructions cs) = omega arith in
    let rest : Ascending (k + size c) (k + (size c + instructions cs)) (labels_behind (k + size c) cs) =
    subst (λ (n : ℕ). Ascending (k + size c) n (labels_behind (k + size c) cs)) same (behind_ascending (k + size c) cs) in
    named_ascending k (k + (size c + instructions cs)) c.labels (labels_behind (k + size c) cs) (omega arith)
    (ascending_from k (k + size c) (k + (size c + instructions cs)) (labels_behind (k + size c) cs) (omega arith) rest)

-- a thread's labels stand in order, up to its end
pub thread_ascending : (numbered positioned : List ℕ → ℕ) (rows : List (List CellView)) (t : ℕ) → Ascending 0 (length (meaning.code_in numbered positioned rows t)) (thread_labels rows t)
thread_ascending numbered positioned rows t =
    let same : 0 + instructions (column rows t) ≡ length (meaning.code_in numbered positioned rows t) = omega (arith, code_count numbered positioned rows t) in
    subst (λ (n : ℕ). Ascending 0 n (thread_labels rows t)) same (behind_ascending 0 (column rows t))

-- so do they where their fences are
pub moved_ascending : (gap : ℕ → Bool) (k n : ℕ) (labels : List CodeLabel) → Ascending k n labels → Ascending (place_of gap k) (place_of gap n) (map (moved_label gap) labels)
moved_ascending gap k n [] h = tt
moved_ascending gap k n (l ∷ labels) h = (rises gap k l.position h.0, rises gap l.position n h.1, moved_ascending gap l.position n labels h.2)

pub behind_good : (k : ℕ) (cs : List CellView) → AllByRecursion IsPrintableCell cs → AreGoodLabels (labels_behind k cs)
behind_good k [] h = tt
behind_good k (c ∷ cs) h =
    all_of_both (λ (l : CodeLabel). IsLabelName l.name) (map (λ l. record { name = l; position = k }) c.labels) (labels_behind (k + size c) cs) (all_mapped IsLabelName (λ (l : CodeLabel). IsLabelName l.name) (λ l. record { name = l; position = k }) (λ l good. good) c.labels h.0.0) (behind_good (k + size c) cs h.1)

pub column_printable : (threads : ℕ) (rows : List (List CellView)) (t : ℕ) → AllByRecursion (IsPrintableRow threads) rows → AllByRecursion IsPrintableCell (column rows t)
column_printable threads [] t h = tt
column_printable threads (row ∷ rows) t h = all_with IsPrintableCell (slice_get row t) (column rows t) (all_at IsPrintableCell row t h.0.1) (column_printable threads rows t h.1)

-- ---- of the canonical rows

module _ (labels : List CodeLabel) (code : List Instr) (named : Instr → CodeView) (order : Ascending 0 (length code) labels) where
  -- row k's cell of a thread with these labels and this code
  abbrev pub cell : ℕ → CellView
  cell k = record { labels = label_names_at labels k; code = option_map named (slice_get code k) }

  nothing_behind : (j a m : ℕ) → length code < a → labels_behind j (map cell (range_with_len a m)) ≡ []
  nothing_behind j a zero lt = refl
  nothing_behind j a (suc m) lt =
      ap (λ (ns : List (List ℕ)). map (λ (l : List ℕ). record { name = l; position = j }) ns ++ labels_behind (j + size (cell a)) (map cell (range_with_len (a + 1) m))) (none_past 0 (length code) a labels order lt)
      ∙ nothing_behind (j + size (cell a)) (a + 1) m (omega (arith, lt))

  nothing_standing : (a m : ℕ) → length code < a → flat_map (standing labels) (range_with_len a m) ≡ []
  nothing_standing a zero lt = refl
  nothing_standing a (suc m) lt =
      ap (λ (ns : List (List ℕ)). map (λ (l : List ℕ). record { name = l; position = a }) ns ++ flat_map (standing labels) (range_with_len (a + 1) m)) (none_past 0 (length code) a labels order lt)
      ∙ nothing_standing (a + 1) m (omega (arith, lt))

  behind_standing : (a m : ℕ) → a ≤ length code → labels_behind a (map cell (range_with_len a m)) ≡ flat_map (standing labels) (range_with_len a m)
  behind_standing a zero le = refl
  behind_standing a (suc m) le =
      let rest : List CellView = map cell (range_with_len (a + 1) m) in
      elim (cases_lt a (length code)) [
        | inl lt ↦
            ap (λ (n : ℕ). standing labels a ++ labels_behind (a + n) rest) (ap (λ (o : Option Instr). option_map_or (λ c. 1) (option_map named o) 0) (slice_get-get_or code a instr.Fence lt))
            ∙ ap (λ (ls : List CodeLabel). standing labels a ++ ls) (behind_standing (a + 1) m (omega (arith, lt)))
        | inr past ↦
            let behind : length code < a + 1 = omega (arith, past, le) in
            ap (λ (ls : List CodeLabel). standing labels a ++ ls) (nothing_behind (a + size (cell a)) (a + 1) m behind ∙ sym (nothing_standing (a + 1) m behind))
      ]

enough : (labels : List CodeLabel) (n m : ℕ) (b : Bool) → nat_lt 0 (length (label_names_at labels n)) ≡ b → Ascending 0 n labels → n + (if b then 1 else 0) ≤ m → Before m labels
enough labels n m true e order le = before_more 0 n m labels order (omega (arith, le))
enough labels n m false e order le = all_more_so (λ l. l.position < n) (λ l. l.position < m) (λ l h. omega (arith, h, le)) labels (none_at_end 0 n labels order e)

module _ (names : List (List ℕ)) (labels : List (List CodeLabel)) (threads : List Thread) (t : ℕ) (lt : t < length threads) where
  abbrev thread_cell : ℕ → CellView
  thread_cell k = cell_of names labels threads k t

  column_made : (a m : ℕ) → column (map (row_of names labels threads) (range_with_len a m)) t ≡ map thread_cell (range_with_len a m)
  column_made a zero = refl
  column_made a (suc m) =
      ap (λ (o : Option CellView). cons_option o (column (map (row_of names labels threads) (range_with_len (a + 1) m)) t)) (made_at (cell_of names labels threads a) (length threads) t lt)
      ∙ ap (λ (cs : List CellView). thread_cell a ∷ cs) (column_made (a + 1) m)

  -- the labels of thread t in the canonical rows
  pub labels_again : (named : Named) → Ascending 0 (length (code_of threads t)) (own_labels labels t) → thread_labels (rows_of names labels threads) t ≡ own_labels labels t
  labels_again named order =
      let own : List CodeLabel = own_labels labels t in
      let code : List Instr = code_of threads t in
      let most : ℕ = most_cells labels 0 threads in
      ap (labels_behind 0) (column_made 0 most)
      ∙ behind_standing own code (code_named names own) order 0 most (omega arith)
      ∙ all_standing own 0 (length code) most order (enough own (length code) most (nat_lt 0 (length (label_names_at own (length code)))) refl order (within_most names named labels threads t lt))
