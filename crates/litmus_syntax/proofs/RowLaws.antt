-- What the readers of rows read is what the grammar says.
use Rattle.litmus_syntax.proofs.Vocabulary.{◌≡◌, ◌≢◌, ◌∙◌, ◌||◌, ◌+◌, suc, ℕ, codes, true, false, List, [], ◌∷◌, ◌++◌, length, refl, sym, ap, subst, inl, inr, arith, append_assoc, Option, Some, None, Result, Ok, Err, bytes_eq, or_cases, append-nil}
use Rattle.litmus_syntax.proofs.Vocabulary.{bytes_eq-Decides, Mark, Tok, Sign, mark_at, begins_with, rest_of, Mnemonic, opens_condition, is_label, mnemonic_of, CodeView, CellView, mark, Items, end, item, SyntaxFault, Refused, OutOfMemory, mark_takes}
use Rattle.litmus_syntax.proofs.Vocabulary.{begins_takes, same_mark_is, IsLabelMark, ends_cell, IsContent, IsCell, IsNextCell, IsCells, IsRow, IsRowList, ends_rows, before_ending, cell_labels, labels_from, row_labels, labels_in_rows, ReadsNone, Reads}
use Rattle.text_tokens.specs.declared.token.Mark.TheVariants as the
use Rattle.text_tokens.specs.Marks.{same_mark}
use Rattle.litmus_syntax.proofs.{Options.not_first, Options.not_taken, ItemLaws.Only, ItemLaws.SoFar, ItemLaws.none_yet, ItemLaws.one_more, ItemLaws.closed, ItemLaws.refused}
use Rattle.litmus_syntax.proofs.CodeLaws.{mnemonic_for, code_begins}

-- ---- `|` and a cell

pub next_cell : (ts us : List Tok) (c : CellView) (rest : List Tok) → mark_at the.Bar ts ≡ Some us → Only IsCell c us rest → Only IsNextCell c ts rest
next_cell ts us c rest e h =
    let bar = mark_takes the.Bar ts us e in
    ((us, bar, h.0), λ d other g. h.1 d other (subst (λ (z : List Tok). IsCell d z other) (ap rest_of (sym g.1 ∙ bar)) g.2))

pub no_cell_behind : (ts us : List Tok) (f : SyntaxFault) → mark_at the.Bar ts ≡ Some us → ReadsNone IsCell f us → ReadsNone IsNextCell f ts
no_cell_behind ts us OutOfMemory e none = tt
no_cell_behind ts us (Refused r) e none = λ c rest g. none c rest (subst (λ (z : List Tok). IsCell c z rest) (ap rest_of (sym g.1 ∙ mark_takes the.Bar ts us e)) g.2)

pub cell_behind : {X : Type 0} (view : X → CellView) (after : X → List Tok) (r : Result X SyntaxFault) (ts us : List Tok) → mark_at the.Bar ts ≡ Some us → Reads IsCell view after r us → Reads IsNextCell view after r ts
cell_behind view after (Ok x) ts us e h = next_cell ts us (view x) (after x) e h
cell_behind view after (Err f) ts us e h = no_cell_behind ts us f e h

-- ---- a row

-- the cells of a row so far
abbrev pub CellsSoFar : List Tok → List CellView → List Tok → Type 0
CellsSoFar ts cs rest = SoFar IsNextCell (mark the.Semicolon) (λ ds last. IsCells ds ts last) cs rest

first_back : (c : CellView) (ts rest : List Tok) → Only IsCell c ts rest → (ds : List CellView) (last : List Tok) → IsCells ds ts last
    → (es : List CellView) × (ds ≡ c ∷ es) × Items IsNextCell (mark the.Semicolon) es rest last
first_back c ts rest h [] last a = absurd a
first_back c ts rest h (d ∷ ds) last a =
    let same = h.1 d a.0 a.1 in
    (ds, ap (λ (z : CellView). z ∷ ds) same.0, subst (λ (o : List Tok). Items IsNextCell (mark the.Semicolon) ds o last) same.1 a.2)

pub first_cell : (c : CellView) (ts rest : List Tok) → Only IsCell c ts rest → CellsSoFar ts (c ∷ []) rest
first_cell c ts rest h = record { forth = λ ds last a. (rest, h.0, a); back = first_back c ts rest h }

-- no row begins where no cell does
no_cells : (ts : List Tok) → ((c : CellView) (rest : List Tok) → IsCell c ts rest → ⊥) → (ds : List CellView) (last : List Tok) → IsCells ds ts last → ⊥
no_cells ts none [] last a = a
no_cells ts none (d ∷ ds) last a = none d a.0 a.1

pub no_first_cell : (ts : List Tok) (threads : ℕ) (f : SyntaxFault) → ReadsNone IsCell f ts → ReadsNone (IsRow threads) f ts
no_first_cell ts threads OutOfMemory none = tt
no_first_cell ts threads (Refused r) none = λ cs rest h. no_cells ts none cs rest h.1

-- before `|` no row ends
row_goes_on : (ts : List Tok) → begins_with the.Bar ts ≡ true → (last : List Tok) → mark the.Semicolon ts last → ⊥
row_goes_on ts e last h = let bad = sym (begins_takes the.Bar ts e) ∙ h in cc

no_next_cell : (ts : List Tok) → begins_with the.Bar ts ≡ false → (c : CellView) (rest : List Tok) → IsNextCell c ts rest → ⊥
no_next_cell ts e c rest h = not_first the.Bar ts e h.0 h.1

pub next_read : (ts : List Tok) (cs : List CellView) (rest : List Tok) (c : CellView) (others : List Tok) → CellsSoFar ts cs rest → begins_with the.Bar rest ≡ true → Only IsNextCell c rest others
    → CellsSoFar ts (cs ++ c ∷ []) others
next_read ts cs rest c others s e only = one_more IsNextCell (mark the.Semicolon) (λ ds last. IsCells ds ts last) cs rest c others s (row_goes_on rest e) only

pub no_next_read : (ts : List Tok) (cs : List CellView) (rest : List Tok) (threads : ℕ) (f : SyntaxFault) → CellsSoFar ts cs rest → begins_with the.Bar rest ≡ true → ReadsNone IsNextCell f rest → ReadsNone (IsRow threads) f ts
no_next_read ts cs rest threads OutOfMemory s e none = tt
no_next_read ts cs rest threads (Refused r) s e none = λ ds last h. refused IsNextCell (mark the.Semicolon) (λ es o. IsCells es ts o) cs rest s (row_goes_on rest e) none ds last h.1

-- the row ends
pub row_ends : (ts : List Tok) (cs : List CellView) (rest last : List Tok) (threads : ℕ) → CellsSoFar ts cs rest → begins_with the.Bar rest ≡ false → length cs ≡ threads → mark_at the.Semicolon rest ≡ Some last
    → Only (IsRow threads) cs ts last
row_ends ts cs rest last threads s e long is =
    let h = mark_takes the.Semicolon rest last is in
    let d = closed IsNextCell (mark the.Semicolon) (λ ds o. IsCells ds ts o) cs rest last s h (λ other g. ap rest_of (sym g ∙ h)) (no_next_cell rest e) in
    ((long, d.0), λ ds other a. d.1 ds other a.1)

-- it neither goes on nor ends
pub row_stops : (ts : List Tok) (cs : List CellView) (rest : List Tok) (threads : ℕ) → CellsSoFar ts cs rest → begins_with the.Bar rest ≡ false → mark_at the.Semicolon rest ≡ None
    → (ds : List CellView) (last : List Tok) → IsRow threads ds ts last → ⊥
row_stops ts cs rest threads s e none ds last a =
    refused IsNextCell (mark the.Semicolon) (λ es o. IsCells es ts o) cs rest s (not_taken the.Semicolon rest none) (no_next_cell rest e) ds last a.1

only_end : (ts : List Tok) → begins_with the.Bar ts ≡ false → (es : List CellView) (last : List Tok) → Items IsNextCell (mark the.Semicolon) es ts last → es ≡ []
only_end ts e es last (end g) = refl
only_end ts e es last (item {x = x} {others = others} h l) = absurd (no_next_cell ts e x others h)

-- its number of cells is another
pub row_of_another_length : (ts : List Tok) (cs : List CellView) (rest : List Tok) (threads : ℕ) → CellsSoFar ts cs rest → begins_with the.Bar rest ≡ false → length cs ≢ threads
    → (ds : List CellView) (last : List Tok) → IsRow threads ds ts last → ⊥
row_of_another_length ts cs rest threads s e other ds last a =
    let b = s.back ds last a.1 in
    let none : b.0 ≡ [] = only_end rest e b.0 last b.2 in
    let same : ds ≡ cs = b.1 ∙ ap (λ (z : List CellView). cs ++ z) none ∙ append-nil cs in
    other (ap length (sym same) ∙ a.0)

-- ---- the rows

no_mnemonic : (w v : List ℕ) (m : Mnemonic) → w ≡ v → mnemonic_of v ≡ None → mnemonic_of w ≡ Some m → ⊥
no_mnemonic w v m e none h = let bad = sym h ∙ ap mnemonic_of e ∙ none in cc

-- the words of the part after the rows are no mnemonics
apart_words : (w : List ℕ) (m : Mnemonic) → opens_condition w ≡ true → mnemonic_of w ≡ Some m → ⊥
unfolding opens_condition mnemonic_of
apart_words w m e h =
    elim (or_cases (bytes_eq w (codes "locations") || bytes_eq w (codes "exists") || bytes_eq w (codes "forall")) (bytes_eq w (codes "filter")) e) [
      | inl f ↦ elim (or_cases (bytes_eq w (codes "locations") || bytes_eq w (codes "exists")) (bytes_eq w (codes "forall")) f) [
        | inl g ↦ elim (or_cases (bytes_eq w (codes "locations")) (bytes_eq w (codes "exists")) g) [
          | inl i ↦ no_mnemonic w (codes "locations") m ((bytes_eq-Decides w (codes "locations")).0 i) refl h
          | inr i ↦ no_mnemonic w (codes "exists") m ((bytes_eq-Decides w (codes "exists")).0 i) refl h
        ]
        | inr g ↦ no_mnemonic w (codes "forall") m ((bytes_eq-Decides w (codes "forall")).0 g) refl h
      ]
      | inr f ↦ no_mnemonic w (codes "filter") m ((bytes_eq-Decides w (codes "filter")).0 f) refl h
    ]

-- nor are they labels
label_apart : (l : List ℕ) → is_label l ≡ true → opens_condition l ≡ true → ⊥
unfolding is_label
label_apart l h e = let bad : false ≡ true = rw e at h in cc

-- no cell begins where the rows end
no_empty_cell : (ts : List Tok) → ends_rows ts ≡ true → ends_cell ts ≡ true → ⊥
no_empty_cell (Sign m ∷ ts) e h = let bad = sym (ap (λ (k : Mark). same_mark k the.Bar || same_mark k the.Semicolon) (same_mark_is m the.Tilde e)) ∙ h in cc
no_empty_cell ts e h = cc

no_content : (c : Option CodeView) (ts rest : List Tok) → ends_rows ts ≡ true → IsContent c ts rest → ⊥
no_content None ts rest e h = no_empty_cell ts e (ap ends_cell h.0 ∙ h.1)
no_content (Some c) ts rest e h =
    let b = code_begins c ts rest h.0 h.1 in
    apart_words b.mnemonic (mnemonic_for c) (sym (ap ends_rows b.begins) ∙ e) b.is_one

no_labelled : (ts : List Tok) → ends_rows ts ≡ true → (c : Option CodeView) (ls : List (List ℕ)) (rest : List Tok) → Items IsLabelMark (IsContent c) ls ts rest → ⊥
no_labelled ts e c ls rest (end h) = no_content c ts rest e h
no_labelled ts e c ls rest (item {x = l} h i) = label_apart l h.0 (sym (ap ends_rows h.1.1) ∙ e)

no_row : (ts : List Tok) (threads : ℕ) → ends_rows ts ≡ true → (cs : List CellView) (rest : List Tok) → IsRow threads cs ts rest → ⊥
no_row ts threads e cs rest h = no_cells ts (λ c us g. no_labelled ts e c.code c.labels us g) cs rest h.1

more_rows : (ts : List Tok) → ends_rows ts ≡ false → (last : List Tok) → before_ending ts last → ⊥
more_rows ts e last h = let bad = sym e ∙ h.1 in cc

-- the rows so far
abbrev pub RowsSoFar : ℕ → List Tok → List (List CellView) → List Tok → Type 0
RowsSoFar threads ts rows rest = SoFar (IsRow threads) before_ending (λ rs last. IsRowList threads rs ts last) rows rest

pub next_row : (threads : ℕ) (ts : List Tok) (rows : List (List CellView)) (rest : List Tok) (row : List CellView) (others : List Tok) → RowsSoFar threads ts rows rest → ends_rows rest ≡ false
    → Only (IsRow threads) row rest others → RowsSoFar threads ts (rows ++ row ∷ []) others
next_row threads ts rows rest row others s e only = one_more (IsRow threads) before_ending (λ rs last. IsRowList threads rs ts last) rows rest row others s (more_rows rest e) only

pub no_row_yet : (threads : ℕ) (ts : List Tok) → RowsSoFar threads ts [] ts
no_row_yet threads ts = none_yet (IsRow threads) before_ending ts

pub rows_end : (threads : ℕ) (ts : List Tok) (rows : List (List CellView)) (rest : List Tok) → RowsSoFar threads ts rows rest → ends_rows rest ≡ true → Only (IsRowList threads) rows ts rest
rows_end threads ts rows rest s e =
    closed (IsRow threads) before_ending (λ rs last. IsRowList threads rs ts last) rows rest rest s (refl, e) (λ other h. sym h.0) (no_row rest threads e)

pub rows_stop : (threads : ℕ) (ts : List Tok) (rows : List (List CellView)) (rest : List Tok) (f : SyntaxFault) → RowsSoFar threads ts rows rest → ends_rows rest ≡ false → ReadsNone (IsRow threads) f rest
    → ReadsNone (IsRowList threads) f ts
rows_stop threads ts rows rest OutOfMemory s e none = tt
rows_stop threads ts rows rest (Refused r) s e none = refused (IsRow threads) before_ending (λ rs last. IsRowList threads rs ts last) rows rest s (more_rows rest e) none

-- ---- labels

labels_pushed : (t : ℕ) (cs : List CellView) (c : CellView) → labels_from t (cs ++ c ∷ []) ≡ labels_from t cs ++ cell_labels (t + length cs) c
labels_pushed t [] c = let at : t ≡ t + 0 = omega arith in append-nil (cell_labels t c) ∙ ap (λ (k : ℕ). cell_labels k c) at
labels_pushed t (d ∷ cs) c =
    let at : t + 1 + length cs ≡ t + suc (length cs) = omega arith in
    ap (λ (z : List (ℕ × List ℕ)). cell_labels t d ++ z) (labels_pushed (t + 1) cs c ∙ ap (λ (k : ℕ). labels_from (t + 1) cs ++ cell_labels k c) at)
    ∙ sym (append_assoc (cell_labels t d) (labels_from (t + 1) cs) (cell_labels (t + suc (length cs)) c))

row_pushed : (cs : List CellView) (c : CellView) → row_labels (cs ++ c ∷ []) ≡ row_labels cs ++ cell_labels (length cs) c
row_pushed cs c = let at : 0 + length cs ≡ length cs = omega arith in labels_pushed 0 cs c ∙ ap (λ (k : ℕ). row_labels cs ++ cell_labels k c) at

-- the labels of a row with one more cell
pub one_more_cell : (old ls new : List (ℕ × List ℕ)) (cs : List CellView) (c : CellView) (n : ℕ) → ls ≡ old ++ row_labels cs → n ≡ length cs → new ≡ ls ++ cell_labels n c → new ≡ old ++ row_labels (cs ++ c ∷ [])
one_more_cell old ls new cs c n e len is =
    is ∙ ap (λ (k : ℕ). ls ++ cell_labels k c) len ∙ ap (λ (z : List (ℕ × List ℕ)). z ++ cell_labels (length cs) c) e ∙ append_assoc old (row_labels cs) (cell_labels (length cs) c)
    ∙ ap (λ (z : List (ℕ × List ℕ)). old ++ z) (sym (row_pushed cs c))

pub one_cell : (old new : List (ℕ × List ℕ)) (c : CellView) → new ≡ old ++ cell_labels 0 c → new ≡ old ++ row_labels (c ∷ [])
one_cell old new c e = e ∙ ap (λ (z : List (ℕ × List ℕ)). old ++ z) (sym (append-nil (cell_labels 0 c)))

rows_pushed : (rows : List (List CellView)) (row : List CellView) → labels_in_rows (rows ++ row ∷ []) ≡ labels_in_rows rows ++ row_labels row
rows_pushed [] row = append-nil (row_labels row)
rows_pushed (r ∷ rows) row = ap (λ (z : List (ℕ × List ℕ)). row_labels r ++ z) (rows_pushed rows row) ∙ sym (append_assoc (row_labels r) (labels_in_rows rows) (row_labels row))

pub no_labels_yet : (old : List (ℕ × List ℕ)) → old ≡ old ++ labels_in_rows []
no_labels_yet old = sym (append-nil old)

-- the labels of rows with one more
pub one_more_row : (old ls new : List (ℕ × List ℕ)) (rows : List (List CellView)) (row : List CellView) → ls ≡ old ++ labels_in_rows rows → new ≡ ls ++ row_labels row → new ≡ old ++ labels_in_rows (rows ++ row ∷ [])
one_more_row old ls new rows row e is =
    is ∙ ap (λ (z : List (ℕ × List ℕ)). z ++ row_labels row) e ∙ append_assoc old (labels_in_rows rows) (row_labels row) ∙ ap (λ (z : List (ℕ × List ℕ)). old ++ z) (sym (rows_pushed rows row))
