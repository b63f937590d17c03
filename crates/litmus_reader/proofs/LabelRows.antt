-- Labels of a thread, one row after another.
use Rattle.litmus_reader.proofs.Vocabulary.{◌≡◌, ℕ, ◌+◌, ◌<◌, List, ◌++◌, length, drop, get_or, map, Option, Some, None, sym, ap, ◌∙◌, append_assoc, at_drop_more, slice_get, cons_option, Vec, Cell, CellView, row_view, CodeLabel, column, size, labels_behind}

-- the labels of the rows from the i-th on, behind k instructions
abbrev pub behind : List (Vec Cell) → ℕ → ℕ → ℕ → List CodeLabel
behind rows t k i = labels_behind k (column (map row_view (drop i rows)) t)

row_is : (rows : List (Vec Cell)) (i t k : ℕ) (d : Vec Cell) (o : Option CellView) → i < length rows → slice_get (row_view (get_or rows i d)) t ≡ o
    → behind rows t k i ≡ labels_behind k (cons_option o (column (map row_view (drop (i + 1) rows)) t))
row_is rows i t k d o lt is =
    at_drop_more (λ (rs : List (Vec Cell)). labels_behind k (column (map row_view rs) t)) rows i d lt
    ∙ ap (λ (o : Option CellView). labels_behind k (cons_option o (column (map row_view (drop (i + 1) rows)) t))) is

-- a row with a cell of the thread
pub one_cell : (rows : List (Vec Cell)) (i t k : ℕ) (d : Vec Cell) (c : CellView) (before : List CodeLabel) → i < length rows → slice_get (row_view (get_or rows i d)) t ≡ Some c
    → (before ++ map (λ l. record { name = l; position = k }) c.labels) ++ behind rows t (k + size c) (i + 1) ≡ before ++ behind rows t k i
one_cell rows i t k d c before lt is =
    append_assoc before (map (λ l. record { name = l; position = k }) c.labels) (behind rows t (k + size c) (i + 1))
    ∙ ap (λ (ls : List CodeLabel). before ++ ls) (sym (row_is rows i t k d (Some c) lt is))

-- a row without one
pub no_cell : (rows : List (Vec Cell)) (i t k : ℕ) (d : Vec Cell) (before : List CodeLabel) → i < length rows → slice_get (row_view (get_or rows i d)) t ≡ None
    → before ++ behind rows t k (i + 1) ≡ before ++ behind rows t k i
no_cell rows i t k d before lt is = ap (λ (ls : List CodeLabel). before ++ ls) (sym (row_is rows i t k d None lt is))
