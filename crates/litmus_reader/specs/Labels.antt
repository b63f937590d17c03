-- Labels: where they stand, and which of them jumps name.
use Rattle.std.specs.Prelude.{◌≡◌, ◌+◌, ◌&&◌, ℕ, Bool, true, List, [], ◌∷◌, ◌++◌, map, Option, Some, None, option_and_then, is_some, slice_get, slice_index_or}
use Rattle.std.specs.List.{filter_map, find, list_all, range_with_len}
use Rattle.std.specs.Option.{option_map_or}
use Rattle.std.specs.Str.{bytes_eq}
use Rattle.litmus_syntax.specs.Views.{CodeView, Je, Jne, Jmp, CellView, BodyView}
use Rattle.litmus_reader.specs.declared.label.CodeLabel.{CodeLabel}

-- ---- where labels stand

-- thread t's cells, from top to bottom
abbrev pub column : List (List CellView) → ℕ → List CellView
column rows t = filter_map (λ row. slice_get row t) rows

-- how many instructions a cell has
abbrev pub size : CellView → ℕ
size c = option_map_or (λ code. 1) c.code 0

-- the labels of cells, behind k instructions: each stands at the next instruction, or at the end
abbrev pub labels_behind : ℕ → List CellView → List CodeLabel
labels_behind k [] = []
labels_behind k (c ∷ cs) = map (λ l. record { name = l; position = k }) c.labels ++ labels_behind (k + size c) cs

-- thread t's labels, in text order
abbrev pub thread_labels : List (List CellView) → ℕ → List CodeLabel
thread_labels rows t = labels_behind 0 (column rows t)

-- each thread's labels
abbrev pub all_labels : BodyView → List (List CodeLabel)
all_labels body = map (thread_labels body.rows) (range_with_len 0 body.threads)

-- the label with this name
abbrev pub label_in : List CodeLabel → List ℕ → Option CodeLabel
label_in labels name = find (λ l. bytes_eq l.name name) labels

-- the position of the label with this name; 0 if no label has it
abbrev pub position_in : List CodeLabel → List ℕ → ℕ
position_in labels name = option_map_or (λ l. l.position) (label_in labels name) 0

-- ---- which of them jumps name

-- the label to which an instruction jumps
abbrev pub jump_of : CodeView → Option (List ℕ)
jump_of (Je l) = Some l
jump_of (Jne l) = Some l
jump_of (Jmp l) = Some l
jump_of _ = None

-- the label to which a cell's instruction jumps
abbrev pub cell_jump : CellView → Option (List ℕ)
cell_jump c = option_and_then jump_of c.code

-- whether the cell jumps nowhere or to one of these labels
abbrev pub is_found : List CodeLabel → CellView → Bool
is_found labels c = option_map_or (λ l. is_some (label_in labels l)) (cell_jump c) true

-- whether each cell jumps nowhere or to one of its thread's labels: the first cell is thread t's
abbrev pub are_found : List (List CodeLabel) → ℕ → List CellView → Bool
are_found labels t [] = true
are_found labels t (c ∷ cs) = is_found (slice_index_or labels t []) c && are_found labels (t + 1) cs

-- each jump is to a label of its thread
abbrev pub JumpsAreFound : BodyView → Type 0
JumpsAreFound body = list_all (are_found (all_labels body) 0) body.rows ≡ true
