-- No label stands twice in a thread: told of all rows at once, and of each thread.
use Rattle.litmus_text.proofs.Vocabulary.{◌≡◌, ◌≢◌, ℕ, zero, suc, ◌+◌, ◌<◌, ◌==◌, Bool, List, [], ◌∷◌, ◌++◌, map, Option, Some, None, refl, sym, ap, ◌∙◌, subst, arith, slice_get, if◌then◌else◌, cons_option, filter_map, flat_map, Decides-eqb, append-nil}
use Rattle.litmus_text.proofs.Vocabulary.{map-append, filter_map-append, CellView, column, size, labels_behind, thread_labels, IsNoneOf, NoneTwice, labels_from, row_labels, labels_in_rows, false_from_ne_true as not_true}
use Rattle.litmus_text.proofs.LabelsNamed.{label_name, same_or_not}

-- a label with its thread
abbrev Owned : Type 0
Owned = ℕ × List ℕ

-- its name, if it is thread t's
abbrev own_name : ℕ → Owned → Option (List ℕ)
own_name t p = if p.0 == t then Some p.1 else None

-- thread t's
abbrev own_names : ℕ → List Owned → List (List ℕ)
own_names t ps = filter_map (own_name t) ps

own_here : (t : ℕ) (p : Owned) (ps : List Owned) → p.0 ≡ t → own_names t (p ∷ ps) ≡ p.1 ∷ own_names t ps
own_here t p ps e = ap (λ (b : Bool). cons_option (if b then Some p.1 else None) (own_names t ps)) ((Decides-eqb p.0 t).1 e)

own_others : (t : ℕ) (p : Owned) (ps : List Owned) → (p.0 ≡ t → ⊥) → own_names t (p ∷ ps) ≡ own_names t ps
own_others t p ps other = ap (λ (b : Bool). cons_option (if b then Some p.1 else None) (own_names t ps)) (not_true (p.0 == t) (λ h. other ((Decides-eqb p.0 t).0 h)))

-- ---- from all rows to a thread

none_of_own : (t : ℕ) (p : Owned) (ps : List Owned) → p.0 ≡ t → IsNoneOf p ps → IsNoneOf p.1 (own_names t ps)
none_of_own t p [] e h = tt
none_of_own t p (q ∷ ps) e h =
    same_or_not (IsNoneOf p.1 (own_names t (q ∷ ps))) q.0 t
    (λ here.
    let ne : p.1 ≢ q.1 = λ same. h.0 (λ i. ((e ∙ sym here) i, same i)) in
    subst (IsNoneOf p.1) (sym (own_here t q ps here)) (ne, none_of_own t p ps e h.1))
    (λ other. subst (IsNoneOf p.1) (sym (own_others t q ps other)) (none_of_own t p ps e h.1))

pub once_in_thread : (t : ℕ) (ps : List Owned) → NoneTwice ps → NoneTwice (own_names t ps)
once_in_thread t [] h = tt
once_in_thread t (p ∷ ps) h =
    same_or_not (NoneTwice (own_names t (p ∷ ps))) p.0 t
    (λ here. subst NoneTwice (sym (own_here t p ps here)) (none_of_own t p ps here h.0, once_in_thread t ps h.1))
    (λ other. subst NoneTwice (sym (own_others t p ps other)) (once_in_thread t ps h.1))

-- ---- and back

none_of_all : (p : Owned) (ps : List Owned) → IsNoneOf p.1 (own_names p.0 ps) → IsNoneOf p ps
none_of_all p [] h = tt
none_of_all p (q ∷ ps) h =
    same_or_not (IsNoneOf p (q ∷ ps)) q.0 p.0
    (λ here.
    let own : IsNoneOf p.1 (q.1 ∷ own_names p.0 ps) = subst (IsNoneOf p.1) (own_here p.0 q ps here) h in
    (λ e. own.0 (ap (λ (x : Owned). x.1) e), none_of_all p ps own.1))
    (λ other.
    let own : IsNoneOf p.1 (own_names p.0 ps) = subst (IsNoneOf p.1) (own_others p.0 q ps other) h in
    (λ e. other (ap (λ (x : Owned). x.0) (sym e)), none_of_all p ps own))

once_behind : (t : ℕ) (p : Owned) (ps : List Owned) → NoneTwice (own_names t (p ∷ ps)) → NoneTwice (own_names t ps)
once_behind t p ps h =
    same_or_not (NoneTwice (own_names t ps)) p.0 t
    (λ here. let own : NoneTwice (p.1 ∷ own_names t ps) = subst NoneTwice (own_here t p ps here) h in own.1)
    (λ other. subst NoneTwice (own_others t p ps other) h)

pub once_in_all : (ps : List Owned) → ((t : ℕ) → NoneTwice (own_names t ps)) → NoneTwice ps
once_in_all [] h = tt
once_in_all (p ∷ ps) h =
    let own : NoneTwice (p.1 ∷ own_names p.0 ps) = subst NoneTwice (own_here p.0 p ps refl) (h p.0) in
    (none_of_all p ps own.0, once_in_all ps (λ t. once_behind t p ps (h t)))

-- ---- a thread's are those of its column

-- the labels of a cell, where there is one
abbrev labels_in : Option CellView → List (List ℕ)
labels_in None = []
labels_in (Some c) = c.labels

abbrev cell_names : CellView → List (List ℕ)
cell_names c = c.labels

own_cell : (t : ℕ) (ls : List (List ℕ)) → own_names t (map (λ l. (t, l)) ls) ≡ ls
own_cell t [] = refl
own_cell t (l ∷ ls) = own_here t (t, l) (map (λ (k : List ℕ). (t, k)) ls) refl ∙ ap (λ (ns : List (List ℕ)). l ∷ ns) (own_cell t ls)

other_cell : (t u : ℕ) (ls : List (List ℕ)) → (u ≡ t → ⊥) → own_names t (map (λ l. (u, l)) ls) ≡ []
other_cell t u [] ne = refl
other_cell t u (l ∷ ls) ne = own_others t (u, l) (map (λ (k : List ℕ). (u, k)) ls) ne ∙ other_cell t u ls ne

later_cells : (t a : ℕ) (cells : List CellView) → t < a → own_names t (labels_from a cells) ≡ []
later_cells t a [] lt = refl
later_cells t a (c ∷ cells) lt =
    filter_map-append (own_name t) (map (λ l. (a, l)) c.labels) (labels_from (a + 1) cells)
    ∙ ap (λ (ns : List (List ℕ)). ns ++ own_names t (labels_from (a + 1) cells)) (other_cell t a c.labels (λ e. absurd (omega (arith, e, lt))))
    ∙ later_cells t (a + 1) cells (omega (arith, lt))

row_own : (a t u : ℕ) (cells : List CellView) → a + t ≡ u → own_names u (labels_from a cells) ≡ labels_in (slice_get cells t)
row_own a t u [] e = refl
row_own a zero u (c ∷ cells) e =
    let first : u ≡ a = omega arith in
    ap (λ (v : ℕ). own_names v (labels_from a (c ∷ cells))) first
    ∙ filter_map-append (own_name a) (map (λ l. (a, l)) c.labels) (labels_from (a + 1) cells)
    ∙ ap (λ (ns : List (List ℕ)). ns ++ own_names a (labels_from (a + 1) cells)) (own_cell a c.labels)
    ∙ ap (λ (ns : List (List ℕ)). c.labels ++ ns) (later_cells a (a + 1) cells (omega arith)) ∙ append-nil c.labels
row_own a (suc t) u (c ∷ cells) e =
    filter_map-append (own_name u) (map (λ l. (a, l)) c.labels) (labels_from (a + 1) cells)
    ∙ ap (λ (ns : List (List ℕ)). ns ++ own_names u (labels_from (a + 1) cells)) (other_cell u a c.labels (λ same. absurd (omega arith)))
    ∙ row_own (a + 1) t u cells (omega arith)

one_more : (o : Option CellView) (cells : List CellView) → labels_in o ++ flat_map cell_names cells ≡ flat_map cell_names (cons_option o cells)
one_more None cells = refl
one_more (Some c) cells = refl

rows_own : (t : ℕ) (rows : List (List CellView)) → own_names t (labels_in_rows rows) ≡ flat_map cell_names (column rows t)
rows_own t [] = refl
rows_own t (row ∷ rows) =
    filter_map-append (own_name t) (row_labels row) (labels_in_rows rows)
    ∙ (λ i. row_own 0 t t row (omega arith) i ++ rows_own t rows i)
    ∙ one_more (slice_get row t) (column rows t)

named_at_all : (k : ℕ) (ls : List (List ℕ)) → map label_name (map (λ l. record { name = l; position = k }) ls) ≡ ls
named_at_all k [] = refl
named_at_all k (l ∷ ls) = ap (λ (ns : List (List ℕ)). l ∷ ns) (named_at_all k ls)

behind_named : (k : ℕ) (cells : List CellView) → map label_name (labels_behind k cells) ≡ flat_map cell_names cells
behind_named k [] = refl
behind_named k (c ∷ cells) =
    map-append label_name (map (λ l. record { name = l; position = k }) c.labels) (labels_behind (k + size c) cells)
    ∙ (λ i. named_at_all k c.labels i ++ behind_named (k + size c) cells i)

-- the names of thread t's labels
pub thread_own : (t : ℕ) (rows : List (List CellView)) → own_names t (labels_in_rows rows) ≡ map label_name (thread_labels rows t)
thread_own t rows = rows_own t rows ∙ sym (behind_named 0 (column rows t))

pub rows_once : (rows : List (List CellView)) → ((t : ℕ) → NoneTwice (map label_name (thread_labels rows t))) → NoneTwice (labels_in_rows rows)
rows_once rows h = once_in_all (labels_in_rows rows) (λ t. subst NoneTwice (sym (thread_own t rows)) (h t))
