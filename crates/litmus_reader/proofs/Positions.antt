-- Positions of labels as bytes: they are the positions where threads are short.
use Rattle.litmus_reader.proofs.Vocabulary.{◌≡◌, ℕ, ◌+◌, ◌≤◌, Bool, true, false, cond, List, [], ◌∷◌, length, map, Option, Some, None, refl, arith, AllByRecursion, min, option_map, option_and_then, slice_get, find, cons_option, option_map_or, bytes_eq, Instr}
use Rattle.litmus_reader.proofs.Vocabulary.{CodeView, CellView, CodeLabel, column, size, labels_behind, thread_labels, position_in, byte_at, instruction_of, code_in}
use Rattle.litmus_reader.proofs.Elements.{all_more_so, all_of_both}

-- how many instructions cells have
abbrev pub count : List CellView → ℕ
count [] = 0
count (c ∷ cs) = size c + count cs

-- the label stands at most behind so many instructions
abbrev IsWithin : ℕ → CodeLabel → Type 0
IsWithin n l = l.position ≤ n

named_within : (n k : ℕ) (names : List (List ℕ)) → k ≤ n → AllByRecursion (IsWithin n) (map (λ l. record { name = l; position = k }) names)
named_within n k [] le = tt
named_within n k (l ∷ names) le = (le, named_within n k names le)

labels_within : (k : ℕ) (cs : List CellView) → AllByRecursion (IsWithin (k + count cs)) (labels_behind k cs)
labels_within k [] = tt
labels_within k (c ∷ cs) =
    all_of_both (IsWithin (k + (size c + count cs))) (map (λ l. record { name = l; position = k }) c.labels) (labels_behind (k + size c) cs)
    (named_within (k + (size c + count cs)) k c.labels (omega arith))
    (all_more_so (IsWithin (k + size c + count cs)) (IsWithin (k + (size c + count cs))) (λ l h. omega (arith, h)) (labels_behind (k + size c) cs) (labels_within (k + size c) cs))

found_within : (n : ℕ) (b : Bool) (l : CodeLabel) (rest : Option CodeLabel) → l.position ≤ n → option_map_or (λ x. x.position) rest 0 ≤ n → option_map_or (λ x. x.position) (cond b (Some l) rest) 0 ≤ n
found_within n true l rest h g = h
found_within n false l rest h g = g

position_within : (n : ℕ) (ls : List CodeLabel) (name : List ℕ) → AllByRecursion (IsWithin n) ls → position_in ls name ≤ n
position_within n [] name h = omega arith
position_within n (l ∷ ls) name h = found_within n (bytes_eq l.name name) l (find (λ x. bytes_eq x.name name) ls) h.0 (position_within n ls name h.1)

one_code : (f : CodeView → Instr) (code : Option CodeView) (is : List Instr) (n : ℕ) → length is ≡ n → length (cons_option (option_map f code) is) ≡ option_map_or (λ c. 1) code 0 + n
one_code f None is n e = omega (arith, e)
one_code f (Some c) is n e = omega (arith, e)

one_row : (f : CodeView → Instr) (o : Option CellView) (is : List Instr) (cs : List CellView) → length is ≡ count cs → length (cons_option (option_map f (option_and_then (λ cell. cell.code) o)) is) ≡ count (cons_option o cs)
one_row f None is cs e = e
one_row f (Some c) is cs e = one_code f c.code is (count cs) e

-- a thread's code has as many instructions as its cells
pub code_count : (numbered positioned : List ℕ → ℕ) (rows : List (List CellView)) (t : ℕ) → length (code_in numbered positioned rows t) ≡ count (column rows t)
code_count numbered positioned [] t = refl
code_count numbered positioned (row ∷ rows) t =
    one_row (instruction_of numbered positioned) (slice_get row t) (code_in numbered positioned rows t) (column rows t) (code_count numbered positioned rows t)

pub byte_is : (n : ℕ) → n ≤ 255 → min 255 n ≡ n
byte_is n le = omega arith

-- no label of a thread follows more instructions than the thread has; where these are few, its position is a byte
pub position_same : (numbered positioned : List ℕ → ℕ) (rows : List (List CellView)) (t : ℕ) → length (code_in numbered positioned rows t) ≤ 255 → byte_at (thread_labels rows t) ≡ position_in (thread_labels rows t)
position_same numbered positioned rows t few = λ i name.
    byte_is (position_in (thread_labels rows t) name)
    (omega (arith, few, code_count numbered positioned rows t, position_within (0 + count (column rows t)) (thread_labels rows t) name (labels_within 0 (column rows t)))) i
