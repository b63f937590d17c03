-- Labels by their names: a table of positions gives what the labels give.
use Rattle.litmus_reader.proofs.Vocabulary.{◌≡◌, ℕ, zero, suc, ◌+◌, arith, length, length-append, get_or, Bool, true, false, cond, List, [], ◌∷◌, ◌++◌, fold, Option, Some, None, refl, sym, ap, ◌∙◌, append_assoc, option_or, option_map_or, find-append, ◌&&◌}
use Rattle.litmus_reader.proofs.Vocabulary.{is_some, option_map, unwrap_or, if◌then◌else◌, list_all, bytes_eq, Vec, nat_list_eq_equiv, append-nil, bytes_eq-Decides, CellView, BodyView, CodeLabel, labels_in, with_label, FindsAs, FindAllAs, label_in}
use Rattle.litmus_reader.proofs.Vocabulary.{all_labels, cell_jump, are_found, JumpsAreFound}
use Rattle.std.specs.Map.{lookup}
use Rattle.indexmap.specs.IndexMap.{insert_entry}

abbrev named : List ℕ → CodeLabel → Bool
named name l = bytes_eq l.name name

-- ---- the table

looked_up : (a b : Bool) (l : CodeLabel) (r : Option ℕ) (s : Option CodeLabel) → a ≡ b → r ≡ option_map (λ x. x.position) s → cond a (Some l.position) r ≡ option_map (λ x. x.position) (cond b (Some l) s)
looked_up true true l r s e h = refl
looked_up false false l r s e h = h
looked_up a b l r s e h = absurd cc

-- the position that the table has for a name
pub lookup_label : (es : List (Vec ℕ × ℕ)) (name : List ℕ) → lookup (λ (k : Vec ℕ). bytes_eq name k.items) es ≡ option_map (λ l. l.position) (label_in (labels_in es) name)
lookup_label [] name = refl
lookup_label (e ∷ es) name =
    looked_up (bytes_eq name e.0.items) (bytes_eq e.0.items name) (record { name = e.0.items; position = e.1 }) (lookup (λ (k : Vec ℕ). bytes_eq name k.items) es) (label_in (labels_in es) name)
    (nat_list_eq_equiv.symm name e.0.items) (lookup_label es name)

pushed_by : (a b : Bool) (e : Vec ℕ × ℕ) (es new : List (Vec ℕ × ℕ)) (n : ℕ) (l : CodeLabel) (rest : Option CodeLabel) (ls : List CodeLabel) → a ≡ b → is_some (cond a (Some l) rest) ≡ false
    → (is_some rest ≡ false → labels_in new ≡ ls) → labels_in (if b then (e.0, n) ∷ es else e ∷ new) ≡ record { name = e.0.items; position = e.1 } ∷ ls
pushed_by false false e es new n l rest ls same absent h = ap (λ (xs : List CodeLabel). record { name = e.0.items; position = e.1 } ∷ xs) (h absent)
pushed_by a b e es new n l rest ls same absent h = absurd cc

pushed : (es : List (Vec ℕ × ℕ)) (k : Vec ℕ) (n : ℕ) → is_some (label_in (labels_in es) k.items) ≡ false
    → labels_in (insert_entry (λ (a b : Vec ℕ). bytes_eq a.items b.items) es k n) ≡ labels_in es ++ record { name = k.items; position = n } ∷ []
pushed [] k n absent = refl
pushed (e ∷ es) k n absent =
    pushed_by (bytes_eq e.0.items k.items) (bytes_eq k.items e.0.items) e es (insert_entry (λ (a b : Vec ℕ). bytes_eq a.items b.items) es k n) n
    (record { name = e.0.items; position = e.1 }) (label_in (labels_in es) k.items) (labels_in es ++ record { name = k.items; position = n } ∷ [])
    (nat_list_eq_equiv.symm e.0.items k.items) absent (pushed es k n)

-- a new name goes last
pub labels_insert : (es : List (Vec ℕ × ℕ)) (k : Vec ℕ) (l : CodeLabel) → k.items ≡ l.name → is_some (label_in (labels_in es) l.name) ≡ false
    → labels_in (insert_entry (λ (a b : Vec ℕ). bytes_eq a.items b.items) es k l.position) ≡ with_label (labels_in es) l
labels_insert es k l same absent =
    pushed es k l.position (ap (λ (name : List ℕ). is_some (label_in (labels_in es) name)) same ∙ absent)
    ∙ (λ i. labels_in es ++ record { name = same i; position = l.position } ∷ [])
    ∙ sym (ap (λ (b : Bool). if b then labels_in es else labels_in es ++ l ∷ []) absent)

pub mapped_some : (o : Option CodeLabel) → is_some (option_map (λ l. l.position) o) ≡ is_some o
mapped_some None = refl
mapped_some (Some l) = refl

pub mapped_or : (o : Option CodeLabel) → unwrap_or (option_map (λ l. l.position) o) 0 ≡ option_map_or (λ l. l.position) o 0
mapped_or None = refl
mapped_or (Some l) = refl

-- ---- each name's first label is found

first_stays : (o : Option CodeLabel) (b : Bool) (l : CodeLabel) → (b ≡ true → is_some o ≡ true) → o ≡ option_or o (cond b (Some l) None)
first_stays None true l h = let e : false ≡ true = h refl in absurd cc
first_stays o b l h = refl

finds_by : (b : Bool) (found seen : List CodeLabel) (l : CodeLabel) → is_some (label_in found l.name) ≡ b → FindsAs found seen → FindsAs (if b then found else found ++ l ∷ []) (seen ++ l ∷ [])
finds_by false found seen l e h name =
    find-append (named name) found (l ∷ []) ∙ ap (λ (o : Option CodeLabel). option_or o (label_in (l ∷ []) name)) (h name) ∙ sym (find-append (named name) seen (l ∷ []))
finds_by true found seen l e h name =
    let there : bytes_eq l.name name ≡ true → is_some (label_in seen name) ≡ true =
    λ same. ap is_some (sym (h name)) ∙ ap (λ (m : List ℕ). is_some (label_in found m)) (sym ((bytes_eq-Decides l.name name).0 same)) ∙ e in
    h name ∙ first_stays (label_in seen name) (bytes_eq l.name name) l there ∙ sym (find-append (named name) seen (l ∷ []))

finds_from : (found seen ls : List CodeLabel) → FindsAs found seen → FindsAs (fold with_label found ls) (seen ++ ls)
finds_from found seen [] h name = h name ∙ ap (λ (ls : List CodeLabel). label_in ls name) (sym (append-nil seen))
finds_from found seen (l ∷ ls) h name =
    finds_from (with_label found l) (seen ++ l ∷ []) ls (finds_by (is_some (label_in found l.name)) found seen l refl h) name
    ∙ ap (λ (xs : List CodeLabel). label_in xs name) (append_assoc seen (l ∷ []) ls)

pub finds_all : (labels : List CodeLabel) → FindsAs (fold with_label [] labels) labels
finds_all labels = finds_from [] [] labels (λ name. refl)

-- ---- labels of threads

at_push : (found ls : List (List CodeLabel)) (own l : List CodeLabel) → length found ≡ length ls → ((t : ℕ) → FindsAs (get_or found t []) (get_or ls t [])) → FindsAs own l
    → (t : ℕ) → FindsAs (get_or (found ++ own ∷ []) t []) (get_or (ls ++ l ∷ []) t [])
at_push [] [] own l e h g zero = g
at_push [] [] own l e h g (suc t) = h t
at_push (x ∷ found) (y ∷ ls) own l e h g zero = h zero
at_push (x ∷ found) (y ∷ ls) own l e h g (suc t) = at_push found ls own l (omega (arith, e)) (λ k. h (suc k)) g t
at_push found ls own l e h g t = absurd (omega arith)

-- one more thread's labels
pub find_push : (found ls : List (List CodeLabel)) (own l : List CodeLabel) → FindAllAs found ls → FindsAs own l → FindAllAs (found ++ own ∷ []) (ls ++ l ∷ [])
find_push found ls own l h g = (omega (arith, h.0, length-append found (own ∷ []), length-append ls (l ∷ [])), at_push found ls own l h.0 h.1 g)

-- ---- jumps

-- labels that are found alike find the same jumps
pub are_found_same : (found labels : List (List CodeLabel)) → FindAllAs found labels → (t : ℕ) (cells : List CellView) → are_found found t cells ≡ are_found labels t cells
are_found_same found labels h t [] = refl
are_found_same found labels h t (c ∷ cs) = λ i. option_map_or (λ l. is_some (h.1 t l i)) (cell_jump c) true && are_found_same found labels h (t + 1) cs i

-- what a jump to no label says
pub lost_is : (body : BodyView) (found : List (List CodeLabel)) → FindAllAs found (all_labels body) → list_all (are_found found 0) body.rows ≡ false → JumpsAreFound body → ⊥
lost_is body found h lost ok = let e : false ≡ true = sym lost ∙ (λ i. list_all (λ row. are_found_same found (all_labels body) h 0 row i) body.rows) ∙ ok in cc
