-- The reader's tables hold what they should after each entry.
use Rattle.litmus_reader.proofs.Vocabulary.{◌≡◌, ℕ, ◌<◌, Bool, true, false, List, [], ◌∷◌, ◌++◌, length, get_or, set, map, replicate, fold, refl, sym, ap, ◌∙◌, arith, inl, inr, cases_Bool, eqb-true, eqb-false, length-replicate, get_or-replicate, length-set}
use Rattle.litmus_reader.proofs.Vocabulary.{get_or-set_same, get_or-set_other, ◌==◌, ◌&&◌, ◌||◌, min, if◌then◌else◌, option_map_or, range_with_len, filter_map, list_any, fold-append, fill_by_all, length-map-range_with_len, get_or-map-range_with_len, Reg}
use Rattle.litmus_reader.proofs.Vocabulary.{number, Atom, PlaceView, Location, Register, BodyView, TextNames, all_registers, with_name, code_in, CodeLabel, thread_labels, all_labels, Eax, location_name, is_register, names_among, byte_at, FindAllAs, with_put}
use Rattle.litmus_reader.proofs.Vocabulary.{no_names, noted, stored, with_initial, value_of, is_of_location, is_of_register, entry_atoms, memory_from, registers_from, thread_in, thread_by}
use Rattle.std.proofs.Math.Bool.{or-false, or-true, or_assoc}
use Rattle.tso_program.specs.declared.atom.Atom.TheVariants as atom

-- ---- lists of numbers' values

pub range_same : {X : Type 0} (f g : ℕ → X) (n : ℕ) → ((k : ℕ) → k < n → f k ≡ g k) → map f (range_with_len 0 n) ≡ map g (range_with_len 0 n)
range_same f g n h =
    fill_by_all g (map f (range_with_len 0 n)) n (f 0) (length-map-range_with_len f 0 n) (λ k lt. get_or-map-range_with_len f 0 n k k (f 0) lt (omega arith) ∙ h k lt)

set_at : {X : Type 0} (f : ℕ → X) (n k : ℕ) (x : X) (l : ℕ) → l < n → get_or (set (map f (range_with_len 0 n)) k x) l x ≡ (if k == l then x else f l)
set_at {X} f n k x l lt =
    let xs : List X = map f (range_with_len 0 n) in
    elim (cases_Bool (k == l)) [
      | inl e ↦
          ap (λ (j : ℕ). get_or (set xs j x) l x) (eqb-true k l e)
          ∙ get_or-set_same xs l x x (omega (arith, length-map-range_with_len f 0 n))
          ∙ sym (ap (λ (b : Bool). if b then x else f l) e)
      | inr e ↦
          get_or-set_other xs k l x x (λ q. eqb-false k l e (sym q))
          ∙ get_or-map-range_with_len f 0 n l l x lt (omega arith)
          ∙ sym (ap (λ (b : Bool). if b then x else f l) e)
    ]

-- one value of a list of numbers' values is changed
set_range : {X : Type 0} (f : ℕ → X) (n k : ℕ) (x : X) → set (map f (range_with_len 0 n)) k x ≡ map (λ l. if k == l then x else f l) (range_with_len 0 n)
set_range {X} f n k x =
    fill_by_all (λ l. if k == l then x else f l) (set (map f (range_with_len 0 n)) k x) n x (length-set (map f (range_with_len 0 n)) k x ∙ length-map-range_with_len f 0 n) (set_at f n k x)

all_same : {X : Type 0} (n : ℕ) (x : X) → replicate n x ≡ map (λ _. x) (range_with_len 0 n)
all_same {X} n x = let f : ℕ → X = λ _. x in fill_by_all f (replicate n x) n x (length-replicate n x) (λ k lt. get_or-replicate n k x x lt)

-- ---- tables: a value for each register of each of so many threads

abbrev grid : {X : Type 0} → (ℕ → Reg → X) → ℕ → List (List X)
grid f n = map (λ t. map (f t) all_registers) (range_with_len 0 n)

row_set : {X : Type 0} (g : Reg → X) (r : Reg) (x : X) → set (map g all_registers) (number r) x ≡ map (λ s. if number r == number s then x else g s) all_registers
row_set g Eax x = refl
row_set g r x = refl

abbrev changed : {X : Type 0} → (ℕ → Reg → X) → ℕ → Reg → X → ℕ → Reg → X
changed f t r x u s = if t == u && number r == number s then x else f u s

row_changed : {X : Type 0} (f : ℕ → Reg → X) (t : ℕ) (r : Reg) (x : X) (u n : ℕ) → u < n
    → (if t == u then set (get_or (grid f n) t []) (number r) x else map (f u) all_registers) ≡ map (changed f t r x u) all_registers
row_changed {X} f t r x u n lt =
    let line : ℕ → List X = λ v. map (f v) all_registers in
    elim (cases_Bool (t == u)) [
      | inl e ↦
          let same : t ≡ u = eqb-true t u e in
          let here : get_or (grid f n) t [] ≡ line u = ap (λ (v : ℕ). get_or (grid f n) v []) same ∙ get_or-map-range_with_len line 0 n u u [] lt (omega arith) in
          ap (λ (b : Bool). if b then set (get_or (grid f n) t []) (number r) x else line u) e
          ∙ ap (λ (old : List X). set old (number r) x) here
          ∙ row_set (f u) r x
          ∙ sym (ap (λ (b : Bool). map (λ s. if b && number r == number s then x else f u s) all_registers) e)
      | inr e ↦
          ap (λ (b : Bool). if b then set (get_or (grid f n) t []) (number r) x else line u) e
          ∙ sym (ap (λ (b : Bool). map (λ s. if b && number r == number s then x else f u s) all_registers) e)
    ]

put_grid : {X : Type 0} (f : ℕ → Reg → X) (n t : ℕ) (r : Reg) (x : X) → with_put (grid f n) t (number r) x ≡ grid (changed f t r x) n
put_grid {X} f n t r x =
    let row : ℕ → List X = λ u. map (f u) all_registers in
    let new : List X = set (get_or (grid f n) t []) (number r) x in
    set_range row n t new ∙ range_same (λ u. if t == u then new else row u) (λ u. map (changed f t r x u) all_registers) n (λ u lt. row_changed f t r x u n lt)

same_grid : {X : Type 0} (f g : ℕ → Reg → X) (n : ℕ) → ((t : ℕ) (r : Reg) → f t r ≡ g t r) → grid f n ≡ grid g n
same_grid f g n h = λ i. grid (λ t r. h t r i) n

-- ---- memory and registers at the start

stored_range : (f : ℕ → ℕ) (n : ℕ) (a : Atom) → stored (map f (range_with_len 0 n)) a ≡ map (λ l. if is_of_location l a then value_of a else f l) (range_with_len 0 n)
stored_range f n (atom.Location k x) = set_range f n k x
stored_range f n (atom.Register t r x) = refl

-- a table that is changed by one initial value after another
changed_by_all : {I V S : Type 0} (table : (I → V) → S) (step : S → Atom → S) (change : I → V → Atom → V) → ((f : I → V) (a : Atom) → step (table f) a ≡ table (λ i. change i (f i) a))
    → (f : I → V) (atoms : List Atom) → fold step (table f) atoms ≡ table (λ i. fold (change i) (f i) atoms)
changed_by_all table step change one f [] = refl
changed_by_all table step change one f (a ∷ atoms) = ap (λ s. fold step s atoms) (one f a) ∙ changed_by_all table step change one (λ i. change i (f i) a) atoms

-- memory after all initial values
pub stored_all : (n : ℕ) (atoms : List Atom) → fold stored (replicate n 0) atoms ≡ memory_from n atoms
stored_all n atoms = ap (λ (memory : List ℕ). fold stored memory atoms) (all_same n 0) ∙ changed_by_all (λ f. map f (range_with_len 0 n)) stored (λ l v a. if is_of_location l a then value_of a else v) (λ f a. stored_range f n a) (λ _. 0) atoms

loaded_grid : (f : ℕ → Reg → ℕ) (n : ℕ) (a : Atom) → with_initial (grid f n) a ≡ grid (λ t r. if is_of_register t r a then value_of a else f t r) n
loaded_grid f n (atom.Location l x) = refl
loaded_grid f n (atom.Register t r x) = put_grid f n t r x

-- the registers after all initial values
pub loaded_all : (n : ℕ) (atoms : List Atom) → fold with_initial (replicate n (replicate 6 0)) atoms ≡ map (registers_from atoms) (range_with_len 0 n)
loaded_all n atoms = ap (λ (table : List (List ℕ)). fold with_initial table atoms) (all_same n (replicate 6 0)) ∙ changed_by_all (λ f. grid (λ t r. f (t, r)) n) with_initial (λ p v a. if is_of_register p.0 p.1 a then value_of a else v) (λ f a. loaded_grid (λ t r. f (t, r)) n a) (λ (_ : ℕ × Reg). 0) atoms

-- threads with their registers and labels from tables
pub threads_filled : (numbered : List ℕ → ℕ) (body : BodyView) (registers : List (List ℕ)) (found : List (List CodeLabel)) (atoms : List Atom) → atoms ≡ entry_atoms numbered body.entries
    → registers ≡ map (registers_from atoms) (range_with_len 0 body.threads) → FindAllAs found (all_labels body)
    → map (thread_in numbered body.rows registers found) (range_with_len 0 (length found)) ≡ map (thread_by numbered byte_at body) (range_with_len 0 body.threads)
threads_filled numbered body registers found atoms said table known =
    let own = entry_atoms numbered body.entries in
    let same : registers ≡ map (registers_from own) (range_with_len 0 body.threads) = table ∙ ap (λ (said_ : List Atom). map (registers_from said_) (range_with_len 0 body.threads)) said in
    let count : length found ≡ body.threads = known.0 ∙ length-map-range_with_len (thread_labels body.rows) 0 body.threads in
    ap (λ (n : ℕ). map (thread_in numbered body.rows registers found) (range_with_len 0 n)) count
    ∙ range_same (thread_in numbered body.rows registers found) (thread_by numbered byte_at body) body.threads
    (λ t lt i. record {
      code = code_in numbered (((λ i name. min 255 (option_map_or (λ l. l.position) (known.1 t name i) 0)) ∙ ap byte_at (get_or-map-range_with_len (thread_labels body.rows) 0 body.threads t t [] lt (omega arith))) i) body.rows t;
      registers = (ap (λ (rs : List (List ℕ)). get_or rs t (replicate 6 0)) same ∙ get_or-map-range_with_len (registers_from own) 0 body.threads t t (replicate 6 0) lt (omega arith)) i;
    })

-- ---- names

some_else : (b c : Bool) → (if b then true else c) ≡ (c || b)
some_else true c = sym (or-true c)
some_else false c = sym (or-false c)

noted_from : (n : ℕ) (ls : List (List ℕ)) (f : ℕ → Reg → Bool) (ps : List PlaceView)
    → fold noted (record { locations = ls; registers = grid f n }) ps ≡ record { locations = fold with_name ls (filter_map location_name ps); registers = grid (λ t r. f t r || list_any (is_register t r) ps) n }
noted_from n ls f [] = λ i. record { locations = ls; registers = same_grid f (λ t r. f t r || false) n (λ t r. sym (or-false (f t r))) i }
noted_from n ls f (Location x ∷ ps) = noted_from n (with_name ls x) f ps
noted_from n ls f (Register t r ∷ ps) =
    let g : ℕ → Reg → Bool = λ u s. f u s || (t == u && number r == number s) in
    let marked : with_put (grid f n) t (number r) true ≡ grid g n = put_grid f n t r true ∙ same_grid (changed f t r true) g n (λ u s. some_else (t == u && number r == number s) (f u s)) in
    ap (λ (table : List (List Bool)). fold noted (record { locations = ls; registers = table }) ps) marked
    ∙ noted_from n ls g ps
    ∙ (λ i. record {
      locations = fold with_name ls (filter_map location_name ps);
      registers = same_grid (λ u s. g u s || list_any (is_register u s) ps) (λ u s. f u s || list_any (is_register u s) (Register t r ∷ ps)) n
          (λ u s. or_assoc (f u s) (t == u && number r == number s) (list_any (is_register u s) ps)) i;
    })

-- noting what each part of a text names
pub noted_parts : (n : ℕ) (es es' rs rs' os os' ss : List PlaceView) (first second third fourth last : TextNames) → es' ≡ es → rs' ≡ rs → os' ≡ os → first ≡ no_names n → second ≡ fold noted first es' → third ≡ fold noted second rs'
    → fourth ≡ fold noted third os' → last ≡ fold noted fourth ss → last ≡ names_among n (es ++ (rs ++ (os ++ ss)))
noted_parts n es es' rs rs' os os' ss first second third fourth last same_es same_rs same_os e f g h k =
    rw (k, h, g, f, e, same_es, same_rs, same_os, ← fold-append noted (fold noted (fold noted (no_names n) es) rs) os ss, ← fold-append noted (fold noted (no_names n) es) rs (os ++ ss), ← fold-append noted (no_names n) es (rs ++ (os ++ ss)))
    (ap (λ (table : List (List Bool)). fold noted (record { locations = []; registers = table }) (es ++ (rs ++ (os ++ ss)))) (all_same n (replicate 6 false))
    ∙ noted_from n [] (λ _ _. false) (es ++ (rs ++ (os ++ ss))))
