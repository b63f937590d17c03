-- The lists that the code keeps, seen as the machine's functions.
use Rattle.tso_machine.proofs.Vocabulary.{◌≡◌, ℕ, suc, ◌<◌, List, [], ◌∷◌, ◌++◌, Some, get_or, set, length, map, refl, sym, ap, ◌∙◌, subst, inl, inr, get_or-set_same, get_or-set_other, eq-eqb, ne_eqb, length-set, slice_get, slice_index, slice_index_or}
use Rattle.tso_machine.proofs.Vocabulary.{slice_set, range_with_len, get_or-map, slice_get_read, slice_get-get_or, fun_ext, cases_eq, Thread, Outcome, Pending, Listing, put, start, outcome_at, Core, Cores, no_core, core_at, state_of, first_core, first_cores}
use Rattle.tso_machine.proofs.Vocabulary.{AreLocated, FitsProgram, length-map, map-id}
use Rattle.std.proofs.lemmas.List.FromFn.{fill_by_all}

pub put_same : {A : Type 0} (f : ℕ → A) (n : ℕ) (x : A) → put f n x n ≡ x
put_same f n x = rw (eq-eqb n n refl) refl

pub put_other : {A : Type 0} (f : ℕ → A) (n : ℕ) (x : A) (k : ℕ) → (k ≡ n → ⊥) → put f n x k ≡ f k
put_other f n x k h = rw (ne_eqb k n h) refl

-- a write to a list is a write to the function that reads it
pub put_is_set : {A B : Type 0} (f : A → B) (d : A) (xs : List A) (t : ℕ) (x : A) → t < length xs → put (λ u. f (get_or xs u d)) t (f x) ≡ (λ u. f (get_or (set xs t x) u d))
put_is_set f d xs t x h = fun_ext (λ u. elim (cases_eq u t) [
  | inl q ↦ subst (λ z. put (λ u. f (get_or xs u d)) t (f x) z ≡ f (get_or (set xs t x) z d)) (sym q)
      (put_same (λ u. f (get_or xs u d)) t (f x) ∙ ap f (sym (get_or-set_same xs t x d h)))
  | inr n ↦ put_other (λ u. f (get_or xs u d)) t (f x) u n ∙ ap f (sym (get_or-set_other xs t u x d n))
])

-- a write of what is there changes nothing
pub put_again : {A : Type 0} (f : ℕ → A) (t : ℕ) (x : A) → x ≡ f t → put f t x ≡ f
put_again f t x e = fun_ext (λ u. elim (cases_eq u t) [ inl q ↦ subst (λ z. put f t x z ≡ f z) (sym q) (put_same f t x ∙ e) | inr n ↦ put_other f t x u n ])

-- the state with one thread and the memory changed
pub state_set : (s : Cores) (t : ℕ) (x : Core) (memory : List ℕ) → t < length s.cores →
    state_of (record { cores = slice_set s.cores t x; memory = memory })
    ≡ record { locals = put (state_of s).locals t x.local; buffers = put (state_of s).buffers t x.buffer; memory = slice_index memory }
state_set s t x memory h = λ i. record {
  locals = (sym (put_is_set (λ (c : Core). c.local) no_core s.cores t x h)) i;
  buffers = (sym (put_is_set (λ (c : Core). c.buffer) no_core s.cores t x h)) i;
  memory = slice_index memory;
}

-- a core moves, and no store has come to wait
pub state_moved : (s : Cores) (t : ℕ) (x : Core) (memory : List ℕ) → t < length s.cores → x.buffer ≡ (core_at s.cores t).buffer →
    record { locals = put (state_of s).locals t x.local; buffers = (state_of s).buffers; memory = slice_index memory }
    ≡ state_of (record { cores = slice_set s.cores t x; memory = memory })
state_moved s t x memory h e = sym (state_set s t x memory h ∙ (λ i. record {
  locals = put (state_of s).locals t x.local;
  buffers = (put_again (state_of s).buffers t x.buffer e) i;
  memory = slice_index memory;
}))

pub memory_set : (memory : List ℕ) (l v : ℕ) → l < length memory → put (slice_index memory) l v ≡ slice_index (slice_set memory l v)
memory_set memory l v h = put_is_set (λ (n : ℕ). n) 0 memory l v h

-- the element that an index reads
pub read_is : {A : Type 0} (xs : List A) (i : ℕ) (x d : A) → i < length xs → x ≡ get_or xs i x → get_or xs i d ≡ x
read_is xs i x d h e = let a : slice_get xs i ≡ Some (get_or xs i d) = slice_get-get_or xs i d h in
    let b : slice_get xs i ≡ Some x = slice_get_read xs (length xs) i x refl h e in cc

abbrev no_thread : Thread
no_thread = record { code = []; registers = [] }

first_at : (threads : List Thread) (t : ℕ) → core_at (map first_core threads) t ≡ first_core (slice_index_or threads t no_thread)
first_at (x ∷ xs) (suc t) = first_at xs t
first_at threads t = refl

-- the program's start
pub state_of_first : (p : Listing) → state_of (first_cores p) ≡ start p
state_of_first p = λ i. record {
  locals = (fun_ext (λ t. ap (λ (c : Core). c.local) (first_at p.threads t))) i;
  buffers = (fun_ext (λ t. ap (λ (c : Core). c.buffer) (first_at p.threads t))) i;
  memory = slice_index p.memory;
}

pub first_fits : (p : Listing) → FitsProgram p (first_cores p)
first_fits p = record {
  threads = length-map p.threads first_core;
  locations = refl;
  stores = λ t. subst (λ (c : Core). AreLocated (length p.memory) c.buffer) (sym (first_at p.threads t)) tt;
}

read_all : {A B : Type 0} (f : A → B) (d : A) (xs : List A) → map f xs ≡ map (λ t. f (get_or xs t d)) (range_with_len 0 (length xs))
read_all f d xs = fill_by_all (λ t. f (get_or xs t d)) (map f xs) (length xs) (f d) (length-map xs f) (λ k h. get_or-map f xs k d (f d) h)

-- what the lists hold at the end is the outcome
pub outcome_is : (p : Listing) (s : Cores) (o : Outcome) → FitsProgram p s → o.registers ≡ map (λ (c : Core). c.local.registers) s.cores → o.memory ≡ s.memory →
    o ≡ outcome_at p (state_of s)
outcome_is p s o fits r m = λ i. record {
  registers = (r ∙ read_all (λ (c : Core). c.local.registers) no_core s.cores ∙ ap (λ n. map (λ t. (core_at s.cores t).local.registers) (range_with_len 0 n)) fits.threads) i;
  memory = (m ∙ sym (map-id s.memory) ∙ read_all (λ (n : ℕ). n) 0 s.memory ∙ ap (λ n. map (slice_index s.memory) (range_with_len 0 n)) fits.locations) i;
}

pub located_front : (n : ℕ) (ws : List Pending) (w : Pending) → w.location < n → AreLocated n ws → AreLocated n (ws ++ w ∷ [])
located_front n [] w h a = (h, tt)
located_front n (x ∷ ws) w h a = (a.0, located_front n ws w h a.1)

-- the lists still fit after a change of one thread and of the memory
pub fits_set : (p : Listing) (s : Cores) (t : ℕ) (x : Core) (memory : List ℕ) → FitsProgram p s → t < length s.cores → length memory ≡ length s.memory → AreLocated (length p.memory) x.buffer →
    FitsProgram p (record { cores = slice_set s.cores t x; memory = memory })
fits_set p s t x memory fits h long a = record {
  threads = length-set s.cores t x ∙ fits.threads;
  locations = long ∙ fits.locations;
  stores = λ u. elim (cases_eq u t) [
    | inl q ↦ subst (λ z. AreLocated (length p.memory) (core_at (slice_set s.cores t x) z).buffer) (sym q)
        (subst (λ (c : Core). AreLocated (length p.memory) c.buffer) (sym (get_or-set_same s.cores t x no_core h)) a)
    | inr n ↦ subst (λ (c : Core). AreLocated (length p.memory) c.buffer) (sym (get_or-set_other s.cores t u x no_core n)) (fits.stores u)
  ];
}
