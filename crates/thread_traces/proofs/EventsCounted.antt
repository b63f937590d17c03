-- Lists of different elements are no longer than a list that has them all; a program's threads have no more accesses than a program may have.
use Rattle.thread_traces.proofs.Vocabulary.{◌≡◌, ◌≢◌, ℕ, zero, suc, ◌+◌, ◌<◌, ◌≤◌, List, [], ◌∷◌, ◌++◌, Some, take, get_or, length, slice_get, Contains, sum_by, refl, sym, ap, ◌∙◌, subst, inl, inr, arith, length-append, sum_by_more, sum_by-take-le}
use Rattle.thread_traces.proofs.Vocabulary.{slice_get-get_or, get_or_from_slice_get, unwrap_or-slice_get, AllPairs, remove, unwrap_or, option_map_or, cases_lt, cases_eq, Contains-append_left, Contains-append_right, Thread, Listing, Machine, trace_by, Event}
use Rattle.thread_traces.proofs.Vocabulary.{At, accesses_of, code_of, IsWithinLimits, get_some, first_is_here, later_is_here}
use Rattle.std.proofs.lemmas.List.Edits.{length-remove}
use Rattle.thread_traces.proofs.{Accesses.none_past_by, AccessesCounted.weight, AccessesCounted.accesses_few, Walks.contains_remove}
use Rattle.tso_program.specs.declared.limits.TheConstants.{MAX_ACCESSES}

-- what is not the removed element stays
pub stays : {A : Type 0} (xs : List A) (i : ℕ) (x e : A) → i < length xs → get_or xs i x ≡ x → Contains xs e → (x ≡ e → ⊥) → Contains (remove xs i) e
stays xs i x e h at has other = elim (contains_remove xs i x e (slice_get-get_or xs i x h ∙ ap Some at) has) [ inl same ↦ absurd (other (sym same)) | inr left ↦ left ]

-- of pairs of a list
pub first_pairs : {A : Type 0} (R : A → A → Type 0) (x : A) (xs : List A) (z : A) → AllPairs R (x ∷ xs) → Contains xs z → R x z
first_pairs R x xs z pairs (k, h, e) = subst (R x) e (pairs 0 (suc k) z (omega arith) (omega arith))

pub later_pairs : {A : Type 0} (R : A → A → Type 0) (x : A) (xs : List A) → AllPairs R (x ∷ xs) → AllPairs R xs
later_pairs R x xs pairs i j d h l = pairs (suc i) (suc j) d (omega arith) (omega arith)

-- values that are different and all in a list are no more than the list has
pub few_of : {A B : Type 0} (f : A → B) (xs : List A) (ys : List B) → AllPairs (λ a b. f a ≢ f b) xs → ((x : A) → Contains xs x → Contains ys (f x)) → length xs ≤ length ys
few_of f [] ys differ within = omega arith
few_of {A} {B} f (x ∷ xs) ys differ within =
    let (i, h, at) = within x (first_is_here x xs) in
    let fewer = length-remove ys i h in
    let rest = few_of f xs (remove ys i) (later_pairs (λ (a b : A). f a ≢ f b) x xs differ)
    (λ z here. stays ys i (f x) (f z) h at (within z (later_is_here x xs z here)) (first_pairs (λ (a b : A). f a ≢ f b) x xs z differ here)) in
    omega arith

-- a thread's first accesses, and all of so many threads
abbrev pub row : ℕ → ℕ → List Event
row t zero = []
row t (suc n) = At t n ∷ row t n

row_has : (t n i : ℕ) → i < n → Contains (row t n) (At t i)
row_has t zero i h = absurd (omega arith)
row_has t (suc n) i h = elim (cases_eq i n) [
  | inl same ↦ subst (λ k. Contains (At t n ∷ row t n) (At t k)) (sym same) (first_is_here (At t n) (row t n))
  | inr other ↦ later_is_here (At t n) (row t n) (At t i) (row_has t n i (omega arith))
]

row_long : (t n : ℕ) → length (row t n) ≡ n
row_long t zero = refl
row_long t (suc n) = ap suc (row_long t n)

module _ (counts : ℕ → ℕ) where
  abbrev pub rows : ℕ → List Event
  rows zero = []
  rows (suc t) = row t (counts t) ++ rows t

  rows_has : (n t i : ℕ) → t < n → i < counts t → Contains (rows n) (At t i)
  rows_has zero t i h l = absurd (omega arith)
  rows_has (suc n) t i h l = elim (cases_eq t n) [
    | inl same ↦ subst (λ u. Contains (row n (counts n) ++ rows n) (At u i)) (sym same)
        (Contains-append_left (row n (counts n)) (rows n) (At n i) (row_has n (counts n) i (subst (λ u. i < counts u) same l)))
    | inr other ↦ Contains-append_right (row n (counts n)) (rows n) (At t i) (rows_has n t i (omega arith) l)
  ]

  -- no more than the weights of the threads
  rows_few : {A : Type 0} (f : A → ℕ) (xs : List A) → ((t : ℕ) (x : A) → slice_get xs t ≡ Some x → counts t ≤ f x) → (n : ℕ) → n ≤ length xs → length (rows n) ≤ sum_by f (take n xs)
  rows_few f xs each zero h = omega arith
  rows_few {A} f [] each (suc n) h = absurd (omega arith)
  rows_few {A} f (d ∷ ds) each (suc n) h =
      let xs : List A = d ∷ ds in
      let rest = rows_few f xs each n (omega arith) in
      let more = sum_by_more f xs n d (omega arith) in
      let one = each n (get_or xs n d) (slice_get-get_or xs n d (omega arith)) in
      let long = length-append (row n (counts n)) (rows n) in
      let first = row_long n (counts n) in
      let same : suc n ≡ n + 1 = omega arith in
      let there = ap (λ m. sum_by f (take m xs)) same in
      omega arith

  -- and no fewer than other lists, each no longer than its row
  pub rows_many : (xs : List (List ℕ)) → ((t : ℕ) → length (unwrap_or (slice_get xs t) []) ≤ counts t) → (n : ℕ) → n ≤ length xs → sum_by length (take n xs) ≤ length (rows n)
  rows_many xs each zero h = omega arith
  rows_many xs each (suc n) h =
      let rest = rows_many xs each n (omega arith) in
      let more = sum_by_more length xs n [] (omega arith) in
      let one = each n in
      let is = ap length (unwrap_or-slice_get xs n []) in
      let long = length-append (row n (counts n)) (rows n) in
      let first = row_long n (counts n) in
      let same : suc n ≡ n + 1 = omega arith in
      let there = ap (λ m. sum_by length (take m xs)) same in
      omega arith

module _ (p : Listing) (mode : Machine) (given : ℕ → List ℕ) (within : IsWithinLimits p.threads p.memory) where
  abbrev counts : ℕ → ℕ
  counts t = length (trace_by p mode given t).accesses

  -- the accesses of all threads
  abbrev pub all_events : List Event
  all_events = rows counts (length p.threads)

  pub code_there : (t : ℕ) (x : Thread) → slice_get p.threads t ≡ Some x → counts t ≤ accesses_of x
  code_there t x at =
      let few = accesses_few p mode given t within.shared.forward_jumps in
      let code : code_of p.threads t ≡ x.code = ap (λ o. option_map_or (λ (thread : Thread). thread.code) o []) at in
      let same = ap (sum_by weight) code in
      omega arith

  -- no thread has more accesses than a program may have
  pub thread_few : (t : ℕ) → t < length p.threads → counts t ≤ MAX_ACCESSES
  thread_few t there =
      let (x, at) = get_some p.threads t there in
      let one = code_there t x at in
      let here = ap accesses_of (get_or_from_slice_get p.threads t x x at) in
      let more = sum_by_more accesses_of p.threads t x there in
      let all = sum_by-take-le accesses_of p.threads (t + 1) in
      let limit = within.shared.few_accesses in
      omega arith

  pub all_events_few : length all_events ≤ MAX_ACCESSES
  all_events_few =
      let few = rows_few counts accesses_of p.threads code_there (length p.threads) (omega arith) in
      let all = sum_by-take-le accesses_of p.threads (length p.threads) in
      let limit = within.shared.few_accesses in
      omega arith

  thread_there : (t i : ℕ) → i < counts t → t < length p.threads
  thread_there t i h = elim (cases_lt t (length p.threads)) [ inl less ↦ less | inr past ↦ absurd (none_past_by p mode given t i past h) ]

  -- an access of a thread is one of them
  pub all_events_has : (t i : ℕ) → i < counts t → Contains all_events (At t i)
  all_events_has t i h = rows_has counts (length p.threads) t i (thread_there t i h) h
