-- What stands at each place of a fenced thread.
use Rattle.tso_program.proofs.Vocabulary.{◌≡◌, ℕ, zero, suc, ◌+◌, Bool, true, false, List, [], ◌∷◌, ◌++◌, Option, Some, None, refl, sym, ap, ◌∙◌, length, arith, slice_get, slice_index_or, if◌then◌else◌, Instr, Fence, Thread, code_of, instr_at, Gaps, place_of}
use Rattle.tso_program.proofs.Vocabulary.{moved, fenced_code, fenced_threads}

module _ (gap : ℕ → Bool) where
  -- how far place k of the instructions from n on lies from place n
  abbrev offset : ℕ → ℕ → ℕ
  offset n zero = 0
  offset n (suc k) = if gap n then suc (suc (offset (n + 1) k)) else suc (offset (n + 1) k)

  -- what stands at the place of an instruction: its fence where it has one
  abbrev pub first_of : Bool → Option Instr → Option Instr
  first_of fenced None = None
  first_of fenced (Some x) = if fenced then Some Fence else Some (moved gap x)

  -- past one more instruction
  further : (b : Bool) (a j : ℕ) → a + (if b then suc (suc j) else suc j) ≡ (a + (if b then 2 else 1)) + j
  further true a j = omega arith
  further false a j = omega arith

  -- places and offsets agree
  place_by_offset : (n k : ℕ) → place_of gap n + offset n k ≡ place_of gap (n + k)
  place_by_offset n zero = let e : n + 0 ≡ n = omega arith in rw e (omega arith)
  place_by_offset n (suc k) =
      let next : n + 1 ≡ suc n = omega arith in
      let sum : (n + 1) + k ≡ n + suc k = omega arith in
      let here : place_of gap (n + 1) ≡ place_of gap n + (if gap n then 2 else 1) = ap (place_of gap) next in
      further (gap n) (place_of gap n) (offset (n + 1) k)
      ∙ ap (λ a. a + offset (n + 1) k) (sym here)
      ∙ place_by_offset (n + 1) k
      ∙ ap (place_of gap) sum

  -- the others follow the first instruction
  past_one : (b : Bool) (x : Instr) (xs : List Instr) (j : ℕ) →
      slice_get ((if b then Fence ∷ [] else []) ++ x ∷ xs) (if b then suc (suc j) else suc j) ≡ slice_get xs j
  past_one true x xs j = refl
  past_one false x xs j = refl

  -- and one further too
  past_one_more : (b : Bool) (x : Instr) (xs : List Instr) (j : ℕ) →
      slice_get ((if b then Fence ∷ [] else []) ++ x ∷ xs) (suc (if b then suc (suc j) else suc j)) ≡ slice_get xs (suc j)
  past_one_more true x xs j = refl
  past_one_more false x xs j = refl

  -- the first instruction, or its fence
  at_first : (b : Bool) (x : Instr) (xs : List Instr) → slice_get ((if b then Fence ∷ [] else []) ++ moved gap x ∷ xs) 0 ≡ first_of b (Some x)
  at_first true x xs = refl
  at_first false x xs = refl

  -- the first instruction behind its fence
  at_second : (b : Bool) (x : Instr) (xs : List Instr) → b ≡ true → slice_get ((if b then Fence ∷ [] else []) ++ x ∷ xs) 1 ≡ Some x
  at_second true x xs e = refl
  at_second false x xs e = absurd cc

  -- an instruction of fenced code stands at its offset
  at_offset : (n k : ℕ) (xs : List Instr) → slice_get (fenced_code gap n xs) (offset n k) ≡ first_of (gap (n + k)) (slice_get xs k)
  at_offset n zero (x ∷ xs) = let e : n ≡ n + 0 = omega arith in at_first (gap n) x (fenced_code gap (n + 1) xs) ∙ ap (λ m. first_of (gap m) (Some x)) e
  at_offset n (suc k) (x ∷ xs) =
      let e : (n + 1) + k ≡ n + suc k = omega arith in
      past_one (gap n) (moved gap x) (fenced_code gap (n + 1) xs) (offset (n + 1) k)
      ∙ at_offset (n + 1) k xs
      ∙ ap (λ m. first_of (gap m) (slice_get xs k)) e
  at_offset n k [] = refl

  -- after the fence, by offset
  after_offset : (n k : ℕ) (xs : List Instr) (x : Instr) → gap (n + k) ≡ true → slice_get xs k ≡ Some x → slice_get (fenced_code gap n xs) (suc (offset n k)) ≡ Some (moved gap x)
  after_offset n zero (y ∷ ys) x g e =
      let here : n ≡ n + 0 = omega arith in
      at_second (gap n) (moved gap y) (fenced_code gap (n + 1) ys) (ap gap here ∙ g) ∙ (let same : y ≡ x = cc in ap (λ z. Some (moved gap z)) same)
  after_offset n (suc k) (y ∷ ys) x g e =
      let sum : (n + 1) + k ≡ n + suc k = omega arith in
      past_one_more (gap n) (moved gap y) (fenced_code gap (n + 1) ys) (offset (n + 1) k)
      ∙ after_offset (n + 1) k ys x (ap gap sum ∙ g) e
  after_offset n k [] x g e = absurd cc

  -- from the first instruction on
  place_is : (k : ℕ) → place_of gap k ≡ offset 0 k
  place_is k = let z = place_by_offset 0 k in let e : 0 + k ≡ k = omega arith in let f : place_of gap (0 + k) ≡ place_of gap k = ap (place_of gap) e in omega arith

  -- at the place of instruction k
  pub at_place : (xs : List Instr) (k : ℕ) → slice_get (fenced_code gap 0 xs) (place_of gap k) ≡ first_of (gap k) (slice_get xs k)
  at_place xs k =
      let e : 0 + k ≡ k = omega arith in
      ap (slice_get (fenced_code gap 0 xs)) (place_is k) ∙ at_offset 0 k xs ∙ ap (λ m. first_of (gap m) (slice_get xs k)) e

  -- behind its fence
  pub after_fence : (xs : List Instr) (k : ℕ) (x : Instr) → gap k ≡ true → slice_get xs k ≡ Some x → slice_get (fenced_code gap 0 xs) (place_of gap k + 1) ≡ Some (moved gap x)
  after_fence xs k x g e =
      let next : place_of gap k + 1 ≡ suc (offset 0 k) = (let z = place_is k in omega arith) in
      let same : 0 + k ≡ k = omega arith in
      ap (slice_get (fenced_code gap 0 xs)) next ∙ after_offset 0 k xs x (ap gap same ∙ g) e

module _ (gaps : Gaps) where
  -- the code of a thread, counted from thread n
  code_from : (n t : ℕ) (threads : List Thread) → code_of (fenced_threads gaps n threads) t ≡ fenced_code (gaps (n + t)) 0 (code_of threads t)
  code_from n t [] = refl
  code_from n zero (thread ∷ threads) = let e : n ≡ n + 0 = omega arith in ap (λ m. fenced_code (gaps m) 0 thread.code) e
  code_from n (suc t) (thread ∷ threads) =
      let e : (n + 1) + t ≡ n + suc t = omega arith in
      code_from (n + 1) t threads ∙ ap (λ m. fenced_code (gaps m) 0 (code_of threads t)) e

  -- the code of a thread of the fenced program
  pub fenced_code_of : (t : ℕ) (threads : List Thread) → code_of (fenced_threads gaps 0 threads) t ≡ fenced_code (gaps t) 0 (code_of threads t)
  fenced_code_of t threads = let e : 0 + t ≡ t = omega arith in code_from 0 t threads ∙ ap (λ m. fenced_code (gaps m) 0 (code_of threads t)) e

  -- its threads begin as before
  pub same_registers : (n t : ℕ) (threads : List Thread) (d : Thread) →
      (slice_index_or (fenced_threads gaps n threads) t d).registers ≡ (slice_index_or threads t d).registers
  same_registers n t [] d = refl
  same_registers n zero (thread ∷ threads) d = refl
  same_registers n (suc t) (thread ∷ threads) d = same_registers (n + 1) t threads d

  -- and are as many
  pub same_count : (n : ℕ) (threads : List Thread) → length (fenced_threads gaps n threads) ≡ length threads
  same_count n [] = refl
  same_count n (thread ∷ threads) = ap suc (same_count (n + 1) threads)

  -- the instruction at the place of instruction k
  pub instr_at_place : (threads : List Thread) (t k : ℕ) → instr_at (fenced_threads gaps 0 threads) t (place_of (gaps t) k) ≡ first_of (gaps t) (gaps t k) (instr_at threads t k)
  instr_at_place threads t k = ap (λ (xs : List Instr). slice_get xs (place_of (gaps t) k)) (fenced_code_of t threads) ∙ at_place (gaps t) (code_of threads t) k

  -- the instruction after the fence there
  pub instr_after_fence : (threads : List Thread) (t k : ℕ) (x : Instr) → gaps t k ≡ true → instr_at threads t k ≡ Some x →
      instr_at (fenced_threads gaps 0 threads) t (place_of (gaps t) k + 1) ≡ Some (moved (gaps t) x)
  instr_after_fence threads t k x g e =
      ap (λ (xs : List Instr). slice_get xs (place_of (gaps t) k + 1)) (fenced_code_of t threads) ∙ after_fence (gaps t) (code_of threads t) k x g e
