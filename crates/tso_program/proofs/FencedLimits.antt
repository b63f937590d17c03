-- A program within its limits is, with its fences, within those of a fenced program.
use Rattle.tso_program.proofs.Vocabulary.{◌≡◌, ℕ, zero, suc, ◌+◌, ◌-◌, ◌*◌, ◌<◌, ◌≤◌, Bool, true, false, List, [], ◌∷◌, ◌++◌, ◌⊎◌, inl, inr, length, Option, Some, refl, sym, ap, ◌∙◌, arith, cond, slice_get, is_some, sum_by, count_by, if◌then◌else◌}
use Rattle.tso_program.proofs.Vocabulary.{sum_by-cons, Instr, LoadImm, Fence, Je, Jne, Jmp, Thread, Listing, location_of, target_of, code_of, instr_at, accesses_of, IsWithinLimits, IsWithinFencedLimits, MAX_INSTRUCTIONS, MAX_FENCED_INSTRUCTIONS, Gaps, gaps_in}
use Rattle.tso_program.proofs.Vocabulary.{place_of, moved, fenced_code, fenced_threads, fence, FencingStaysWithinLimits}
use Rattle.tso_program.proofs.FencedPlaces.{fenced_code_of, same_count}

module _ (gap : ℕ → Bool) where
  -- the place of the next instruction
  next_place : (b : Bool) (k : ℕ) → gap k ≡ b → place_of gap (k + 1) ≡ place_of gap k + (if b then 2 else 1)
  next_place b k e = let next : k + 1 ≡ suc k = omega arith in ap (place_of gap) next ∙ ap (λ (c : Bool). place_of gap k + (if c then 2 else 1)) e

  -- places rise
  step_up : (b : Bool) (n : ℕ) → (n < n + (if b then 2 else 1)) × (n + (if b then 2 else 1) ≤ n + 2)
  step_up true n = (omega arith, omega arith)
  step_up false n = (omega arith, omega arith)

  rises_by : (j d : ℕ) → place_of gap j ≤ place_of gap (j + d)
  rises_by j zero = let e : j + 0 ≡ j = omega arith in rw e (omega arith)
  rises_by j (suc d) =
      let e : j + suc d ≡ suc (j + d) = omega arith in
      let up = (step_up (gap (j + d)) (place_of gap (j + d))).0 in
      let so_far = rises_by j d in
      rw e (omega arith)

  pub rises : (j k : ℕ) → j ≤ k → place_of gap j ≤ place_of gap k
  rises j k h = let d : ℕ = k - j in let e : j + d ≡ k = omega arith in let r : place_of gap j ≤ place_of gap (j + d) = rises_by j d in rw e at r

  -- with no gap before the first instruction, twice as many places but one
  small : (k : ℕ) → gap 0 ≡ false → place_of gap (suc k) ≤ 2 * k + 1
  small zero e = let p = next_place false 0 e in omega arith
  small (suc k) e = let so_far = small k e in let here = (step_up (gap (suc k)) (place_of gap (suc k))).1 in omega arith

  pub place_small : (most k : ℕ) → gap 0 ≡ false → k ≤ suc most → place_of gap k ≤ 2 * most + 1
  place_small most zero e h = omega arith
  place_small most (suc k) e h = let s = small k e in omega arith

  -- the fenced code ends at the place of the end
  two_or_one : (b : Bool) (x : Instr) (xs : List Instr) → length ((if b then Fence ∷ [] else []) ++ x ∷ xs) ≡ (if b then 2 else 1) + length xs
  two_or_one true x xs = omega arith
  two_or_one false x xs = omega arith

  ends_from : (n : ℕ) (xs : List Instr) → place_of gap n + length (fenced_code gap n xs) ≡ place_of gap (n + length xs)
  ends_from n [] = let e : n + 0 ≡ n = omega arith in rw e (omega arith)
  ends_from n (x ∷ xs) =
      let long = two_or_one (gap n) (moved gap x) (fenced_code gap (n + 1) xs) in
      let next = next_place (gap n) n refl in
      let rest = ends_from (n + 1) xs in
      let same : place_of gap (n + 1 + length xs) ≡ place_of gap (n + length (x ∷ xs)) = ap (place_of gap) (let e : n + 1 + length xs ≡ n + length (x ∷ xs) = omega arith in e) in
      omega arith

  pub ends : (xs : List Instr) → length (fenced_code gap 0 xs) ≡ place_of gap (length xs)
  ends xs = let e = ends_from 0 xs in let same : place_of gap (0 + length xs) ≡ place_of gap (length xs) = ap (place_of gap) (let q : 0 + length xs ≡ length xs = omega arith in q) in omega arith

  -- instruction x stands at place q for an instruction from number n on, right before the place of the next one
  record Stands (n : ℕ) (xs : List Instr) (q : ℕ) (x : Instr) : Type 0 where
    number : ℕ
    instr : Instr
    there : slice_get xs number ≡ Some instr
    is : x ≡ moved gap instr
    place : place_of gap n + q + 1 ≡ place_of gap (n + number + 1)

  later : (n width q : ℕ) (y : Instr) (ys : List Instr) (x : Instr) → place_of gap (n + 1) ≡ place_of gap n + width →
      (x ≡ Fence) ⊎ Stands (n + 1) ys q x → (x ≡ Fence) ⊎ Stands n (y ∷ ys) (width + q) x
  later n width q y ys x next (inl fence) = inl fence
  later n width q y ys x next (inr s) = inr (
      let same : place_of gap (n + 1 + s.number + 1) ≡ place_of gap (n + suc s.number + 1) = ap (place_of gap) (let e : n + 1 + s.number + 1 ≡ n + suc s.number + 1 = omega arith in e) in
      record { number = suc s.number; instr = s.instr; there = s.there; is = s.is; place = omega arith })

  first : (n q width : ℕ) (y : Instr) (ys : List Instr) (x : Instr) → place_of gap (n + 1) ≡ place_of gap n + width → q + 1 ≡ width → ◌≡◌ {A = Option Instr} (Some (moved gap y)) (Some x) → Stands n (y ∷ ys) q x
  first n q width y ys x next wide e =
      let same : place_of gap (n + 1) ≡ place_of gap (n + 0 + 1) = ap (place_of gap) (let z : n + 1 ≡ n + 0 + 1 = omega arith in z) in
      record { number = 0; instr = y; there = refl; is = (let z : moved gap y ≡ x = cc in sym z); place = omega arith }

  stands_first : (b : Bool) (n : ℕ) (y : Instr) (ys : List Instr) (q : ℕ) (x : Instr) → gap n ≡ b →
      ((r : ℕ) → slice_get (fenced_code gap (n + 1) ys) r ≡ Some x → (x ≡ Fence) ⊎ Stands (n + 1) ys r x) →
      slice_get ((if b then Fence ∷ [] else []) ++ moved gap y ∷ fenced_code gap (n + 1) ys) q ≡ Some x → (x ≡ Fence) ⊎ Stands n (y ∷ ys) q x
  stands_first true n y ys zero x is rest e = inl (let z : Fence ≡ x = cc in sym z)
  stands_first true n y ys (suc zero) x is rest e = inr (first n 1 2 y ys x (next_place true n is) refl e)
  stands_first true n y ys (suc (suc q)) x is rest e = let two : 2 + q ≡ suc (suc q) = omega arith in rw (← two) (later n 2 q y ys x (next_place true n is) (rest q e))
  stands_first false n y ys zero x is rest e = inr (first n 0 1 y ys x (next_place false n is) refl e)
  stands_first false n y ys (suc q) x is rest e = let one : 1 + q ≡ suc q = omega arith in rw (← one) (later n 1 q y ys x (next_place false n is) (rest q e))

  stands : (n : ℕ) (xs : List Instr) (q : ℕ) (x : Instr) → slice_get (fenced_code gap n xs) q ≡ Some x → (x ≡ Fence) ⊎ Stands n xs q x
  stands n [] q x e = absurd cc
  stands n (y ∷ ys) q x e = stands_first (gap n) n y ys q x refl (λ r. stands (n + 1) ys r x) e

  -- a moved instruction names the same location
  pub same_location : (x : Instr) → location_of (moved gap x) ≡ location_of x
  same_location (LoadImm r v) = refl
  same_location x = refl

  -- and jumps to the place of its target
  record Jumps (x : Instr) (target : ℕ) : Type 0 where
    aim : ℕ
    aims : target_of x ≡ Some aim
    place : target ≡ place_of gap aim

  jump : (x : Instr) (k target : ℕ) → target_of x ≡ Some k → ◌≡◌ {A = Option ℕ} (Some (place_of gap k)) (Some target) → Jumps x target
  jump x k target is e = record { aim = k; aims = is; place = (let z : place_of gap k ≡ target = cc in sym z) }

  jumps : (x : Instr) (target : ℕ) → target_of (moved gap x) ≡ Some target → Jumps x target
  jumps (Je k) target e = jump (Je k) k target refl e
  jumps (Jne k) target e = jump (Jne k) k target refl e
  jumps (Jmp k) target e = jump (Jmp k) k target refl e
  jumps x target e = absurd cc

  -- fences are no accesses
  one_access : (b : Bool) (x : Instr) (xs : List Instr) →
      count_by (λ i. is_some (location_of i)) ((if b then Fence ∷ [] else []) ++ x ∷ xs) ≡ cond (is_some (location_of x)) 1 0 + count_by (λ i. is_some (location_of i)) xs
  one_access true x xs =
      sum_by-cons (λ i. cond (is_some (location_of i)) 1 0) Fence (x ∷ xs) ∙ (let z = sum_by-cons (λ i. cond (is_some (location_of i)) 1 0) x xs in omega arith)
  one_access false x xs = sum_by-cons (λ i. cond (is_some (location_of i)) 1 0) x xs

  pub same_accesses : (n : ℕ) (xs : List Instr) → count_by (λ i. is_some (location_of i)) (fenced_code gap n xs) ≡ count_by (λ i. is_some (location_of i)) xs
  same_accesses n [] = refl
  same_accesses n (x ∷ xs) =
      one_access (gap n) (moved gap x) (fenced_code gap (n + 1) xs)
      ∙ ap (λ o. cond (is_some o) 1 0 + count_by (λ i. is_some (location_of i)) (fenced_code gap (n + 1) xs)) (same_location x)
      ∙ ap (λ m. cond (is_some (location_of x)) 1 0 + m) (same_accesses (n + 1) xs)
      ∙ sym (sum_by-cons (λ i. cond (is_some (location_of i)) 1 0) x xs)

all_accesses_same : (gaps : Gaps) (n : ℕ) (threads : List Thread) → sum_by accesses_of (fenced_threads gaps n threads) ≡ sum_by accesses_of threads
all_accesses_same gaps n [] = refl
all_accesses_same gaps n (thread ∷ threads) =
    sum_by-cons accesses_of (record { code = fenced_code (gaps n) 0 thread.code; registers = thread.registers }) (fenced_threads gaps (n + 1) threads)
    ∙ (λ i. same_accesses (gaps n) 0 thread.code i + all_accesses_same gaps (n + 1) threads i)
    ∙ sym (sum_by-cons accesses_of thread threads)

-- what an instruction of the fenced program stands for
record Instead (gaps : Gaps) (threads : List Thread) (t q : ℕ) (x : Instr) : Type 0 where
  number : ℕ
  instr : Instr
  there : instr_at threads t number ≡ Some instr
  is : x ≡ moved (gaps t) instr
  place : q + 1 ≡ place_of (gaps t) (number + 1)

instead : (gaps : Gaps) (threads : List Thread) (t q : ℕ) (x : Instr) → instr_at (fenced_threads gaps 0 threads) t q ≡ Some x → (x ≡ Fence) ⊎ Instead gaps threads t q x
instead gaps threads t q x e = go (stands (gaps t) 0 (code_of threads t) q x (ap (λ (xs : List Instr). slice_get xs q) (sym (fenced_code_of gaps t threads)) ∙ e))
  where
    go : (x ≡ Fence) ⊎ Stands (gaps t) 0 (code_of threads t) q x → (x ≡ Fence) ⊎ Instead gaps threads t q x
    go (inl fence) = inl fence
    go (inr s) = inr (
        let same : place_of (gaps t) (0 + s.number + 1) ≡ place_of (gaps t) (s.number + 1) = ap (place_of (gaps t)) (let z : 0 + s.number + 1 ≡ s.number + 1 = omega arith in z) in
        record { number = s.number; instr = s.instr; there = s.there; is = s.is; place = omega arith })

module _ (p : Listing) (gaps : Gaps) (w : IsWithinLimits p.threads p.memory) (before_first : (t : ℕ) → gaps t 0 ≡ false) where
  abbrev fenced : List Thread
  fenced = fenced_threads gaps 0 p.threads

  short : (t : ℕ) → length (code_of fenced t) ≤ MAX_FENCED_INSTRUCTIONS
  short t =
      let long : length (code_of fenced t) ≡ place_of (gaps t) (length (code_of p.threads t)) = ap length (fenced_code_of gaps t p.threads) ∙ ends (gaps t) (code_of p.threads t) in
      let h = place_small (gaps t) (MAX_INSTRUCTIONS - 1) (length (code_of p.threads t)) (before_first t) (w.shared.short_threads t) in
      omega arith

  located : (t q l : ℕ) (x : Instr) → instr_at fenced t q ≡ Some x → location_of x ≡ Some l → l < length p.memory
  located t q l x e is = go (instead gaps p.threads t q x e)
    where
      go : (x ≡ Fence) ⊎ Instead gaps p.threads t q x → l < length p.memory
      go (inl fence) = let z : location_of Fence ≡ Some l = ap location_of (sym fence) ∙ is in absurd cc
      go (inr i) = w.shared.located t i.number l i.instr i.there (sym (same_location (gaps t) i.instr) ∙ ap location_of (sym i.is) ∙ is)

  -- where a jump of the fenced program leads, and from where
  record Lands (t q target : ℕ) : Type 0 where
    from : ℕ
    aim : ℕ
    place : q + 1 ≡ place_of (gaps t) (from + 1)
    lands : target ≡ place_of (gaps t) aim
    forward : from < aim
    inner : aim ≤ length (code_of p.threads t)

  lands : (t q target : ℕ) (x : Instr) → instr_at fenced t q ≡ Some x → target_of x ≡ Some target → Lands t q target
  lands t q target x e is = go (instead gaps p.threads t q x e)
    where
      go : (x ≡ Fence) ⊎ Instead gaps p.threads t q x → Lands t q target
      go (inl fence) = let z : target_of Fence ≡ Some target = ap target_of (sym fence) ∙ is in absurd cc
      go (inr i) =
          let j = jumps (gaps t) i.instr target (ap target_of (sym i.is) ∙ is) in
          record {
            from = i.number;
            aim = j.aim;
            place = i.place;
            lands = j.place;
            forward = w.shared.forward_jumps t i.number j.aim i.instr i.there j.aims;
            inner = w.shared.inner_jumps t i.number j.aim i.instr i.there j.aims;
          }

  forward : (t q target : ℕ) (x : Instr) → instr_at fenced t q ≡ Some x → target_of x ≡ Some target → q < target
  forward t q target x e is =
      let l = lands t q target x e is in
      let up = rises (gaps t) (l.from + 1) l.aim (omega arith) in
      omega arith

  inner : (t q target : ℕ) (x : Instr) → instr_at fenced t q ≡ Some x → target_of x ≡ Some target → target ≤ length (code_of fenced t)
  inner t q target x e is =
      let l = lands t q target x e is in
      let up = rises (gaps t) l.aim (length (code_of p.threads t)) l.inner in
      let long : length (code_of fenced t) ≡ place_of (gaps t) (length (code_of p.threads t)) = ap length (fenced_code_of gaps t p.threads) ∙ ends (gaps t) (code_of p.threads t) in
      omega arith

  within : IsWithinFencedLimits fenced p.memory
  within =
      let count = same_count gaps 0 p.threads in
      let same = all_accesses_same gaps 0 p.threads in
      record {
        some_thread = omega arith;
        few_threads = omega arith;
        short_threads = short;
        few_locations = w.shared.few_locations;
        located = located;
        few_accesses = omega arith;
        forward_jumps = forward;
        inner_jumps = inner;
      }

pub fencing_stays_within_limits : FencingStaysWithinLimits
fencing_stays_within_limits p gaps w = within p (gaps_in p gaps) w (λ t. refl)
