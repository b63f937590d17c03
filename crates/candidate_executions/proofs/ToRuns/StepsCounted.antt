-- The steps of a thread are one for each access of its trace, and rise.
use Rattle.candidate_executions.proofs.Vocabulary.{◌≡◌, ℕ, suc, zero, ◌<◌, ◌≤◌, List, ◌∷◌, Bool, Some, slice_get, drop, refl, ap, length, arith, same_Some, loaded, Go, Wait, Read, Write, Swap, Action, Local, trace, traced, entered, Steps, steps, counted}
use Rattle.candidate_executions.proofs.Vocabulary.{made_at}
use Rattle.candidate_executions.proofs.Orders.Dropped.{drop_head}

module _ (does : Local → Action) where
  -- an access comes after more instructions than were executed before
  pub later : (k n : ℕ) (s : Local) (given : List ℕ) (i m : ℕ) → slice_get (steps does k n s given).accesses i ≡ Some m → n < m
  later zero n s given i m h = absurd cc
  later (suc k) n s given i m h = go (does s) given i h (later k)
    where
      go : (a : Action) (given : List ℕ) (i : ℕ) → slice_get (counted (steps does k) n a given).accesses i ≡ Some m →
          ((n : ℕ) (s : Local) (given : List ℕ) (i m : ℕ) → slice_get (steps does k n s given).accesses i ≡ Some m → n < m) → n < m
      go (Go next) given i h ih = let z = ih (suc n) next given i m h in omega arith
      go (Wait next) given i h ih = let z = ih (suc n) next given i m h in omega arith
      go (Write l v next) given zero h ih = let z : suc n ≡ m = same_Some _ m h in omega arith
      go (Write l v next) given (suc i) h ih = let z = ih (suc n) next given i m h in omega arith
      go (Read l to next) (v ∷ given) zero h ih = let z : suc n ≡ m = same_Some _ m h in omega arith
      go (Read l to next) (v ∷ given) (suc i) h ih = let z = ih (suc n) (loaded to v next) given i m h in omega arith
      go (Swap l w to next) (v ∷ given) zero h ih = let z : suc n ≡ m = same_Some _ m h in omega arith
      go (Swap l w to next) (v ∷ given) (suc i) h ih = let z = ih (suc n) (loaded to v next) given i m h in omega arith
      go a given i h ih = absurd cc

  -- there are not fewer in all than were executed before
  pub all_above : (k n : ℕ) (s : Local) (given : List ℕ) → n ≤ (steps does k n s given).all
  all_above zero n s given = omega arith
  all_above (suc k) n s given = go (does s) given (all_above k)
    where
      go : (a : Action) (given : List ℕ) → ((n : ℕ) (s : Local) (given : List ℕ) → n ≤ (steps does k n s given).all) → n ≤ (counted (steps does k) n a given).all
      go (Go next) given ih = let z = ih (suc n) next given in omega arith
      go (Wait next) given ih = let z = ih (suc n) next given in omega arith
      go (Write l v next) given ih = let z = ih (suc n) next given in omega arith
      go (Read l to next) (v ∷ given) ih = let z = ih (suc n) (loaded to v next) given in omega arith
      go (Swap l w to next) (v ∷ given) ih = let z = ih (suc n) (loaded to v next) given in omega arith
      go a given ih = omega arith

  pub same_length : (gap : ℕ → Bool) (k n m : ℕ) (s : Local) (given : List ℕ) → length (steps does k n s given).accesses ≡ length (trace does gap k m s given).accesses
  same_length gap zero n m s given = refl
  same_length gap (suc k) n m s given = go (does s) given (same_length gap k)
    where
      go : (a : Action) (given : List ℕ) →
          ((n m : ℕ) (s : Local) (given : List ℕ) → length (steps does k n s given).accesses ≡ length (trace does gap k m s given).accesses) →
          length (counted (steps does k) n a given).accesses ≡ length (traced (trace does gap k) (entered (gap s.place) m) s a given).accesses
      go (Go next) given ih = ih (suc n) (entered (gap s.place) m) next given
      go (Wait next) given ih = ih (suc n) (suc (entered (gap s.place) m)) next given
      go (Write l v next) given ih = ap suc (ih (suc n) (entered (gap s.place) m) next given)
      go (Read l to next) (v ∷ given) ih = ap suc (ih (suc n) (entered (gap s.place) m) (loaded to v next) given)
      go (Swap l w to next) (v ∷ given) ih = ap suc (ih (suc n) (suc (entered (gap s.place) m)) (loaded to v next) given)
      go a given ih = refl

-- the first of the steps that are left is that of the next access
pub tail_counts : (n d : ℕ) (rest whole : Steps) → made_at n rest ≡ record { accesses = drop d whole.accesses; all = whole.all } →
    (slice_get whole.accesses d ≡ Some n) × (rest ≡ record { accesses = drop (suc d) whole.accesses; all = whole.all })
tail_counts n d rest whole e =
    let (x, y) = drop_head d whole.accesses rest.accesses n (ap (λ (z : Steps). z.accesses) e) in
    (x, λ i. record { accesses = y i; all = (ap (λ (z : Steps). z.all) e) i })
