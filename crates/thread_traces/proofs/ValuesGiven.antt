-- A value that is taken back.
use Rattle.thread_traces.proofs.Vocabulary.{◌≡◌, ℕ, suc, List, [], ◌∷◌, slice_get, set, refl, ap, unwrap_or}

pub given_back : (given : List (List ℕ)) (t : ℕ) (x : List ℕ) → set (set given t x) t (unwrap_or (slice_get given t) []) ≡ given
given_back (y ∷ ys) (suc t) x = ap (λ zs. y ∷ zs) (given_back ys t x)
given_back given t x = refl
