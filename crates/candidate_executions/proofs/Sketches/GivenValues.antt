-- The values given to the threads: none at first, and one more for one thread.
use Rattle.candidate_executions.proofs.Vocabulary.{◌≡◌, ◌≢◌, ℕ, suc, ◌<◌, List, [], ◌∷◌, ◌++◌, Some, None, length, map, refl, sym, ap, ◌∙◌, inl, inr, append-nil, cases_eq, cases_lt, Thread, Listing, Machine, trace_by, slice_get, unwrap_or, Sketch}
use Rattle.candidate_executions.proofs.Vocabulary.{empty_sketch, given_to, IsPrefixOf, with_value, read_by, next_read}
use Rattle.tso_machine.proofs.Runs.{no_action}
use Rattle.candidate_executions.proofs.Orders.Lists.{get_set_same, get_set_other}

-- no thread of the empty sketch has a value
pub none_given : (p : Listing) (t : ℕ) → given_to (empty_sketch p) t ≡ []
none_given p t = go p.threads t
  where
    go : (threads : List Thread) (t : ℕ) → unwrap_or {T = List ℕ} (slice_get (map (λ thread. []) threads) t) [] ≡ []
    go (x ∷ xs) (suc t) = go xs t
    go threads t = refl

pub given_same : (k : Sketch) (t v : ℕ) → t < length k.given → given_to (with_value k t v) t ≡ given_to k t ++ v ∷ []
given_same k t v h = ap (λ o. unwrap_or o []) (get_set_same k.given t (given_to k t ++ v ∷ []) h)

pub given_other : (k : Sketch) (t v u : ℕ) → u ≢ t → given_to (with_value k t v) u ≡ given_to k u
given_other k t v u ne = ap (λ o. unwrap_or o []) (get_set_other k.given t (given_to k t ++ v ∷ []) u ne)

-- the values with one more for thread t
pub longer : (k : Sketch) (t v : ℕ) → t < length k.given → (u : ℕ) → IsPrefixOf (given_to k u) (given_to (with_value k t v) u)
longer k t v h u = elim (cases_eq u t) [
  | inl q ↦ (v ∷ [], ap (λ z. given_to k z ++ v ∷ []) q ∙ sym (given_same k t v h) ∙ ap (given_to (with_value k t v)) (sym q))
  | inr ne ↦ ([], append-nil (given_to k u) ∙ sym (given_other k t v u ne))
]

-- a thread with a next read is there
pub reads_there : (p : Listing) (mode : Machine) (k : Sketch) (t l : ℕ) → next_read p mode k t ≡ Some l → t < length p.threads
reads_there p mode k t l next = elim (cases_lt t (length p.threads)) [
  | inl h ↦ h
  | inr h ↦ absurd (let z : None ≡ Some l = sym (ap read_by (no_action p t (trace_by p mode (given_to k) t).last h)) ∙ next in cc)
]
