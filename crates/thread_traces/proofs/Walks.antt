-- Walks along edges: a walk that comes back holds a cycle.
use Rattle.thread_traces.proofs.Vocabulary.{◌≡◌, ◌≢◌, ◌⊎◌, ℕ, zero, suc, List, [], ◌∷◌, ◌++◌, Some, slice_get, drop, Contains, sym, subst, inl, inr, arith, IsPermutation-remove, Contains-permutation, AllPairs, remove, Contains-get_or, slice_get_within}
use Rattle.thread_traces.proofs.Vocabulary.{get_or_from_slice_get, Event}
use Rattle.std.proofs.lemmas.List.Quantifiers.{all_pairs_push}
use Rattle.candidate_executions.specs.Consistency.{Leads, IsCycle}

-- each event of a path leads to the next, and the last to z
abbrev pub LeadsTo : (Event → Event → Type 0) → List Event → Event → Type 0
LeadsTo R [] z = Unit {0}
LeadsTo R (d ∷ es) z = Leads R d es z

-- a path with no event twice leads to an event that is new, and all others are open
pub record IsWalk (R : Event → Event → Type 0) (nodes path : List Event) (now : Event) (open_nodes : List Event) : Type 0 where
  pub leads : LeadsTo R path now
  pub distinct : AllPairs (λ d e. d ≢ e) path
  pub is_new : Contains path now → ⊥
  pub is_node : Contains nodes now
  pub covers : (e : Event) → Contains nodes e → Contains path e ⊎ ((e ≡ now) ⊎ Contains open_nodes e)

-- what is not the removed element stays
pub contains_remove : {A : Type 0} (xs : List A) (i : ℕ) (x e : A) → slice_get xs i ≡ Some x → Contains xs e → (e ≡ x) ⊎ Contains (remove xs i) e
contains_remove xs i x e at has = go (Contains-permutation xs (x ∷ remove xs i) e (IsPermutation-remove xs i x (slice_get_within xs i x at) (sym (get_or_from_slice_get xs i x x at))) has)
  where
    go : Contains (x ∷ remove xs i) e → (e ≡ x) ⊎ Contains (remove xs i) e
    go (zero, n, q) = inl (sym q)
    go (suc k, n, q) = inr (k, omega arith, q)

-- one more edge
leads_more : (R : Event → Event → Type 0) (es : List Event) (d now next : Event) → Leads R d es now → R now next → Leads R d (es ++ now ∷ []) next
leads_more R [] d now next h r = (h, r)
leads_more R (e ∷ es) d now next h r = (h.0, leads_more R es e now next h.1 r)

pub path_more : (R : Event → Event → Type 0) (es : List Event) (now next : Event) → LeadsTo R es now → R now next → LeadsTo R (es ++ now ∷ []) next
path_more R [] now next h r = r
path_more R (d ∷ es) now next h r = leads_more R es d now next h r

-- a path's end is a path
tail_leads : (R : Event → Event → Type 0) (d : Event) (es : List Event) (z : Event) → Leads R d es z → LeadsTo R es z
tail_leads R d [] z h = tt
tail_leads R d (e ∷ es) z h = h.1

pub path_drop : (R : Event → Event → Type 0) (es : List Event) (i : ℕ) (z : Event) → LeadsTo R es z → LeadsTo R (drop i es) z
path_drop R es zero z h = h
path_drop R [] (suc i) z h = tt
path_drop R (d ∷ es) (suc i) z h = path_drop R es i z (tail_leads R d es z h)

pub pairs_drop : (es : List Event) (i : ℕ) → AllPairs (λ d e. d ≢ e) es → AllPairs (λ d e. d ≢ e) (drop i es)
pairs_drop es zero h = h
pairs_drop [] (suc i) h = λ j k d p q. absurd (omega arith)
pairs_drop (e ∷ es) (suc i) h = pairs_drop es i (λ j k d p q. h (suc j) (suc k) d (omega arith) (omega arith))

-- a path that leads to its own event is a cycle from there on
pub round : (R : Event → Event → Type 0) (es : List Event) (i : ℕ) (z : Event) → slice_get es i ≡ Some z → LeadsTo R (drop i es) z → IsCycle R (drop i es)
round R (e ∷ es) zero z at h = let same : e ≡ z = cc in subst (λ y. Leads R e es y) (sym same) h
round R (e ∷ es) (suc i) z at h = round R es i z at h
round R [] i z at h = absurd cc

pub distinct_more : (es : List Event) (now : Event) → AllPairs (λ d e. d ≢ e) es → (Contains es now → ⊥) → AllPairs (λ d e. d ≢ e) (es ++ now ∷ [])
distinct_more es now h n = all_pairs_push (λ d e. d ≢ e) es now h (λ k d l q. n (subst (Contains es) q (Contains-get_or es k d l)))

-- a walk begins
pub walk_begins : (R : Event → Event → Type 0) (nodes : List Event) (x : Event) → slice_get nodes 0 ≡ Some x → IsWalk R nodes [] x (remove nodes 0)
walk_begins R nodes x at = record {
  leads = tt;
  distinct = λ i j d p q. absurd (omega arith);
  is_new = λ h. (let n = h.1 in omega arith);
  is_node = subst (Contains nodes) (get_or_from_slice_get nodes 0 x x at) (Contains-get_or nodes 0 x (slice_get_within nodes 0 x at));
  covers = λ e h. inr (contains_remove nodes 0 x e at h);
}
