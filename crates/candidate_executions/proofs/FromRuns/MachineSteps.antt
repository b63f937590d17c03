-- The steps of the store buffer machine, by cases.
use Rattle.candidate_executions.proofs.Vocabulary.{◌≡◌, ℕ, suc, ◌<◌, ◌≤◌, Bool, true, false, List, [], ◌∷◌, ◌++◌, ◌==◌, Some, option_and_then, refl, sym, ap, ◌∙◌, arith, length, length-append, eq-eqb, ne_eqb, if◌then◌else◌, Listing, action, Gaps, put}
use Rattle.candidate_executions.proofs.Vocabulary.{StoreBufferMachine, State, past_gap, buffered, step, run, Label, Exec, Flush, Pending, exec_by, flush_by}
use Rattle.candidate_executions.proofs.{Orders.Lists.put_same, Orders.Lists.put_each, FromRuns.FlushesDue.due}

-- an instruction is executed where a fenced gap before it lets it
pub exec_ok : (p : Listing) (gaps : Gaps) (s s' : State) (t : ℕ) → (gaps t (s.locals t).place ≡ true → s.buffers t ≡ []) → buffered s t (action p.threads t (s.locals t)) ≡ Some s' →
    step p (StoreBufferMachine gaps) s (Exec t) ≡ Some s'
exec_ok p gaps s s' t g h = go (gaps t (s.locals t).place) g
  where
    go : (b : Bool) → (b ≡ true → s.buffers t ≡ []) → option_and_then (λ z. buffered z t (action p.threads t (s.locals t))) (past_gap b (s.buffers t) s) ≡ Some s'
    go true f = ap (λ ws. option_and_then (λ z. buffered z t (action p.threads t (s.locals t))) (past_gap true ws s)) (f refl) ∙ h
    go false f = h

pub grown_here : (bs : ℕ → List Pending) (t : ℕ) (w : Pending) (m : ℕ) → length (put bs t (bs t ++ w ∷ []) t) ≤ m → length (bs t) < m
grown_here bs t w m h = let z : length (bs t ++ w ∷ []) ≤ m = rw put_same at h in omega (arith, length-append (bs t) (w ∷ []))

grown : (bs : ℕ → List Pending) (u t : ℕ) (w : Pending) (m : ℕ) → length (put bs u (bs u ++ w ∷ []) t) ≤ m → length (bs t) ≤ m
grown bs u t w m = put_each (λ t b. length b ≤ m → length (bs t) ≤ m) bs u (bs u ++ w ∷ []) (λ h. omega (arith, length-append (bs u) (w ∷ []))) (λ t q h. h) t

shrunk : (bs : ℕ → List Pending) (u t n : ℕ) (w : Pending) (ws : List Pending) (rest : List ℕ) → bs u ≡ w ∷ ws →
    length (put bs u ws t) ≤ length rest → length (bs t) ≤ length (if u == t then n ∷ rest else rest)
shrunk bs u t n w ws rest e = put_each (λ t b. length b ≤ length rest → length (bs t) ≤ length (if u == t then n ∷ rest else rest)) bs u ws
    (λ h. rw (eq-eqb u u refl, e) (omega arith)) (λ t q h. rw (ne_eqb u t (λ a. q (sym a))) h) t

-- a run that ends with an empty buffer flushes each store that waits
pub enough : (p : Listing) (gaps : Gaps) (t : ℕ) (last : State) → last.buffers t ≡ [] → (ls : List Label) (s : State) (n : ℕ) →
    run p (StoreBufferMachine gaps) s ls ≡ Some last → length (s.buffers t) ≤ length (due t n ls)
enough p gaps t last z [] s n h = let e : s ≡ last = cc in rw (e, z) (omega arith)
enough p gaps t last z (Exec u ∷ ls) s n h = exec_by last (λ next. run p (StoreBufferMachine gaps) next ls) p gaps s u _ h
    (λ next e g r. enough p gaps t last z ls _ (suc n) r)
    (λ next e g r. enough p gaps t last z ls _ (suc n) r)
    (λ l to next e g r. enough p gaps t last z ls _ (suc n) r)
    (λ l v next e g r. grown s.buffers u t (record { location = l; value = v }) (length (due t (suc n) ls)) (enough p gaps t last z ls _ (suc n) r))
    (λ l v to next e g r. enough p gaps t last z ls _ (suc n) r)
enough p gaps t last z (Flush u ∷ ls) s n h = flush_by last (λ next. run p (StoreBufferMachine gaps) next ls) p gaps s u _ h
    (λ w ws e r. shrunk s.buffers u t n w ws (due t (suc n) ls) e (enough p gaps t last z ls _ (suc n) r))
