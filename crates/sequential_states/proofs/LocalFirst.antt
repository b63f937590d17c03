-- A step that reads and writes no location can be made first: the steps of other threads before it stay possible, and pass through states
-- that differ in its thread alone.
use Rattle.sequential_states.proofs.Vocabulary.{◌≡◌, ◌⊎◌, ℕ, suc, ◌==◌, Bool, true, false, List, [], ◌∷◌, Some, None, length, refl, sym, ap, ◌∙◌, subst, inl, inr, cases_eq, eqb-true, option_and_then, same_Some, fun_ext, if◌then◌else◌}
use Rattle.sequential_states.proofs.Vocabulary.{Action, Stop, Go, Wait, Read, Write, Swap, Local, Listing, loaded, action, Exec, Flush, Label, SequentialMachine, State, direct, put, put_other, run, step, HasEnded, IsLocal}
use Rattle.sequential_states.proofs.RunParts.{first_step}
use Rattle.sequential_states.proofs.Ending.{stays}

-- a state with another own state of a thread
abbrev pub with_local : State → ℕ → Local → State
with_local s u next = record s { locals = put s.locals u next }

-- where a local action leads its thread, whatever the others and the locations hold
pub local_goes : (a : Action) → IsLocal a → (next : Local) × ((s : State) (t : ℕ) → direct s t a ≡ Some (with_local s t next))
local_goes Stop h = absurd h
local_goes (Go x) h = (x, λ s t. refl)
local_goes (Wait x) h = (x, λ s t. refl)
local_goes (Read l to x) h = absurd h
local_goes (Write l v x) h = absurd h
local_goes (Swap l v to x) h = absurd h

swap_tests : {A : Type 0} (a b : Bool) (x y z : A) → (a ≡ true → b ≡ true → ⊥) → (if a then x else (if b then y else z)) ≡ (if b then y else (if a then x else z))
swap_tests true true x y z n = absurd (n refl refl)
swap_tests true false x y z n = refl
swap_tests false true x y z n = refl
swap_tests false false x y z n = refl

put_swap : {A : Type 0} (f : ℕ → A) (t u : ℕ) (x y : A) → (t ≡ u → ⊥) → put (put f u y) t x ≡ put (put f t x) u y
put_swap f t u x y n = fun_ext (λ k. swap_tests (k == t) (k == u) x y (f k) (λ a b. n (sym (eqb-true k t a) ∙ eqb-true k u b)))

module _ (p : Listing) where
  -- thread u's step from the state leads the thread to this state of its own, and does nothing else
  abbrev pub GoesTo : State → ℕ → Local → Type 0
  GoesTo s u next = (z : State) → direct z u (action p.threads u (s.locals u)) ≡ Some (with_local z u next)

  -- another thread's step is possible after it, too
  commutes : (s after : State) (t u : ℕ) (next : Local) → (t ≡ u → ⊥) → step p SequentialMachine s (Exec t) ≡ Some after → step p SequentialMachine (with_local s u next) (Exec t) ≡ Some (with_local after u next)
  commutes s after t u next n e = ap (λ l. direct (with_local s u next) t (action p.threads t l)) (put_other s.locals u next t n) ∙ go (action p.threads t (s.locals t)) e
    where
      by : (x : Local) (memory : ℕ → ℕ) → Some (record s { locals = put s.locals t x; memory = memory }) ≡ Some after →
          Some (record s { locals = put (put s.locals u next) t x; memory = memory }) ≡ Some (with_local after u next)
      by x memory r = ap (λ locals. Some (record s { locals = locals; memory = memory })) (put_swap s.locals t u x next n) ∙ ap (λ (z : State). Some (with_local z u next)) (same_Some _ after r)

      go : (a : Action) → direct s t a ≡ Some after → direct (with_local s u next) t a ≡ Some (with_local after u next)
      go Stop r = absurd cc
      go (Go x) r = by x s.memory r
      go (Wait x) r = by x s.memory r
      go (Read l to x) r = by (loaded to (s.memory l) x) s.memory r
      go (Write l v x) r = by x (put s.memory l v) r
      go (Swap l v to x) r = by (loaded to (s.memory l) x) (put s.memory l v) r

  -- the labels lead from the state to one where each thread is at its end
  abbrev pub Ends : State → List Label → Type 0
  Ends s labels = (last : State) × (run p SequentialMachine s labels ≡ Some last) × HasEnded p last

  pub ends_after : (s after : State) (l : Label) (labels : List Label) → step p SequentialMachine s l ≡ Some after → Ends s (l ∷ labels) → Ends after labels
  ends_after s after l labels made (last, e, ended) = (last, sym (ap (option_and_then (λ z. run p SequentialMachine z labels)) made) ∙ e, ended)

  pub ends_before : (s after : State) (l : Label) (labels : List Label) → step p SequentialMachine s l ≡ Some after → Ends after labels → Ends s (l ∷ labels)
  ends_before s after l labels made (last, e, ended) = (last, ap (option_and_then (λ z. run p SequentialMachine z labels)) made ∙ e, ended)

  -- the labels lead from the state through one where instruction k is thread t's next
  abbrev pub ComesTo : ℕ → ℕ → State → List Label → Type 0
  ComesTo t k s [] = (s.locals t).place ≡ k
  ComesTo t k s (l ∷ labels) = ((s.locals t).place ≡ k) ⊎ ((next : State) × (step p SequentialMachine s l ≡ Some next) × ComesTo t k next labels)

  pub comes_here : (t k : ℕ) (s : State) (labels : List Label) → (s.locals t).place ≡ k → ComesTo t k s labels
  comes_here t k s [] h = h
  comes_here t k s (l ∷ labels) h = inl h

  -- it is next at once, or after the first step
  pub comes_after : (t k : ℕ) (s after : State) (l : Label) (labels : List Label) → step p SequentialMachine s l ≡ Some after → ComesTo t k s (l ∷ labels) → ((s.locals t).place ≡ k) ⊎ ComesTo t k after labels
  comes_after t k s after l labels made (inl h) = inl h
  comes_after t k s after l labels made (inr (z, m, c)) = inr (subst (λ y. ComesTo t k y labels) (same_Some z after (sym m ∙ made)) c)

  module _ (t k u : ℕ) (next : Local) where
    -- labels that lead to ends after thread u's step, one fewer, and through what those before lead through
    pub record IsMovedFirst (s : State) (labels : List Label) : Type 0 where
      pub others : List Label
      pub shorter : suc (length others) ≡ length labels
      pub ends : Ends (with_local s u next) others
      pub comes : ComesTo t k s labels → ((s.locals t).place ≡ k) ⊎ ComesTo t k (with_local s u next) others

    -- where the first label is thread u's own
    own_first : (v : ℕ) (labels : List Label) (s : State) → GoesTo s u next → v ≡ u → Ends s (Exec v ∷ labels) → IsMovedFirst s (Exec v ∷ labels)
    own_first v labels s goes q ends =
        let made : step p SequentialMachine s (Exec v) ≡ Some (with_local s u next) = ap (λ w. step p SequentialMachine s (Exec w)) q ∙ goes s in
        record { others = labels; shorter = refl; ends = ends_after s (with_local s u next) (Exec v) labels made ends; comes = comes_after t k s (with_local s u next) (Exec v) labels made }

    -- where it is another thread's, after which the labels are moved
    module _ (v : ℕ) (labels : List Label) (s after : State) (n : v ≡ u → ⊥) (made : step p SequentialMachine s (Exec v) ≡ Some after) (rest : IsMovedFirst after labels) where
      other : step p SequentialMachine (with_local s u next) (Exec v) ≡ Some (with_local after u next)
      other = commutes s after v u next n made

      same_own : after.locals u ≡ s.locals u
      same_own = stays p s v after made u (λ q. n (sym q))

      at_after : (after.locals t).place ≡ k → ((s.locals t).place ≡ k) ⊎ ComesTo t k (with_local s u next) (Exec v ∷ rest.others)
      at_after h = elim (cases_eq t u) [
        | inl q ↦ inl (ap (λ w. (s.locals w).place) q ∙ sym (ap (λ (l : Local). l.place) same_own) ∙ sym (ap (λ w. (after.locals w).place) q) ∙ h)
        | inr d ↦ inr (inr (with_local after u next, other, comes_here t k (with_local after u next) rest.others (ap (λ (l : Local). l.place) (put_other after.locals u next t d) ∙ h)))
      ]

      later : ((after.locals t).place ≡ k) ⊎ ComesTo t k (with_local after u next) rest.others → ((s.locals t).place ≡ k) ⊎ ComesTo t k (with_local s u next) (Exec v ∷ rest.others)
      later (inl h) = at_after h
      later (inr c) = inr (inr (with_local after u next, other, c))

      comes_moved : ((s.locals t).place ≡ k) ⊎ ComesTo t k after labels → ((s.locals t).place ≡ k) ⊎ ComesTo t k (with_local s u next) (Exec v ∷ rest.others)
      comes_moved (inl h) = inl h
      comes_moved (inr c) = later (rest.comes c)

      other_first : IsMovedFirst s (Exec v ∷ labels)
      other_first = record {
        others = Exec v ∷ rest.others;
        shorter = ap suc rest.shorter;
        ends = ends_before (with_local s u next) (with_local after u next) (Exec v) rest.others other rest.ends;
        comes = λ c. comes_moved (comes_after t k s after (Exec v) labels made c);
      }

    -- thread u is not at its end, so it makes its step somewhere
    never_ended : (s : State) → GoesTo s u next → Ends s [] → ⊥
    never_ended s goes (last, e, ended) =
        let q : last ≡ s = same_Some last s (sym e) in
        let stop : action p.threads u (s.locals u) ≡ Stop = subst (λ (z : State). action p.threads u (z.locals u) ≡ Stop) q (ended u).0 in
        let z : None ≡ Some (with_local s u next) = sym (ap (direct s u) stop) ∙ goes s in
        cc

    -- so its step can be made first
    pub local_first : (labels : List Label) (s : State) → GoesTo s u next → Ends s labels → IsMovedFirst s labels
    local_first [] s goes ends = absurd (never_ended s goes ends)
    local_first (Flush v ∷ labels) s goes (last, e, ended) = absurd cc
    local_first (Exec v ∷ labels) s goes ends =
        let (after, made, rest) = first_step p s ends.0 (Exec v) labels ends.1 in
        elim (cases_eq v u) [
          | inl q ↦ own_first v labels s goes q ends
          | inr n ↦ other_first v labels s after n made
              (local_first labels after
              (subst (λ l. (z : State) → direct z u (action p.threads u l) ≡ Some (with_local z u next)) (sym (stays p s v after made u (λ q. n (sym q)))) goes)
              (ends_after s after (Exec v) labels made ends))
        ]
