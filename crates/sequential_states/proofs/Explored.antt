-- A list of explored states that has the start has, for each instruction that some sequential run executes, a state where it is next.
use Rattle.sequential_states.proofs.Vocabulary.{◌≡◌, ◌<◌, ℕ, suc, zero, length, List, [], ◌∷◌, ◌++◌, Some, None, refl, sym, ap, ◌∙◌, subst, arith, inl, inr, cases_lt, same_Some, slice_get_within}
use Rattle.sequential_states.proofs.Vocabulary.{Listing, Local, Label, Exec, Flush, SequentialMachine, State, action, direct, step, run, start, no_action, state_of, IsLocal, Listed, IsListed, AreReached, IsFollowed, IsLocallyFollowed, IsExplored, IsPlaceAt, IsExecuted}
use Rattle.sequential_states.proofs.RunParts.{run_parted, first_step}
use Rattle.sequential_states.proofs.LocalFirst.{with_local, local_goes, GoesTo, Ends, ends_after, ComesTo, comes_here, comes_after, IsMovedFirst, local_first}

module _ (p : Listing) where
  -- steps that lead to the state come to the instruction there
  comes_by : (t k : ℕ) (before : List Label) (s state : State) (rest : List Label) → run p SequentialMachine s before ≡ Some state → (state.locals t).place ≡ k → ComesTo p t k s (before ++ rest)
  comes_by t k [] s state rest e h = comes_here p t k s rest (ap (λ (z : State). (z.locals t).place) (same_Some s state e) ∙ h)
  comes_by t k (l ∷ before) s state rest e h = let (next, made, more) = first_step p s state l before e in inr (next, made, comes_by t k before next state rest more h)

  -- a thread that makes a step is there
  makes_step : (t : ℕ) (s next : State) → step p SequentialMachine s (Exec t) ≡ Some next → t < length p.threads
  makes_step t s next made = elim (cases_lt t (length p.threads)) [
    | inl h ↦ h
    | inr h ↦ absurd (let z : None ≡ Some next = sym (ap (direct s t) (no_action p t (s.locals t) h)) ∙ made in cc)
  ]

  module _ (listed : List Listed) (reached : AreReached p listed) (t k : ℕ) (inside : t < length p.threads) where
    abbrev Found : Type 0
    Found = (place : ℕ) × IsPlaceAt listed t k place

    found_at : (s : State) → IsListed listed s → (s.locals t).place ≡ k → Found
    found_at s is h = (
      is.place,
      record {
        found = is.found;
        there = is.there;
        stands = record {
          there = (let fits = (reached is.place is.found is.there).fits.threads in omega arith);
          next = ap (λ (z : State). (z.locals t).place) is.same ∙ h;
        };
      },
    )

    -- what is found from the listed states from which a run of so many steps comes to the instruction
    abbrev FindsAfter : ℕ → Type 0
    FindsAfter n = (labels : List Label) (s : State) → length labels ≡ n → IsListed listed s → Ends p s labels → ComesTo p t k s labels → Found

    -- the state after a step that was followed is listed
    stepped : (s next : State) (v : ℕ) (is : IsListed listed s) → IsFollowed p listed is.place v → step p SequentialMachine s (Exec v) ≡ Some next → IsListed listed next
    stepped s next v is followed e = followed is.found next is.there (ap (λ z. step p SequentialMachine z (Exec v)) is.same ∙ e)

    -- each step was followed
    by_each : (n : ℕ) → FindsAfter n → (labels : List Label) (s : State) → length labels ≡ suc n → (is : IsListed listed s) → ((v : ℕ) → IsFollowed p listed is.place v) → Ends p s labels → ComesTo p t k s labels → Found
    by_each n finds [] s size is all ends comes = absurd (omega arith)
    by_each n finds (Flush v ∷ labels) s size is all (last, e, ended) comes = absurd cc
    by_each n finds (Exec v ∷ labels) s size is all ends comes =
        let (next, made, rest) = first_step p s ends.0 (Exec v) labels ends.1 in
        elim (comes_after p t k s next (Exec v) labels made comes) [
          | inl h ↦ found_at s is h
          | inr c ↦ finds labels next (omega arith) (stepped s next v is (all v) made) (ends_after p s next (Exec v) labels made ends) c
        ]

    -- where thread u's step leads it, if it is local
    leads_to : (s : State) (is : IsListed listed s) (u : ℕ) → IsLocallyFollowed p listed is.place u → (next : Local) × GoesTo p s u next
    leads_to s is u by =
        let same : by.entry ≡ is.found = same_Some by.entry is.found (sym by.there ∙ is.there) in
        let at : state_of by.entry.state ≡ s = ap (λ (x : Listed). state_of x.state) same ∙ is.same in
        let (next, goes) = local_goes (action p.threads u (s.locals u)) (subst (λ (z : State). IsLocal (action p.threads u (z.locals u))) at by.local) in
        (next, λ z. goes z u)

    -- one local step was followed
    by_local : (n : ℕ) → FindsAfter n → (labels : List Label) (s : State) → length labels ≡ suc n → (is : IsListed listed s) → (u : ℕ) → IsLocallyFollowed p listed is.place u → Ends p s labels → ComesTo p t k s labels → Found
    by_local n finds labels s size is u by ends comes =
        let (next, goes) = leads_to s is u by in
        let moved : IsMovedFirst p t k u next s labels = local_first p t k u next labels s goes ends in
        elim (moved.comes comes) [
          | inl h ↦ found_at s is h
          | inr c ↦ finds moved.others (with_local s u next) (let shorter = moved.shorter in omega arith) (stepped s (with_local s u next) u is by.followed (goes s)) moved.ends c
        ]

    module _ (explored : (place : ℕ) → place < length listed → IsExplored p listed place) where
      finds_after : (n : ℕ) → FindsAfter n
      finds_after zero [] s size is ends comes = found_at s is comes
      finds_after zero (l ∷ labels) s size is ends comes = absurd (omega arith)
      finds_after (suc n) labels s size is ends comes = elim (explored is.place (slice_get_within listed is.place is.found is.there)) [
        | inl all ↦ by_each n (finds_after n) labels s size is all ends comes
        | inr (u, by) ↦ by_local n (finds_after n) labels s size is u by ends comes
      ]

  -- so an instruction that some run executes is the next one at a listed state
  module _ (listed : List Listed) (begins : IsListed listed (start p)) (reached : AreReached p listed) (explored : (place : ℕ) → place < length listed → IsExplored p listed place) where
    pub is_next : (t k : ℕ) → IsExecuted p t k → (place : ℕ) × IsPlaceAt listed t k place
    is_next t k executed =
        let (labels, through) = executed in
        let (o, is_run, by) = through in
        let (last, ran, ended, shows) = is_run in
        let (middle, first, rest) = run_parted p (start p) last by.before (Exec t ∷ by.after) (subst (λ z. run p SequentialMachine (start p) z ≡ Some last) by.split ran) in
        let (next, made, after) = first_step p middle last (Exec t) by.after rest in
        finds_after listed reached t k (makes_step t middle next made) explored (length labels) labels (start p) refl begins (last, ran, ended)
        (subst (ComesTo p t k (start p)) (sym by.split) (comes_by t k by.before (start p) by.state (Exec t ∷ by.after) by.reached by.next))
