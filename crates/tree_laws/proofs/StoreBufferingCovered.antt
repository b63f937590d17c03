-- Store buffering: its cover tree is valid in each mode, given the cycle of the mode.
use Rattle.tree_laws.proofs.Vocabulary.{◌≢◌, is_some, ◌≡◌, ℕ, zero, suc, ◌<◌, List, [], ◌∷◌, Some, Contains, slice_get, slice_index, map, refl, sym, ap, ◌∙◌, subst, inl, inr, arith, lit<, AllPairs, same_Some, Outcome, All, Machine, Access, Event, Initial, At}
use Rattle.tree_laws.proofs.Vocabulary.{Kind, access_by, Writes, Sketch, empty_sketch, given_to, IsStrictlyIncreasing, IsKnownCycle, with_value, with_source, IsSourceOf, MayBeLast, MustEndAs, ComesBefore, event_of, MustEndAsNumber, HasNextValues, HasSources, AreChoices}
use Rattle.tree_laws.proofs.Vocabulary.{IsValidCover, Question, asked, store_buffering, ends_with, around, cover_of}
use Rattle.cert_forest.specs.{AccessId.AccessId, StoreBuffering.access}
use Rattle.tree_laws.specs.declared.choice.Choice.TheVariants as choice
use Rattle.tree_laws.specs.declared.choice.OpenChoice.TheVariants as left
use Rattle.tree_laws.proofs.Lists.{none_here, first_or_later, first_is_here}
use Rattle.tree_laws.proofs.StoreBufferingValues.{zero_one, values, both, whole, writes_one, writes_initial}

-- all is shown
abbrev pub question : Question
question = asked store_buffering All

-- both threads' EAX in the end
abbrev pub end_of : ℕ → ℕ → Outcome
end_of a b = ends_with a 0 b 0 1 1

-- the sequential outcomes
abbrev pub outcomes : List Outcome
outcomes = end_of 0 1 ∷ end_of 1 0 ∷ end_of 1 1 ∷ []

pub ascending : IsStrictlyIncreasing zero_one
ascending zero h = lit< tt
ascending (suc k) h = absurd (omega arith)

pub alone : (s : Event) → AllPairs ComesBefore (s ∷ [])
alone s i j d first within = absurd (omega arith)

-- the thread of an access
abbrev thread_of : Event → ℕ
thread_of (Initial l) = 0
thread_of (At t i) = t

another_thread : (d e : Event × Event) → thread_of d.0 ≡ 0 → thread_of e.0 ≡ 1 → d ≡ e → ⊥
another_thread d e first second same = let one : thread_of d.0 ≡ thread_of e.0 = ap (λ (z : Event × Event). thread_of z.0) same in omega arith

module _ (mode : Machine) where
  first_next : HasNextValues store_buffering mode (empty_sketch store_buffering) 0 zero_one
  first_next = record { location = 1; next = refl; ascending = ascending; exact = values 1 (lit< tt) }

  second_next : (a : ℕ) → HasNextValues store_buffering mode (with_value (empty_sketch store_buffering) 0 a) 1 zero_one
  second_next a = record { location = 0; next = refl; ascending = ascending; exact = values 0 (lit< tt) }

  -- a location's initial write is not its last, since a thread's first access writes to it
  not_last : (a b l : ℕ) → l < 2 → MayBeLast store_buffering mode (both a b) l (Initial l) → ⊥
  not_last a b zero h last = let same : At 0 0 ≡ Initial 0 = last.only_initial refl (At 0 0) 1 (_, refl, refl, refl) in cc
  not_last a b (suc zero) h last = let same : At 1 0 ≡ Initial 1 = last.only_initial refl (At 1 0) 1 (_, refl, refl, refl) in cc
  not_last a b (suc (suc l)) h last = omega arith

  ones : (l : ℕ) → l < 2 → 1 ≡ slice_index (1 ∷ 1 ∷ []) l
  ones (suc (suc l)) h = absurd (omega arith)
  ones l h = refl

  last_writes : (a b l v : ℕ) (e : Event) → l < 2 → Writes (access_by store_buffering mode (given_to (both a b))) e l v →
      MayBeLast store_buffering mode (both a b) l e → v ≡ slice_index (1 ∷ 1 ∷ []) l
  last_writes a b l v (At t i) h writes last = (writes_one mode a b t i l v writes).0 ∙ ones l h
  last_writes a b l v (Initial m) h writes last =
      absurd (not_last a b l h (subst (λ (n : ℕ). MayBeLast store_buffering mode (both a b) l (Initial n)) (writes_initial mode a b m l v writes) last))

  ends : (a b : ℕ) → MustEndAs question mode (both a b) (end_of a b)
  ends a b = (whole mode a b, record { registers = refl; long = refl; memory = λ l v e h. last_writes a b l v e h })

  -- under both values 0, the one source of a read is the initial write of its location
  only_initial : (l : ℕ) (s : Event) → Writes (access_by store_buffering mode (given_to (both 0 0))) s l 0 → Initial l ≡ s
  only_initial l (Initial m) writes = ap Initial (sym (writes_initial mode 0 0 m l 0 writes))
  only_initial l (At t i) writes = absurd (let one : 0 ≡ 1 = (writes_one mode 0 0 t i l 0 writes).0 in omega arith)

  module _ (chosen : List (Event × Event)) (e : Event) (l : ℕ) where
    -- the sketch with these sources
    abbrev so_far : Sketch
    so_far = record (both 0 0) { sources = chosen }

    -- e is a load of the location that gives 0, without a source
    record ReadsZero : Type 0 where
      access : Access
      is_access : access_by store_buffering mode (given_to (both 0 0)) e ≡ Some access
      here : l ≡ access.location
      zero_read : Some 0 ≡ access.read
      other : Initial l ≢ e
      free : (s : Event) → ¬ Contains chosen (e, s)
      initial : slice_index store_buffering.memory l ≡ 0

    initial_is_source : ReadsZero → IsSourceOf store_buffering mode so_far (Initial l) e
    initial_is_source r = (r.access, 0, r.is_access, sym r.zero_read, r.other, (_, refl, r.here, ap Some r.initial))

    no_other : ReadsZero → (s : Event) → IsSourceOf store_buffering mode so_far s e → Contains (Initial l ∷ []) s
    no_other r s (x, v, is, reads, differ, writes) =
        let same : r.access ≡ x = same_Some r.access x (sym r.is_access ∙ is) in
        let value : v ≡ 0 = sym (same_Some 0 v (r.zero_read ∙ ap (λ (z : Access). z.read) same ∙ reads)) in
        let location : x.location ≡ l = sym (r.here ∙ ap (λ (z : Access). z.location) same) in
        let there : Writes (access_by store_buffering mode (given_to (both 0 0))) s l 0 =
        subst (λ (w : ℕ). Writes (access_by store_buffering mode (given_to (both 0 0))) s l w) value
        (subst (λ (n : ℕ). Writes (access_by store_buffering mode (given_to (both 0 0))) s n v) location writes) in
        subst (λ (z : Event). Contains (Initial l ∷ []) z) (only_initial l s there) (first_is_here (Initial l) [])

    there : ReadsZero → (s : Event) → Contains (Initial l ∷ []) s → IsSourceOf store_buffering mode so_far s e
    there r s here = elim (first_or_later (Initial l) [] s here) [
      | inl q ↦ subst (λ (z : Event). IsSourceOf store_buffering mode so_far z e) q (initial_is_source r)
      | inr rest ↦ absurd (none_here s rest)
    ]

    one_source : ReadsZero → HasSources store_buffering mode so_far e (Initial l ∷ [])
    one_source r = record {
      allowed = whole mode 0 0;
      access = r.access;
      is_access = r.is_access;
      is_read = ap is_some (sym r.zero_read);
      free = r.free;
      in_order = alone (Initial l);
      exact = λ s. (there r s, no_other r s);
    }

  first_source : HasSources store_buffering mode (both 0 0) (At 0 1) (Initial 1 ∷ [])
  first_source = one_source [] (At 0 1) 1 (record {
    access = _;
    is_access = refl;
    here = refl;
    zero_read = refl;
    other = λ q. cc;
    free = λ s here. none_here (At 0 1, s) here;
    initial = refl;
  })

  -- the first read has its source
  abbrev read_once : Sketch
  read_once = with_source (both 0 0) (At 0 1) (Initial 1)

  second_free : (s : Event) → ¬ Contains read_once.sources (At 1 1, s)
  second_free s here = elim (first_or_later {A = Event × Event} (At 0 1, Initial 1) [] (At 1 1, s) here) [
    | inl e ↦ another_thread (At 0 1, Initial 1) (At 1 1, s) refl refl e
    | inr rest ↦ none_here (At 1 1, s) rest
  ]

  second_source : HasSources store_buffering mode read_once (At 1 1) (Initial 0 ∷ [])
  second_source = one_source read_once.sources (At 1 1) 0 (record {
    access = _;
    is_access = refl;
    here = refl;
    zero_read = refl;
    other = λ q. cc;
    free = second_free;
    initial = refl;
  })

  -- both reads have theirs
  abbrev pub read_twice : Sketch
  read_twice = with_source read_once (At 1 1) (Initial 0)

  -- the choices of a thread's next read, and of a read with one source
  by_zero_one : (t : ℕ) (k : Sketch) → HasNextValues store_buffering mode k t zero_one → AreChoices store_buffering mode k (left.Value t) (map (choice.Value t) zero_one)
  by_zero_one t k next = record { values = zero_one; next = next; each = refl }

  by_one : (read : AccessId) (source : Event) (k : Sketch) → HasSources store_buffering mode k (event_of read) (source ∷ []) → AreChoices store_buffering mode k (left.Source read) (choice.Source read source ∷ [])
  by_one read source k next = record { sources = source ∷ []; next = next; each = refl }

  pub cover_is_valid : (kind : Kind) → IsKnownCycle store_buffering mode read_twice kind (map event_of around) → IsValidCover question mode outcomes (cover_of kind) (empty_sketch store_buffering)
  cover_is_valid kind cycle = (
    map (choice.Value 0) zero_one,
    by_zero_one 0 (empty_sketch store_buffering) first_next,
    (
      (
        map (choice.Value 1) zero_one,
        by_zero_one 1 (with_value (empty_sketch store_buffering) 0 0) (second_next 0),
        (
          (
            choice.Source (access 0 1) (Initial 1) ∷ [],
            by_one (access 0 1) (Initial 1) (both 0 0) first_source,
            ((choice.Source (access 1 1) (Initial 0) ∷ [], by_one (access 1 1) (Initial 0) read_once second_source, (cycle, tt)), tt),
          ),
          (known 0 0 1 refl, tt),
        ),
      ),
      ((map (choice.Value 1) zero_one, by_zero_one 1 (with_value (empty_sketch store_buffering) 0 1) (second_next 1), (known 1 1 0 refl, (known 2 1 1 refl, tt))), tt),
    ),
  )
    where
      known : (number a b : ℕ) → slice_get outcomes number ≡ Some (end_of a b) → MustEndAsNumber question mode outcomes (both a b) number
      known number a b e = record { outcome = end_of a b; is_outcome = e; must_end = ends a b }
