-- Whether a memory has what is shown of each write that may be the last of its location.
use Rattle.rowless_sketches.proofs.Vocabulary.{◌≡◌, ◌↔◌, ℕ, ◌<◌, Bool, true, false, IsTrue, List, Some, length, refl, sym, ap, ◌∙◌, subst, inl, inr, cases_lt, slice_index, Shown, shown_value, Access, Event, Initial, At, Writes}
use Rattle.rowless_sketches.proofs.Vocabulary.{ProgramSketch, trace_in, access_in, IsLawful, HasLater, IsWritten, IsOwn, HasEndOf, IsInitialWrite, none_past}
use Rattle.rowless_sketches.proofs.{Ends.last_by, OwnWrites.same_location, OwnWrites.same_value, OwnWrites.first_free}

some_true : (b : Bool) → ((IsTrue b → ⊥) → ⊥) → IsTrue b
some_true true h = refl
some_true false h = absurd (h (λ t. (let q : false ≡ true = t in cc)))

module _ (s : ProgramSketch) (shown : Shown) (memory : List ℕ) where
  -- ---- an access, which reads and writes as x
  module _ (e : Event) (x : Access) (at : access_in s e ≡ Some x) where
    -- one that has a later write
    pub later_end : HasLater s e → HasEndOf s shown memory e
    later_end later l v h last = absurd (last.1.no_later later.0 later.1)

    -- another one may be the last
    pub end_shown : (IsInitialWrite e → ⊥) → (w : ℕ) → x.written ≡ Some w → x.location < length memory → (HasLater s e → ⊥) → HasEndOf s shown memory e → shown_value shown x.location w ≡ slice_index memory x.location
    end_shown other w is h free ends = ends x.location w h (
      (x, at, refl, is),
      record {
        no_later = λ d has. free (d, has);
        only_initial = λ q d v writes. absurd (other (subst IsInitialWrite (sym q) tt));
      },
    )

    -- whether it has one, where its value is not shown as the memory has it
    pub later_test : (b : Bool) → (IsTrue b ↔ HasLater s e) → (IsInitialWrite e → ⊥) → (w : ℕ) → x.written ≡ Some w → x.location < length memory → (shown_value shown x.location w ≡ slice_index memory x.location → ⊥) → IsTrue b ↔ HasEndOf s shown memory e
    later_test b test other w is h differs = (
      λ t. later_end (test.0 t),
      λ ends. some_true b (λ none. differs (end_shown other w is h (λ later. none (test.1 later)) ends)),
    )

  -- ---- an initial write
  module _ (l : ℕ) where
    initial_is : (m v : ℕ) → Writes (access_in s) (Initial l) m v → (l ≡ m) × (v ≡ slice_index s.program.memory l)
    initial_is m v w = (
      same_location s (Initial l) l m (slice_index s.program.memory l) v (_, refl, refl, refl) w,
      same_value s (Initial l) m l v (slice_index s.program.memory l) w (_, refl, refl, refl),
    )

    pub same_initial : shown_value shown l (slice_index s.program.memory l) ≡ slice_index memory l → HasEndOf s shown memory (Initial l)
    same_initial same m v h last =
        let (place, value) = initial_is m v last.0 in
        ap (shown_value shown m) value ∙ subst (λ (n : ℕ). shown_value shown n (slice_index s.program.memory l) ≡ slice_index memory n) place same

    pub written_initial : IsWritten s l → HasEndOf s shown memory (Initial l)
    written_initial (t, (i, (w, writes))) m v h last = absurd
        (let place : l ≡ m = (initial_is m v last.0).0 in
        let same : At t i ≡ Initial m = last.1.only_initial (ap Initial place) (At t i) w (subst (λ (n : ℕ). Writes (access_in s) (At t i) n w) place writes) in
        cc)

    pub initial_shown : IsLawful s → l < length memory → (IsWritten s l → ⊥) → HasEndOf s shown memory (Initial l) → shown_value shown l (slice_index s.program.memory l) ≡ slice_index memory l
    initial_shown lawful h none ends = ends l (slice_index s.program.memory l) h ((_, refl, refl, refl), (last_by s l (Initial l) false (first_free s l lawful) refl (none_true none)).0 refl)
      where
        none_true : (IsWritten s l → ⊥) → IsTrue false ↔ IsWritten s l
        none_true n = (λ t. absurd (let q : false ≡ true = t in cc), λ w. absurd (n w))

  -- ---- all accesses
  pub own_ends : ((t : ℕ) → t < length s.program.threads → (i : ℕ) → i < length (trace_in s t).accesses → HasEndOf s shown memory (At t i)) → (e : Event) → IsOwn s e → HasEndOf s shown memory e
  own_ends each (Initial l) own = absurd own
  own_ends each (At t i) own = elim (cases_lt t (length s.program.threads)) [
    | inl h ↦ each t h i own
    | inr past ↦ absurd (none_past s t i past own)
  ]
