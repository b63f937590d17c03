-- Chosen pairs, looked up.
use Rattle.program_sketches.proofs.Vocabulary.{◌≡◌, ◌≢◌, ◌↔◌, ℕ, ◌<◌, Bool, true, false, IsTrue, List, [], ◌∷◌, ◌++◌, Option, Some, None, Contains, get_or, length, refl, sym, ap, ◌∙◌, subst, inl, inr, arith, AllPairs, is_some, cases_lt, Contains-get_or}
use Rattle.program_sketches.proofs.Vocabulary.{all_pairs_push, Listing, Event, Mode, ThreadTrace, machine_of_mode, ProgramSketch, view_of, KeepsTraces, AreOtherTwo, same_Some, none-some, HasSource, CanRead, CanFollow}
use Rattle.candidate_executions.proofs.Sketches.Choices.{a_source_keeps_a_sketch, a_pair_keeps_a_sketch}
use Rattle.program_sketches.proofs.Lookups.{same_default}

-- a read has one source
pub once : (pairs : List (Event × Event)) → AllPairs (λ (a b : Event × Event). a.0 ≢ b.0) pairs →
    (read d e : Event) → Contains pairs (read, d) → Contains pairs (read, e) → d ≡ e
once pairs one read d e (i, h, here) (j, l, there) = elim (cases_lt i j) [
  | inl less ↦ absurd (one i j (read, d) less l (first here ∙ sym (first (same_default pairs j (read, d) (read, e) l ∙ there))))
  | inr more ↦ elim (cases_lt j i) [
    | inl less ↦ absurd (one j i (read, d) less h (first (same_default pairs j (read, d) (read, e) l ∙ there) ∙ sym (first here)))
    | inr least ↦ (let same : i ≡ j = omega arith in
        ap (λ (a : Event × Event). a.1) (sym here ∙ ap (λ n. get_or pairs n (read, d)) same ∙ same_default pairs j (read, d) (read, e) l ∙ there))
  ]
]
  where
    first : {a b : Event × Event} → a ≡ b → a.0 ≡ b.0
    first q = ap (λ (x : Event × Event). x.0) q

-- a read's source that is found is its only one
pub found_source : (pairs : List (Event × Event)) (i : ℕ) (d : Event × Event) (read : Event) → i < length pairs → (get_or pairs i d).0 ≡ read →
    ((e f : Event) → Contains pairs (read, e) → Contains pairs (read, f) → e ≡ f) →
    (source : Event) → (Some (get_or pairs i d).1 ≡ Some source) ↔ Contains pairs (read, source)
found_source pairs i d read h is once source =
    let there : Contains pairs (get_or pairs i d) = Contains-get_or pairs i d h in
    let here : Contains pairs (read, (get_or pairs i d).1) = subst (λ e. Contains pairs (e, (get_or pairs i d).1)) is there in (
      λ e. subst (λ s. Contains pairs (read, s)) (same_Some _ source e) here,
      λ has. ap Some (once _ source here has),
    )

-- a read has a source where one is found
pub has_source_by : (s : ProgramSketch) (read : Event) (found : Option Event) (b : Bool) → b ≡ is_some found → ((source : Event) → (found ≡ Some source) ↔ Contains s.chosen.sources (read, source)) →
    IsTrue b ↔ HasSource s read
has_source_by s read None b e each = (λ t. absurd (let no : false ≡ true = sym e ∙ t in cc), λ h. absurd (none-some h.0 ((each h.0).1 h.1)))
has_source_by s read (Some source) b e each = (λ t. (source, (each source).0 refl), λ h. e)

module _ (p : Listing) (mode : Mode) (thread_traces : List ThreadTrace) (sources pairs : List (Event × Event)) (kept : KeepsTraces p mode thread_traces sources pairs) where
  abbrev s : ProgramSketch
  s = view_of p mode thread_traces sources pairs

  -- a sketch with one more source
  pub source_kept : (read source : Event) → CanRead s read source → KeepsTraces p mode thread_traces (sources ++ (read, source) ∷ []) pairs
  source_kept read source can = record {
    lawful = record {
      within = kept.lawful.within;
      is_sketch = a_source_keeps_a_sketch p (machine_of_mode p mode) s.chosen read source kept.lawful.is_sketch can.is_source;
      values = kept.lawful.values;
      one_source = all_pairs_push (λ (a b : Event × Event). a.0 ≢ b.0) sources (read, source) kept.lawful.one_source
          (λ k d l same. can.free ((get_or sources k d).1, subst (λ e. Contains sources (e, (get_or sources k d).1)) same (Contains-get_or sources k d l)));
      one_order = kept.lawful.one_order;
    };
    one_each = kept.one_each;
    traces_are = kept.traces_are;
  }

  -- a sketch with one more pair of writes
  pub pair_kept : (first second : Event) → CanFollow s first second → KeepsTraces p mode thread_traces sources (pairs ++ (first, second) ∷ [])
  pair_kept first second can = record {
    lawful = record {
      within = kept.lawful.within;
      is_sketch = a_pair_keeps_a_sketch p (machine_of_mode p mode) s.chosen first second kept.lawful.is_sketch can.is_pair;
      values = kept.lawful.values;
      one_source = kept.lawful.one_source;
      one_order = all_pairs_push AreOtherTwo pairs (first, second) kept.lawful.one_order (λ k d l. (
        λ same. can.free (inl (subst (Contains pairs) same (Contains-get_or pairs k d l))),
        λ same. can.free (inr (subst (Contains pairs) same (Contains-get_or pairs k d l))),
      ));
    };
    one_each = kept.one_each;
    traces_are = kept.traces_are;
  }
