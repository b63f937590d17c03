-- A complete sketch without a cycle is a consistent candidate: the sources are those that are chosen, and an order of the accesses
-- gives the ranks.
use Rattle.run_maker.proofs.Vocabulary.{◌≡◌, ◌≢◌, ℕ, suc, ◌<◌, ◌≤◌, List, [], Option, Some, IsSome, Contains, map, length, refl, sym, ap, ◌∙◌, subst, append-nil, inl, inr, arith, ◌==◌, slice_index, slice_get, range_with_len, same_Some, slice_get_within}
use Rattle.run_maker.proofs.Vocabulary.{slice_get-get_or, slice_get_past, cases_lt, Listing, action, start_of, code_of, Access, Event, Initial, At, Kind, In, HasNoCycle, IsMadeRun, IsKnownOrder, All, Truth, Machine, SequentialMachine, StoreBufferMachine}
use Rattle.run_maker.proofs.Vocabulary.{IsRun, Candidate, Writes, IsCandidate, EndsWith, HasOutcome, IsAccess, IsOfMode, Relates, Edge, IsAcyclic, IsConsistent, Completes, IsBefore, KnownRelates, KnownFromReads, MayBeLast, EndsInValues, KnownAtom, EndsAs}
use Rattle.run_maker.proofs.Vocabulary.{IsPair, KnownEdgeOfMode, MustEndAs, given_to, followed_union, labels_along, IsOrder, some_value, ProgramSketch, mode_in, trace_in, access_in}
use Rattle.std.proofs.lemmas.List.FromFn.{length-map-range_with_len, get_or-map-range_with_len}
use Rattle.tso_program.specs.{declared.outcome.Outcome.Outcome, declared.shown.Shown.Shown, Shown.shown_value, Shown.show_memory, Shown.shown_values, Shown.show, Shown.asked, declared.atom.Atom.Atom}
use Rattle.tso_program.specs.Truth.{truth, is_true_at, is_value}
use Rattle.tso_program.specs.declared.atom.Atom.TheVariants as atom
use Rattle.tso_program.proofs.{Kept.memory_long, Kept.value_at as kept_value, KnownTruths.all_known}
use Rattle.candidate_executions.specs.declared.event.Kind.TheVariants as union
use Rattle.candidate_executions.specs.{Traces.fenced_gaps, RunCandidates.IsCandidateOf}
use Rattle.candidate_executions.proofs.{ToRuns.CandidatesAreRuns.every_order, Candidates.LastWrites.one_end, Candidates.LastWrites.ends_with, ToRuns.Linear.contains_in, ToRuns.Linear.pairs_ordered}
use Rattle.candidate_executions.proofs.{Sketches.MoreValues.end_or_read, Orders.WiderRelations.acyclic_narrower}
use Rattle.tso_program.proofs.Advance.{advance}
use Rattle.program_sketches.specs.Kept.{IsLawful}
use Rattle.exec_axioms.specs.Completions.{MustEndSo}
use Rattle.exec_axioms.specs.Complete.{IsComplete}
use Rattle.program_sketches.proofs.Chosen.{once}
use Rattle.exec_axioms.proofs.Ends.{ends_only}
use Rattle.exec_axioms.proofs.{LastWrites.of_followed, LastWrites.pair_edge, Completeness.first_there, Completeness.second_there}
use Rattle.run_maker.proofs.PlacesInOrder.{place, place_before, place_same, chosen, chosen_is}

consistent_by : (p : Listing) (m : Machine) (c : Candidate) → ((kind : Kind) → IsOfMode m kind → IsAcyclic (Edge p m c kind)) → IsConsistent p m c
consistent_by p SequentialMachine c each = each union.Sequential tt
consistent_by p (StoreBufferMachine gaps) c each = (each union.Location tt, each union.Global tt)

module _ (s : ProgramSketch) (lawful : IsLawful s) (whole : IsComplete s) (acyclic : HasNoCycle s) (order : List Event) (is : IsKnownOrder s order) where
  abbrev p : Listing
  p = s.program

  abbrev mode : Machine
  mode = mode_in s

  abbrev R : Event → Event → Type 0
  R = KnownEdgeOfMode s.program (mode_in s) s.chosen (followed_union mode)

  abbrev W : Event → ℕ → ℕ → Type 0
  W = Writes (access_in s)

  abbrev rank : Event → ℕ
  rank (Initial l) = 0
  rank (At t i) = suc (place (At t i) order)

  -- the candidate that the sketch has become
  abbrev pub become : Candidate
  become = record { given = given_to s.chosen; source = chosen s.chosen.sources; rank = rank }

  in_order : (e : Event) → IsAccess s.program (mode_in s) (given_to s.chosen) e → In e order
  in_order e h = contains_in order e ((is.accesses e).1 h)

  -- pairs rise
  pair_rises : (d e : Event) → Contains s.chosen.pairs (d, e) → rank d < rank e
  pair_rises d e h =
      let pair = lawful.is_sketch.pairs d e h in
      rise d e h pair (first_there s d e pair) (second_there s d e pair)
    where
      rise : (d e : Event) → Contains s.chosen.pairs (d, e) → IsPair s.program (mode_in s) s.chosen d e → IsAccess s.program (mode_in s) (given_to s.chosen) d → IsAccess s.program (mode_in s) (given_to s.chosen) e → rank d < rank e
      rise (Initial l) e h pair a b = absurd a
      rise (At t i) (Initial l) h pair a b = absurd b
      rise (At t i) (At u j) h pair a b =
          let edge : R (At t i) (At u j) = pair_edge s (At t i) (At u j) lawful h in
          let less = place_before R order (At t i) (At u j) (in_order (At t i) a) (in_order (At u j) b) (pairs_ordered R order is.forward) edge pair.0 in
          omega arith

  -- writes that rise are known to
  rises_known : (d e : Event) (x y : Access) → access_in s d ≡ Some x → access_in s e ≡ Some y → x.location ≡ y.location → IsSome x.written → IsSome y.written → rank d < rank e → IsBefore s.chosen d e y
  rises_known (Initial l) e x y a b q w v h =
      let same : l ≡ y.location = ap (λ (z : Access). z.location) (same_Some _ x a) ∙ q in
      inr (ap Initial same, (λ r. let z : rank e ≡ 0 = ap rank r in omega arith), v)
  rises_known (At t i) (Initial l) x y a b q w v h = absurd (omega arith)
  rises_known (At t i) (At u j) x y a b q w v h =
      let (n, f) = some_value x.written w in
      let (m, g) = some_value y.written v in
      let pair : IsPair s.program (mode_in s) s.chosen (At t i) (At u j) = ((λ r. let z : rank (At t i) ≡ rank (At u j) = ap rank r in omega arith), (y.location, n, m, (x, a, q, f), (y, b, refl, g), (λ r. cc), (λ r. cc))) in
      elim (whole.pairs (At t i) (At u j) pair) [ inl k ↦ inl k | inr k ↦ absurd (let z = pair_rises (At u j) (At t i) k in omega arith) ]

  -- a read has its chosen source
  has_source : (e : Event) (x : Access) → access_in s e ≡ Some x → IsSome x.read → Contains s.chosen.sources (e, chosen s.chosen.sources e)
  has_source e x a r = let (d, h) = whole.sources e (x, a, r) in chosen_is s.chosen.sources e d h

  source_writes : (e : Event) (x : Access) (v : ℕ) → access_in s e ≡ Some x → x.read ≡ Some v → (chosen s.chosen.sources e ≢ e) × W (chosen s.chosen.sources e) x.location v
  source_writes e x v a r =
      let (y, w, b, f, ne, writes) = lawful.is_sketch.sources e (chosen s.chosen.sources e) (has_source e x a (subst (λ o. IsSome o) (sym r) refl)) in
      let same : y ≡ x = same_Some y x (sym b ∙ a) in
      let value : w ≡ v = same_Some w v (sym f ∙ ap (λ (z : Access). z.read) same ∙ r) in
      (ne, subst (λ u. W (chosen s.chosen.sources e) x.location u) value (subst (λ (z : Access). W (chosen s.chosen.sources e) z.location w) same writes))

  write_there : (t i l v : ℕ) → W (At t i) l v → IsAccess s.program (mode_in s) (given_to s.chosen) (At t i)
  write_there t i l v w = slice_get_within _ i w.0 w.1

  different : (d e : Event) (l v w : ℕ) → W d l v → W e l w → rank d ≡ rank e → d ≡ e
  different (Initial m) (Initial n) l v w a b q =
      ap Initial (ap (λ (z : Access). z.location) (same_Some _ a.0 a.1) ∙ a.2 ∙ sym b.2 ∙ sym (ap (λ (z : Access). z.location) (same_Some _ b.0 b.1)))
  different (At t i) (At u j) l v w a b q = place_same order (At t i) (At u j) (in_order (At t i) (write_there t i l v a)) (in_order (At u j) (write_there u j l w b)) (omega arith)
  different d e l v w a b q = absurd (omega arith)

  pub is_candidate : IsCandidate p mode become
  is_candidate = record {
    whole = λ t. (
      end_or_read (action p.threads t) (fenced_gaps mode t) (length (code_of p.threads t)) (λ l. advance p lawful.within.shared.forward_jumps t l) (length (code_of p.threads t)) 0
          (start_of p.threads t) (given_to s.chosen t) (omega arith) (whole.whole t),
      lawful.is_sketch.used t,
    );
    values = lawful.values;
    sources = source_writes;
    ranks = different;
    initial = λ e l v w. omega arith;
  }

  -- each edge of the candidate is a known one
  relates : (kind : Kind) (d e : Event) (x y : Access) → access_in s d ≡ Some x → access_in s e ≡ Some y → Relates become kind d x e y → KnownRelates s.chosen kind d x e y
  relates kind d e x y a b = go kind
    where
      reads : IsSome y.read → chosen s.chosen.sources e ≡ d → Contains s.chosen.sources (e, d)
      reads r q = subst (λ z. Contains s.chosen.sources (e, z)) q (has_source e y b r)

      orders_known : x.location ≡ y.location → IsSome x.written → IsSome y.written → rank d < rank e → IsBefore s.chosen d e y
      orders_known q w v h = rises_known d e x y a b q w v h

      from_known : x.location ≡ y.location → IsSome x.read → IsSome y.written → (d ≢ e) → rank (chosen s.chosen.sources d) < rank e → KnownFromReads s.chosen d e y
      from_known q r w ne h =
          let (v, f) = some_value x.read r in
          let source = (source_writes d x v a f).1 in
          (chosen s.chosen.sources d, has_source d x a r, rises_known (chosen s.chosen.sources d) e source.0 y source.1 b (source.2 ∙ q) (subst (λ o. IsSome o) (sym source.3) refl) w h, ne)

      go : (kind : Kind) → Relates become kind d x e y → KnownRelates s.chosen kind d x e y
      go union.Sequential (inl r) = inl r
      go union.Sequential (inr (inl r)) = inr (inl (reads r.0 r.1))
      go union.Sequential (inr (inr (inl r))) = inr (inr (inl (orders_known r.0 r.1 r.2 r.3)))
      go union.Sequential (inr (inr (inr r))) = inr (inr (inr (from_known r.0 r.1 r.2 r.3 r.4)))
      go union.Location (inl r) = inl r
      go union.Location (inr (inl r)) = inr (inl (reads r.0 r.1))
      go union.Location (inr (inr (inl r))) = inr (inr (inl (orders_known r.0 r.1 r.2 r.3)))
      go union.Location (inr (inr (inr r))) = inr (inr (inr (from_known r.0 r.1 r.2 r.3 r.4)))
      go union.Global (inl r) = inl r
      go union.Global (inr (inl r)) = inr (inl (reads r.0.0 r.0.1, r.1))
      go union.Global (inr (inr (inl r))) = inr (inr (inl (orders_known r.0 r.1 r.2 r.3)))
      go union.Global (inr (inr (inr r))) = inr (inr (inr (from_known r.0 r.1 r.2 r.3 r.4)))

  known_edge : (kind : Kind) → IsOfMode mode kind → (d e : Event) → Edge p mode become kind d e → KnownEdgeOfMode s.program (mode_in s) s.chosen kind d e
  known_edge kind of d e r = (of, (r.0, r.1, r.2, r.3, relates kind d e r.0 r.1 r.2 r.3 r.4))

  pub consistent : IsConsistent p mode become
  consistent = consistent_by p mode become (λ kind of. acyclic_narrower (Edge p mode become kind) (KnownEdgeOfMode s.program (mode_in s) s.chosen kind) (known_edge kind of) (acyclic kind))

  pub completes : Completes s.chosen become
  completes = record {
    given = λ t. ([], append-nil (given_to s.chosen t));
    sources = λ e d h. once s.chosen.sources lawful.one_source e (chosen s.chosen.sources e) d (chosen_is s.chosen.sources e d h) h;
    pairs = pair_rises;
  }

  -- the order is one of the candidate's
  is_order : IsOrder p mode become order
  is_order = record {
    accesses = is.accesses;
    distinct = is.distinct;
    forward = λ i j d a b r. is.forward i j d a b (known_edge (followed_union mode) (of_followed mode) _ _ r);
  }

  -- how it ends
  abbrev pub end : Outcome
  end = record {
    registers = map (λ t. (trace_in s t).last.registers) (range_with_len 0 (length p.threads));
    memory = map (λ l. (ends_with p mode become l).0) (range_with_len 0 (length p.memory));
  }

  value_at : (l : ℕ) → l < length p.memory → (ends_with p mode become l).0 ≡ slice_index end.memory l
  value_at l h = sym (get_or-map-range_with_len (λ l. (ends_with p mode become l).0) 0 (length p.memory) l l 0 h (omega arith))

  pub has_outcome : HasOutcome p mode become end
  has_outcome = record {
    registers = refl;
    long = length-map-range_with_len (λ l. (ends_with p mode become l).0) 0 (length p.memory);
    memory = λ l h. subst (λ v. EndsWith p mode become l v) (value_at l h) (ends_with p mode become l).1;
  }

  -- a write that may be the last by what is chosen is the last
  is_last : (l v : ℕ) (e : Event) → W e l v → MayBeLast p mode s.chosen l e → (d : Event) (w : ℕ) → W d l w → rank d ≤ rank e
  is_last l v e a may d w b = elim (cases_lt (rank e) (rank d)) [
    | inl less ↦ absurd (elim (rises_known e d a.0 b.0 a.1 b.1 (a.2 ∙ sym b.2) (subst (λ o. IsSome o) (sym a.3) refl) (subst (λ o. IsSome o) (sym b.3) refl) less) [
      | inl h ↦ may.no_later d h
      | inr h ↦ (let first : e ≡ Initial l = h.0 ∙ ap Initial b.2 in h.1 (may.only_initial first d w b ∙ sym first))
    ])
    | inr more ↦ more
  ]

  -- so a write that may be the last writes the location's value at the end
  last_value : (l v : ℕ) (e : Event) → l < length p.memory → W e l v → MayBeLast p mode s.chosen l e → v ≡ slice_index end.memory l
  last_value l v e h a may = one_end p mode become is_candidate l v (slice_index end.memory l) (e, a, is_last l v e a may) (has_outcome.memory l h)

  shown_at : (shown : Shown) (l : ℕ) → l < length p.memory → slice_index (show_memory shown end.memory) l ≡ shown_value shown l (slice_index end.memory l)
  shown_at shown l h = let long = has_outcome.long in kept_value shown end.memory l (omega arith)

  values_end : (shown : Shown) → EndsInValues p mode s.chosen shown (shown_values shown end)
  values_end shown = record {
    registers = refl;
    long = memory_long shown end.memory ∙ has_outcome.long;
    memory = λ l v e h a may. (let long = has_outcome.long in
        ap (shown_value shown l) (last_value l v e h a may) ∙ sym (shown_at shown l h));
  }

  -- an atom that is true at the end is known to be
  atom_known : (a : Atom) → KnownAtom p mode s.chosen (is_true_at end a) a
  atom_known (atom.Register t r v) = (whole.whole t, refl)
  atom_known (atom.Location l v) = (
    λ h. (
      whole.whole,
      λ w (e, a, may). (let long = has_outcome.long in
          let there : slice_get end.memory l ≡ Some (slice_index end.memory l) = slice_get-get_or end.memory l 0 (omega arith) in
          ap (λ (n : ℕ). n == v) (last_value l w e h a may) ∙ sym (ap (λ (x : Option ℕ). is_value x v) there)),
    ),
    λ past. (let long = has_outcome.long in sym (ap (λ (x : Option ℕ). is_value x v) (slice_get_past end.memory l (omega arith)))),
  )

  ends_as : (shown : Shown) → EndsAs p mode s.chosen shown (show shown end)
  ends_as (Truth f) = record { truth = truth end f; known = all_known (KnownAtom p mode s.chosen) (is_true_at end) atom_known f; is_told = refl }
  ends_as shown = (whole.whole, values_end shown)

  pub must_end : (shown : Shown) → MustEndAs (asked s.program shown) (mode_in s) s.chosen (show shown end)
  must_end shown = ends_as shown

  runs_along : IsRun p mode (labels_along p mode (given_to s.chosen) (λ t. 0) order) end × IsCandidateOf p mode (labels_along p mode (given_to s.chosen) (λ t. 0) order) become
  runs_along = every_order p mode become order end is_candidate consistent is_order has_outcome

  pub run_of : IsMadeRun s (labels_along p mode (given_to s.chosen) (λ t. 0) order) end
  run_of = record {
    is_run = runs_along.0;
    completion = become;
    is_completion = record { is_candidate = is_candidate; consistent = consistent; completes = completes };
    has_outcome = has_outcome;
    of_completion = runs_along.1;
    must_end = must_end;
    only = λ other has. sym (ends_only s All end lawful (must_end All) has.0 other has.1 has.2);
  }

  -- the run ends as the one outcome as which the sketch must end
  pub run_with : (o : Outcome) → MustEndSo s All o → IsMadeRun s (labels_along p mode (given_to s.chosen) (λ t. 0) order) o
  run_with o so = subst (IsMadeRun s (labels_along p mode (given_to s.chosen) (λ t. 0) order)) (so.only acyclic end (must_end All)) run_of
