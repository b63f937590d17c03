-- The rows of a sketch at its start, and after each choice.
use Rattle.known_edges.proofs.Vocabulary.{get_some, ◌≡◌, ◌↔◌, ◌⊎◌, ℕ, List, [], ◌∷◌, ◌++◌, Some, Contains, slice_get, refl, sym, ap, ◌∙◌, subst, inl, inr, same_Some, IsIn, RowHas, AreConnected, Listing, Access, Event, Initial, At, Kind, IsOfMode, SameThread}
use Rattle.known_edges.proofs.Vocabulary.{with_source, with_pair, KnownEdgeOfMode, Mode, Sequential, Fenced, SourceRows, OrderRows, ThreadTrace, ProgramSketch, mode_in, access_in, with_chosen, view_of, KeepsTraces, MayRead, MayFollow, accesses_at}
use Rattle.known_edges.proofs.Vocabulary.{traced_access, IsOfThreads, IsRowOf, AreRowsOf, InOrder, IsWriteAt, ReadsBut, IsAfter, HasOrder, AreSourceRows, AreOrderRows, IsRepresented, main_kind}
use Rattle.candidate_executions.specs.declared.event.Kind.TheVariants as union
use Rattle.program_sketches.proofs.{KnownParts.to_relates, Chosen.source_kept, Chosen.pair_kept}
use Rattle.known_edges.proofs.Masks.{row_joined, row_by}
use Rattle.known_edges.proofs.Connected.{HasNumber, connected, main_of_mode, global_of_mode, Earlier, pair_edges, pair_pairs, After, Step, source_edges}
use Rattle.program_sketches.proofs.Traced.{access_same, is_access, whole_ends}
use Rattle.known_edges.proofs.{Numbered.chosen_numbers, Numbered.number_access, Unchosen.only_order}

-- rows of a relation are rows of another that holds of the same events
pub rows_by : (events : List Event) (R S : Event → Event → Type 0) (rows : List ℕ) → ((x y : Event) → HasNumber events x → HasNumber events y → R x y ↔ S x y) →
    AreRowsOf events R rows → AreRowsOf events S rows
rows_by events R S rows same are d e = (
  λ h. (let (x, y, at, to_at, r) = (are d e).0 h in (x, y, at, to_at, (same x y (d, at) (e, to_at)).0 r)),
  λ (x, y, at, to_at, r). (are d e).1 (x, y, at, to_at, (same x y (d, at) (e, to_at)).1 r),
)

-- a row that is kept where F holds
pub row_if : (events : List Event) (P Q : Event → Type 0) (F : Type 0) (row out : ℕ) → IsRowOf events P row → ((k : ℕ) → IsIn out k ↔ (F × IsIn row k)) →
    ((x : Event) → (F × P x) ↔ Q x) → IsRowOf events Q out
row_if events P Q F row out of each same d = (
  λ h. (let p = (each d).0 h in let (x, at, q) = (of d).0 p.1 in (x, at, (same x).0 (p.0, q))),
  λ (x, at, q). (let p = (same x).1 q in (each d).1 (p.0, (of d).1 (x, at, p.1))),
)

module _ (p : Listing) (mode : Mode) (thread_traces : List ThreadTrace) (events : List Event) (sources pairs : List (Event × Event)) (kept : KeepsTraces p mode thread_traces sources pairs)
    (none : (d e : Event) → Contains sources (d, e) ⊎ Contains pairs (d, e) → ⊥) (main global : List ℕ) (order : HasOrder mode thread_traces events main global) where
  abbrev s : ProgramSketch
  s = view_of p mode thread_traces sources pairs

  -- where nothing is chosen, program order is what is known
  known_order : (kind : Kind) → IsOfMode (mode_in s) kind → (d e : Event) → HasNumber events d → HasNumber events e → InOrder thread_traces kind d e ↔ KnownEdgeOfMode s.program (mode_in s) s.chosen kind d e
  known_order kind m d e num num' =
      let here = number_access thread_traces events order.numbered.of_threads d num in
      let same = access_same p mode thread_traces sources pairs kept d here in
      let same' = access_same p mode thread_traces sources pairs kept e (number_access thread_traces events order.numbered.of_threads e num') in (
        λ (x, y, ad, ae, o). (m, (x, y, sym same ∙ ad, sym same' ∙ ae, to_relates s.chosen kind d x e y (inl o))),
        λ (m', (x, y, ad, ae, r)). (x, y, same ∙ ad, same' ∙ ae, only_order s none kind d x e y ((is_access p mode thread_traces sources pairs kept d).1 here) r),
      )

  -- so the rows of program order are those of the sketch
  pub begun : (later : List ℕ) → ((d e : ℕ) → RowHas later d e → ⊥) → IsRepresented p mode thread_traces events sources pairs later main global
  begun later empty = record {
    kept = kept;
    values_first = record { whole = λ d e h. absurd (none d e h) };
    rows = record {
      all = λ whole. order.numbered.all (whole_ends p mode thread_traces sources pairs kept whole);
      of_threads = order.numbered.of_threads;
      few = order.numbered.few;
      later_rows = λ d e. (λ h. absurd (empty d e h), λ (x, y, at, to_at, h). absurd (none x y (inr h)));
      main_rows = rows_by events (InOrder thread_traces (main_kind mode)) (KnownEdgeOfMode s.program (mode_in s) s.chosen (main_kind mode)) main (known_order (main_kind mode) (main_of_mode p mode)) order.main_rows;
      global_rows = rows_by events (λ d e. (mode ≡ Sequential → ⊥) × InOrder thread_traces union.Global d e) (KnownEdgeOfMode s.program (mode_in s) s.chosen union.Global) global
          (λ d e num num'. (
            λ h. (known_order union.Global ((global_of_mode p mode).1 h.0) d e num num').0 h.1,
            λ k. ((global_of_mode p mode).0 k.0, (known_order union.Global k.0 d e num num').1 k),
          ))
          order.global_rows;
    };
  }

-- rows where no pair is chosen are empty
pub later_empty : (events : List Event) (pairs : List (Event × Event)) (later : List ℕ) → AreRowsOf events (λ d e. Contains pairs (d, e)) later → ((d e : Event) → Contains pairs (d, e) → ⊥) →
    (d e : ℕ) → RowHas later d e → ⊥
later_empty events pairs later are none d e h = let (x, y, at, to_at, has) = (are d e).0 h in none x y has

module _ (p : Listing) (mode : Mode) (thread_traces : List ThreadTrace) (events : List Event) (sources pairs : List (Event × Event)) (later main global : List ℕ)
    (is : IsRepresented p mode thread_traces events sources pairs later main global) where
  abbrev v : ProgramSketch
  v = view_of p mode thread_traces sources pairs

  module _ (first second : Event) (may : MayFollow v first second) (rows : OrderRows) (are : AreOrderRows events sources first second rows) where
    abbrev t : ProgramSketch
    t = with_chosen v (with_pair v.chosen first second)

    abbrev Goes : Event → Type 0
    Goes d = Earlier v is.kept.lawful first second may d

    of_earlier : IsRowOf events Goes rows.earlier
    of_earlier = row_joined events (λ e. e ≡ first) (ReadsBut sources first second) Goes rows.before rows.readers rows.earlier are.before are.readers are.earlier (λ x. (λ h. h, λ h. h))

    -- the main union after an order is chosen
    pub pair_main : (main' : List ℕ) → AreConnected main rows.earlier rows.after main' → AreRowsOf events (KnownEdgeOfMode t.program (mode_in t) t.chosen (main_kind mode)) main'
    pair_main main' put = connected events (KnownEdgeOfMode v.program (mode_in v) v.chosen (main_kind mode)) (KnownEdgeOfMode t.program (mode_in t) t.chosen (main_kind mode)) (λ x. IsOfMode (mode_in v) (main_kind mode) × Goes x)
        (λ e. e ≡ second) rows.earlier rows.after main main' is.rows.main_rows
        (row_by events Goes (λ x. IsOfMode (mode_in v) (main_kind mode) × Goes x) rows.earlier (λ d x at. (λ h. (main_of_mode p mode, h), λ h. h.1)) of_earlier)
        are.after put (λ x y _ _. pair_edges v is.kept.lawful first second may (main_kind mode) x y)

    -- all rows
    pub pair_represented : (outer : ℕ) (later' main' global' : List ℕ) →
        ((k : ℕ) → IsIn outer k ↔ ((mode ≡ Sequential → ⊥) × IsIn rows.earlier k)) →
        AreConnected later rows.before rows.after later' → AreConnected main rows.earlier rows.after main' → AreConnected global outer rows.after global' →
        IsRepresented p mode thread_traces events sources (pairs ++ (first, second) ∷ []) later' main' global'
    pair_represented outer later' main' global' fenced put put_main put_global = record {
      kept = pair_kept p mode thread_traces sources pairs is.kept first second (record { is_pair = may.is_pair; free = may.free });
      values_first = record { whole = λ d e h. may.whole };
      rows = record {
        all = is.rows.all;
        of_threads = is.rows.of_threads;
        few = is.rows.few;
        later_rows = connected events (λ d e. Contains pairs (d, e)) (λ d e. Contains (pairs ++ (first, second) ∷ []) (d, e)) (λ e. e ≡ first) (λ e. e ≡ second) rows.before rows.after later later'
            is.rows.later_rows are.before are.after put (λ x y _ _. pair_pairs v is.kept.lawful first second may x y);
        main_rows = pair_main main' put_main;
        global_rows = connected events (KnownEdgeOfMode v.program (mode_in v) v.chosen union.Global) (KnownEdgeOfMode t.program (mode_in t) t.chosen union.Global) (λ x. IsOfMode (mode_in v) union.Global × Goes x)
            (λ e. e ≡ second) outer rows.after global global' is.rows.global_rows
            (row_if events Goes (λ x. IsOfMode (mode_in v) union.Global × Goes x) (mode ≡ Sequential → ⊥) rows.earlier outer of_earlier fenced
            (λ x. (λ h. ((global_of_mode p mode).1 h.0, h.1), λ h. ((global_of_mode p mode).0 h.0, h.1))))
            are.after put_global (λ x y _ _. pair_edges v is.kept.lawful first second may union.Global x y);
      };
    }

  module _ (read source : Event) (may : MayRead v read source) where
    abbrev w : ProgramSketch
    w = with_chosen v (with_source v.chosen read source)

    abbrev Comes : Event → Type 0
    Comes e = After v is.kept.lawful read source may e

    -- what is not the read is not in its row
    not_read : (reader d : ℕ) (x : Event) → IsRowOf events (λ e. e ≡ read) reader → slice_get events d ≡ Some x → (read ≡ x → ⊥) → IsIn reader d → ⊥
    not_read reader d x of_reader at ne h = let (z, at_z, q) = (of_reader d).0 h in ne (sym q ∙ same_Some z x (sym at_z ∙ at))

    -- the writes that come after an initial write
    after_initial : (l reader after : ℕ) → source ≡ Initial l → IsRowOf events (λ e. e ≡ read) reader →
        ((d : ℕ) → IsIn after d ↔ (((x : Event) × (slice_get events d ≡ Some x) × IsWriteAt thread_traces l x) × (IsIn reader d → ⊥))) → IsRowOf events Comes after
    after_initial l reader after from of_reader each d = (
      λ h. (let (x, at, (y, ay, loc, wr)) = ((each d).0 h).0 in
          let there = number_access thread_traces events is.rows.of_threads x (d, at) in
          let same = access_same p mode thread_traces sources pairs is.kept x there in (
            x,
            at,
            (
              y,
              sym same ∙ ay,
              inr (from ∙ ap (λ n. Initial n) (sym loc), (λ q. subst (IsOfThreads thread_traces) (q ∙ from) there), wr),
              λ q. ((each d).0 h).1 ((of_reader d).1 (x, at, sym q)),
            ),
          )),
      λ (x, at, (y, ay, before, ne)).
          let there = number_access thread_traces events is.rows.of_threads x (d, at) in
          let same = access_same p mode thread_traces sources pairs is.kept x there in
          (each d).1 (
            elim before [
              | inl h ↦ absurd (subst (IsOfThreads thread_traces) from (number_access thread_traces events is.rows.of_threads source
                  (chosen_numbers p mode thread_traces sources pairs is.kept events is.values_first is.rows.all source x h).0))
              | inr (q, other, wr) ↦ (x, at, (y, same ∙ ay, (let here : Initial y.location ≡ Initial l = sym q ∙ from in cc), wr))
            ],
            not_read reader d x of_reader at ne,
          ),
    )

    -- and those that chosen pairs put after an access
    after_access : (t i reader after : ℕ) → source ≡ At t i → IsRowOf events (λ e. e ≡ read) reader →
        ((d : ℕ) → IsIn after d ↔ (IsAfter events later source d × (IsIn reader d → ⊥))) → IsRowOf events Comes after
    after_access t i reader after from of_reader each d = (
      λ h. (let (k, at_k, rel) = ((each d).0 h).0 in
          let (x, y, at_x, at_y, has) = (is.rows.later_rows k d).0 rel in
          let same : x ≡ source = same_Some x source (sym at_x ∙ at_k) in
          let own : Contains pairs (source, y) = subst (λ z. Contains pairs (z, y)) same has in
          let (a, ay) = there y (d, at_y) in
          (y, at_y, (a, ay, inl own, λ q. ((each d).0 h).1 ((of_reader d).1 (y, at_y, sym q))))),
      λ (x, at, (y, ay, before, ne)). elim before [
        | inl h ↦ (let (k, at_k) = (chosen_numbers p mode thread_traces sources pairs is.kept events is.values_first is.rows.all source x h).0 in
            (each d).1 ((k, at_k, (is.rows.later_rows k d).1 (source, x, at_k, at, h)), not_read reader d x of_reader at ne))
        | inr (q, other, wr) ↦ absurd (let e : At t i ≡ Initial y.location = sym from ∙ q in cc)
      ],
    )
      where
        has_access : (e : Event) → IsOfThreads thread_traces e → (y : Access) × (traced_access thread_traces e ≡ Some y)
        has_access (Initial l) h = absurd h
        has_access (At u j) h = get_some (accesses_at thread_traces u) j h

        there : (e : Event) → HasNumber events e → (y : Access) × (access_in v e ≡ Some y)
        there e num =
            let of_thread = number_access thread_traces events is.rows.of_threads e num in
            let (y, ay) = has_access e of_thread in
            (y, sym (access_same p mode thread_traces sources pairs is.kept e of_thread) ∙ ay)

    after_by : (e : Event) (rows : SourceRows) → source ≡ e → AreSourceRows thread_traces events later read source rows → IsRowOf events Comes rows.after
    after_by (Initial l) rows from are = after_initial l rows.reader rows.after from are.reader (are.initial l from)
    after_by (At t i) rows from are = after_access t i rows.reader rows.after from are.reader (are.after t i from)

    step_main : (m : Mode) (d e : Event) → Step v is.kept.lawful read source may (main_kind m) d e ↔ ((d ≡ source) × (e ≡ read))
    step_main Sequential d e = (λ h. h, λ h. h)
    step_main (Fenced gaps) d e = (λ h. h, λ h. h)

    -- two steps
    twice : (kind : Kind) (A : Event → Type 0) (near reader far after : ℕ) (old between new : List ℕ) → AreRowsOf events (KnownEdgeOfMode v.program (mode_in v) v.chosen kind) old →
        ((d e : Event) → (IsOfMode (mode_in v) kind × Step v is.kept.lawful read source may kind d e) ↔ (A d × (e ≡ read))) →
        IsRowOf events A near → IsRowOf events (λ e. e ≡ read) reader → IsRowOf events (λ d. IsOfMode (mode_in v) kind × (d ≡ read)) far → IsRowOf events Comes after →
        ((d e : ℕ) → RowHas between d e ↔ (RowHas old d e ⊎ (IsIn near d × IsIn reader e))) →
        ((d e : ℕ) → RowHas new d e ↔ (RowHas between d e ⊎ (IsIn far d × IsIn after e))) → AreRowsOf events (KnownEdgeOfMode w.program (mode_in w) w.chosen kind) new
    twice kind A near reader far after old between new rows steps of_near of_reader of_far of_after put put_after =
        connected events (λ d e. KnownEdgeOfMode v.program (mode_in v) v.chosen kind d e ⊎ (A d × (e ≡ read))) (KnownEdgeOfMode w.program (mode_in w) w.chosen kind) (λ d. IsOfMode (mode_in v) kind × (d ≡ read)) Comes far after between new
        (connected events (KnownEdgeOfMode v.program (mode_in v) v.chosen kind) (λ d e. KnownEdgeOfMode v.program (mode_in v) v.chosen kind d e ⊎ (A d × (e ≡ read))) A (λ e. e ≡ read) near reader old between rows of_near of_reader put (λ x y _ _. (λ h. h, λ h. h)))
        of_far of_after put_after
        (λ x y _ _. (
          λ h. elim ((source_edges v is.kept.lawful read source may kind x y).0 h) [
            | inl a ↦ inl (inl a)
            | inr (inl a) ↦ inl (inr ((steps x y).0 a))
            | inr (inr a) ↦ inr a
          ],
          λ h. (source_edges v is.kept.lawful read source may kind x y).1 (elim h [
            | inl (inl a) ↦ inl a
            | inl (inr a) ↦ inr (inl ((steps x y).1 a))
            | inr a ↦ inr (inr a)
          ]),
        ))

    module _ (rows : SourceRows) (are : AreSourceRows thread_traces events later read source rows) where
      of_mode : IsOfMode (mode_in v) (main_kind mode)
      of_mode = main_of_mode p mode

      -- the main union after a source is chosen
      pub source_main : (main₁ main₂ : List ℕ) → AreConnected main rows.written rows.reader main₁ → AreConnected main₁ rows.reader rows.after main₂ →
          AreRowsOf events (KnownEdgeOfMode w.program (mode_in w) w.chosen (main_kind mode)) main₂
      source_main main₁ main₂ put₁ put₂ = twice (main_kind mode) (λ d. d ≡ source) rows.written rows.reader rows.reader rows.after main main₁ main₂ is.rows.main_rows
          (λ d e. (λ h. (step_main mode d e).0 h.1, λ h. (of_mode, (step_main mode d e).1 h)))
          are.written are.reader
          (row_by events (λ e. e ≡ read) (λ d. IsOfMode (mode_in v) (main_kind mode) × (d ≡ read)) rows.reader (λ d x at. (λ h. (of_mode, h), λ h. h.1)) are.reader)
          (after_by source rows refl are) put₁ put₂

      -- all rows
      pub source_represented : (near outer_near outer_reader : ℕ) (main₁ main₂ global₁ global₂ : List ℕ) →
          ((k : ℕ) → IsIn near k ↔ ((SameThread source read → ⊥) × IsIn rows.written k)) →
          ((k : ℕ) → IsIn outer_near k ↔ ((mode ≡ Sequential → ⊥) × IsIn near k)) →
          ((k : ℕ) → IsIn outer_reader k ↔ ((mode ≡ Sequential → ⊥) × IsIn rows.reader k)) →
          AreConnected main rows.written rows.reader main₁ → AreConnected main₁ rows.reader rows.after main₂ →
          AreConnected global outer_near rows.reader global₁ → AreConnected global₁ outer_reader rows.after global₂ →
          IsRepresented p mode thread_traces events (sources ++ (read, source) ∷ []) pairs later main₂ global₂
      source_represented near outer_near outer_reader main₁ main₂ global₁ global₂ if_far fenced_near fenced_reader put₁ put₂ put₃ put₄ =
          let of_near : IsRowOf events (λ e. (SameThread source read → ⊥) × (e ≡ source)) near =
          row_if events (λ e. e ≡ source) (λ e. (SameThread source read → ⊥) × (e ≡ source)) (SameThread source read → ⊥) rows.written near are.written if_far (λ x. (λ h. h, λ h. h)) in
          record {
            kept = source_kept p mode thread_traces sources pairs is.kept read source (record { is_source = may.is_source; free = may.free });
            values_first = record { whole = λ d e h. may.whole };
            rows = record {
              all = is.rows.all;
              of_threads = is.rows.of_threads;
              few = is.rows.few;
              later_rows = is.rows.later_rows;
              main_rows = source_main main₁ main₂ put₁ put₂;
              global_rows = twice union.Global (λ d. IsOfMode (mode_in v) union.Global × ((SameThread source read → ⊥) × (d ≡ source))) outer_near rows.reader outer_reader rows.after global global₁ global₂ is.rows.global_rows
                  (λ d e. (λ h. ((h.0, h.1.0), h.1.1), λ h. (h.0.0, (h.0.1, h.1))))
                  (row_if events (λ e. (SameThread source read → ⊥) × (e ≡ source)) (λ d. IsOfMode (mode_in v) union.Global × ((SameThread source read → ⊥) × (d ≡ source))) (mode ≡ Sequential → ⊥) near outer_near of_near fenced_near
                  (λ x. (λ h. ((global_of_mode p mode).1 h.0, h.1), λ h. ((global_of_mode p mode).0 h.0, h.1))))
                  are.reader
                  (row_if events (λ e. e ≡ read) (λ d. IsOfMode (mode_in v) union.Global × (d ≡ read)) (mode ≡ Sequential → ⊥) rows.reader outer_reader are.reader fenced_reader
                  (λ x. (λ h. ((global_of_mode p mode).1 h.0, h.1), λ h. ((global_of_mode p mode).0 h.0, h.1))))
                  (after_by source rows refl are) put₃ put₄;
            };
          }
