-- A value that is given and taken back, and reads that lack a source.
use Rattle.rowless_sketches.proofs.Vocabulary.{◌≡◌, ℕ, ◌<◌, List, [], ◌∷◌, ◌++◌, Option, Some, None, IsSome, slice_get, slice_index, set, length, refl, sym, ap, ◌∙◌, subst, arith, same_Some, slice_get_within, Listing, Mode, Access, Event, Initial, At}
use Rattle.rowless_sketches.proofs.Vocabulary.{ThreadTrace, ProgramSketch, mode_in, with_chosen, access_in, view_of, KeepsTraces, IsLawful, MarkedThread, IsValueMarkOf, LacksSource, traced_access, trace_accesses, no_accesses, given_to, with_value}
use Rattle.rowless_sketches.proofs.Vocabulary.{inl, inr, cases_eq, get_or-set_same, unwrap_or-slice_get, Sketch, machine_of_mode, IsThreadTraceOf}
use Rattle.rowless_sketches.proofs.Vocabulary.{IsSourceOf, accesses_same, given_back, length-set, ◌≢◌, unwrap_or, given_at, given_lists, given_set, get_set_other, get_set_same, length-map, given_in, IsGivenMore}

-- ---- the values that threads are given, where one trace is changed

pub given_other : (thread_traces : List ThreadTrace) (t : ℕ) (c : ThreadTrace) (u : ℕ) → u ≢ t → given_in (set thread_traces t c) u ≡ given_in thread_traces u
given_other thread_traces t c u ne = ap (λ (gs : List (List ℕ)). unwrap_or (slice_get gs u) []) (given_set thread_traces t c) ∙ ap (λ (o : Option (List ℕ)). unwrap_or o []) (get_set_other (given_lists thread_traces) t c.given u ne)

pub given_more : (thread_traces : List ThreadTrace) (t value : ℕ) (own next : ThreadTrace) → slice_get thread_traces t ≡ Some own → next.given ≡ own.given ++ value ∷ [] →
    IsGivenMore (given_in thread_traces) t value (given_in (set thread_traces t next))
given_more thread_traces t value own next there is = (
  given_at (set thread_traces t next) t next (get_set_same thread_traces t next (slice_get_within thread_traces t own there)) ∙ is ∙ ap (λ (g : List ℕ). g ++ value ∷ []) (sym (given_at thread_traces t own there)),
  given_other thread_traces t next,
)

-- ---- a thread with other values

-- thread t's reads have these values
abbrev with_values : Sketch → ℕ → List ℕ → Sketch
with_values k t given = record k { given = set k.given t given }

values_here : (k : Sketch) (t : ℕ) (given : List ℕ) → t < length k.given → given_to (with_values k t given) t ≡ given
values_here k t given h = unwrap_or-slice_get (set k.given t given) t [] ∙ get_or-set_same k.given t given [] h

-- each trace is that of its thread, where one comes from another sketch
module _ (p q : Listing) (mode other_mode : Mode) (thread_traces : List ThreadTrace) (program : q ≡ p) (same_mode : other_mode ≡ mode) (t : ℕ) (c : ThreadTrace)
    (mine_are : (u : ℕ) (d : ThreadTrace) → slice_get thread_traces u ≡ Some d → IsThreadTraceOf p (machine_of_mode p mode) u d.given d)
    (theirs : IsThreadTraceOf q (machine_of_mode q other_mode) t c.given c) (inside : t < length thread_traces) where
  own : IsThreadTraceOf p (machine_of_mode p mode) t c.given c
  own = subst (λ l. IsThreadTraceOf l (machine_of_mode l mode) t c.given c) program
      (subst (λ m. IsThreadTraceOf q (machine_of_mode q m) t c.given c) same_mode theirs)

  traces_merged : (u : ℕ) (d : ThreadTrace) → slice_get (set thread_traces t c) u ≡ Some d → IsThreadTraceOf p (machine_of_mode p mode) u d.given d
  traces_merged u d e = elim (cases_eq u t) [
    | inl q ↦ (let here : slice_get (set thread_traces t c) t ≡ Some d = subst (λ z. slice_get (set thread_traces t c) z ≡ Some d) q e in
        let same : c ≡ d = same_Some c d (sym (get_set_same thread_traces t c inside) ∙ here) in
        subst (λ z. IsThreadTraceOf p (machine_of_mode p mode) z d.given d) (sym q) (subst (λ (x : ThreadTrace). IsThreadTraceOf p (machine_of_mode p mode) t x.given x) same own))
    | inr ne ↦ mine_are u d (sym (get_set_other thread_traces t c u ne) ∙ e)
  ]

-- ---- a value that is taken back

module _ (p : Listing) (mode : Mode) (thread_traces : List ThreadTrace) (sources pairs : List (Event × Event)) (kept : KeepsTraces p mode thread_traces sources pairs) (mark : MarkedThread) (earlier : ProgramSketch) (value : ℕ)
    (is : IsValueMarkOf mark earlier) (now : view_of p mode thread_traces sources pairs ≡ with_chosen earlier (with_value earlier.chosen mark.thread value)) where
  program : earlier.program ≡ p
  program = ap (λ (s : ProgramSketch). s.program) (sym now)

  same_mode : earlier.mode ≡ mode
  same_mode = ap (λ (s : ProgramSketch). s.mode) (sym now)

  pub taken_there : mark.thread < length thread_traces
  taken_there =
      let within = slice_get_within is.traces mark.thread mark.trace is.there in
      let each = is.kept.one_each in
      let own = kept.one_each in
      let same = ap (λ (q : Listing). length q.threads) program in
      omega arith

  -- the values that the thread had
  was : given_to earlier.chosen mark.thread ≡ mark.trace.given
  was = ap (λ (s : ProgramSketch). given_to s.chosen mark.thread) is.seen ∙ given_at is.traces mark.thread mark.trace is.there

  pub taken_parts : view_of p mode (set thread_traces mark.thread mark.trace) sources pairs ≡ earlier
  taken_parts =
      ap (λ given. record { program = p; mode = mode; chosen = record { given = given; sources = sources; pairs = pairs } })
      (given_set thread_traces mark.thread mark.trace ∙ ap (set (given_lists thread_traces) mark.thread) (sym was))
      ∙ (λ i. with_chosen (now i) (with_values (now i).chosen mark.thread (given_to earlier.chosen mark.thread)))
      ∙ ap (λ given. record { program = earlier.program; mode = earlier.mode; chosen = record { given = given; sources = earlier.chosen.sources; pairs = earlier.chosen.pairs } })
      (given_back earlier.chosen.given mark.thread (given_to earlier.chosen mark.thread ++ value ∷ []))

  pub taken_kept : KeepsTraces p mode (set thread_traces mark.thread mark.trace) sources pairs
  taken_kept = record {
    lawful = subst IsLawful (sym is.seen ∙ sym taken_parts) is.kept.lawful;
    one_each = length-set thread_traces mark.thread mark.trace ∙ kept.one_each;
    traces_are = traces_merged p earlier.program mode earlier.mode thread_traces program same_mode mark.thread mark.trace kept.traces_are (is.kept.traces_are mark.thread mark.trace is.there) taken_there;
  }

  -- the thread was given this value last
  pub taken_more : IsGivenMore (given_in (set thread_traces mark.thread mark.trace)) mark.thread value (given_in thread_traces)
  taken_more =
      let within : mark.thread < length earlier.chosen.given =
      (let low = slice_get_within is.traces mark.thread mark.trace is.there in
      let one = ap (λ (s : ProgramSketch). length s.chosen.given) is.seen in
      let long = length-map is.traces (λ (c : ThreadTrace). c.given) in
      omega arith) in
      let back = given_at (set thread_traces mark.thread mark.trace) mark.thread mark.trace (get_set_same thread_traces mark.thread mark.trace taken_there) in (
        ap (λ (s : ProgramSketch). given_to s.chosen mark.thread) now ∙ values_here earlier.chosen mark.thread (given_to earlier.chosen mark.thread ++ value ∷ []) within ∙ ap (λ (g : List ℕ). g ++ value ∷ []) (was ∙ sym back),
        λ u ne. sym (given_other thread_traces mark.thread mark.trace u ne),
      )

-- ---- a read that lacks a source

module _ (p : Listing) (mode : Mode) (thread_traces : List ThreadTrace) (sources pairs : List (Event × Event)) (kept : KeepsTraces p mode thread_traces sources pairs)
    (read : Event) (x : Access) (value : ℕ) (at : traced_access thread_traces read ≡ Some x) (reads : x.read ≡ Some value)
    (not_first : slice_index p.memory x.location ≡ value → ⊥)
    (not_written : (t i : ℕ) (c : ThreadTrace) (y : Access) → slice_get thread_traces t ≡ Some c → slice_get c.accesses i ≡ Some y → y.location ≡ x.location → y.written ≡ Some value → ⊥) where
  abbrev s : ProgramSketch
  s = view_of p mode thread_traces sources pairs

  access_is : (e : Event) (y : Access) → traced_access thread_traces e ≡ Some y → access_in s e ≡ Some y
  access_is (Initial l) y q = absurd cc
  access_is (At t i) y q = ap (λ xs. slice_get xs i) (sym (accesses_same p mode thread_traces sources pairs kept t)) ∙ q

  none : (source : Event) → IsSourceOf p (mode_in s) s.chosen source read → ⊥
  none source (x', v, at', reads', differ, (y, there, place, written)) =
      let one : x ≡ x' = same_Some x x' (sym (access_is read x at) ∙ at') in
      let same : value ≡ v = same_Some value v (sym reads ∙ ap (λ (a : Access). a.read) one ∙ reads') in
      by source y there (place ∙ ap (λ (a : Access). a.location) (sym one)) (written ∙ ap Some (sym same))
    where
      by : (source : Event) (y : Access) → access_in s source ≡ Some y → y.location ≡ x.location → y.written ≡ Some value → ⊥
      by (Initial l) y there place written =
          let same = same_Some _ y there in
          let held : Some (slice_index p.memory l) ≡ Some value = ap (λ (a : Access). a.written) same ∙ written in
          let where_is : l ≡ x.location = ap (λ (a : Access). a.location) same ∙ place in
          not_first (ap (slice_index p.memory) (sym where_is) ∙ same_Some _ value held)
      by (At t i) y there place written = go (slice_get thread_traces t) refl
        where
          go : (o : Option ThreadTrace) → slice_get thread_traces t ≡ o → ⊥
          go (Some c) e = not_written t i c y e (ap (λ xs. slice_get xs i) (sym (trace_accesses p mode thread_traces sources pairs kept t c e)) ∙ there) place written
          go None e = (let gone : slice_get {X = Access} [] i ≡ Some y = ap (λ xs. slice_get xs i) (sym (no_accesses p mode thread_traces sources pairs kept t e)) ∙ there in nothing i y gone)
            where
              nothing : (i : ℕ) (y : Access) → slice_get {X = Access} [] i ≡ Some y → ⊥
              nothing i y q = absurd cc

  pub lacks : LacksSource s read
  lacks = record {
    is_read = (x, access_is read x at, subst (λ (o : Option ℕ). IsSome o) (sym reads) refl);
    free = λ (source, has). none source (kept.lawful.is_sketch.sources read source has);
    no_source = none;
  }
