-- Settled reads, and which threads may still store a value to a location.
use Rattle.rowless_sketches.proofs.Vocabulary.{◌≡◌, ◌↔◌, ℕ, ◌≤◌, Bool, true, false, not, IsTrue, List, Option, Some, None, IsSome, slice_get, refl, sym, ap, ◌∙◌, subst, same_Some, Listing, Mode, Event, Access, ThreadTrace, ProgramSketch, mode_in, view_of, KeepsTraces, next_read}
use Rattle.rowless_sketches.proofs.Vocabulary.{IsRead, ReadsThisValue, trace_last, trace_next, past_next, no_trace}
use Rattle.candidate_executions.specs.Settled.{IsOfOther, IsSettled, MayStillWrite, MayStore}
use Rattle.tso_program.specs.declared.action.Local.{Local}
use Rattle.tso_program.specs.declared.instruction.Instr.{Instr}
use Rattle.tso_program.specs.Listings.{code_of}

-- ---- a thread that reads on

module _ (p : Listing) (mode : Mode) (thread_traces : List ThreadTrace) (sources pairs : List (Event × Event)) (kept : KeepsTraces p mode thread_traces sources pairs) (u l v : ℕ) where
  abbrev s : ProgramSketch
  s = view_of p mode thread_traces sources pairs

  abbrev StoresFrom : ℕ → Type 0
  StoresFrom place = (k : ℕ) × (place ≤ k) × ((x : Instr) × (slice_get (code_of p.threads u) k ≡ Some x) × MayStore x l v)

  module _ (c : ThreadTrace) (there : slice_get thread_traces u ≡ Some c) where
    next_is : c.next ≡ next_read p (mode_in s) s.chosen u
    next_is = (kept.traces_are u c there).next ∙ sym (trace_next p mode thread_traces sources pairs kept u c there)

    -- where it has a next read, its instructions from where it stops decide
    pub ahead : IsSome c.next → StoresFrom c.last.place ↔ MayStillWrite p (mode_in s) s.chosen u l v
    ahead some =
        let stops = ap (λ (x : Local). x.place) (trace_last p mode thread_traces sources pairs kept u c there) in (
          λ (k, le, (x, at, may)). record { goes_on = subst (λ (o : Option ℕ). IsSome o) next_is some; place = k; is_ahead = subst (λ (n : ℕ). n ≤ k) (sym stops) le; instruction = x; is_there = at; may_store = may },
          λ still. (still.place, subst (λ (n : ℕ). n ≤ still.place) stops still.is_ahead, (still.instruction, still.is_there, still.may_store)),
        )

    -- else it writes no more
    pub ended : (IsSome c.next → ⊥) → MayStillWrite p (mode_in s) s.chosen u l v → ⊥
    ended none still = none (subst (λ (o : Option ℕ). IsSome o) (sym next_is) still.goes_on)

  -- nor does a thread that is not there
  pub not_there : slice_get thread_traces u ≡ None → MayStillWrite p (mode_in s) s.chosen u l v → ⊥
  not_there none still =
      (let gone : IsSome {T = ℕ} None = subst (λ (o : Option ℕ). IsSome o) (past_next p mode thread_traces sources pairs kept u (no_trace p mode thread_traces sources pairs kept u none)) still.goes_on in cc)

-- ---- a read

-- it is settled where no other thread may still write what it has read
pub settled_by : (s : ProgramSketch) (read : Event) (l v : ℕ) (b : Bool) → ReadsThisValue s read l v →
    (IsTrue b ↔ ((u : ℕ) × IsOfOther u read × MayStillWrite s.program (mode_in s) s.chosen u l v)) → IsTrue (not b) ↔ IsSettled s.program (mode_in s) s.chosen read
settled_by s read l v b (x, at, reads, place) test = (to b test, from b test)
  where
    to : (b : Bool) → (IsTrue b ↔ ((u : ℕ) × IsOfOther u read × MayStillWrite s.program (mode_in s) s.chosen u l v)) → IsTrue (not b) → IsSettled s.program (mode_in s) s.chosen read
    to true test t = absurd (let no : false ≡ true = t in cc)
    to false test t = λ y w u at_too reads_too other may.
        let same : y ≡ x = same_Some y x (sym at_too ∙ at) in
        let value : w ≡ v = same_Some w v (sym reads_too ∙ ap (λ (z : Access). z.read) same ∙ reads) in
        let where_is : y.location ≡ l = ap (λ (z : Access). z.location) same ∙ place in
        let no : false ≡ true = test.1 (u, other, subst (λ (n : ℕ). MayStillWrite s.program (mode_in s) s.chosen u l n) value (subst (λ (n : ℕ). MayStillWrite s.program (mode_in s) s.chosen u n w) where_is may)) in
        cc

    from : (b : Bool) → (IsTrue b ↔ ((u : ℕ) × IsOfOther u read × MayStillWrite s.program (mode_in s) s.chosen u l v)) → IsSettled s.program (mode_in s) s.chosen read → IsTrue (not b)
    from false test settled = refl
    from true test settled =
        let (u, other, may) = test.0 refl in
        absurd (settled x v u at reads other (subst (λ (n : ℕ). MayStillWrite s.program (mode_in s) s.chosen u n v) (sym place) may))

-- what is no read is settled
pub unread_is_settled : (s : ProgramSketch) (e : Event) → (IsRead s e → ⊥) → IsSettled s.program (mode_in s) s.chosen e
unread_is_settled s e none x v u at reads other may = none (x, at, subst (λ (o : Option ℕ). IsSome o) (sym reads) refl)
