use Rattle.tso_program.proofs.Vocabulary.{◌≡◌, ◌≤◌, ◌<◌, ◌+◌, ℕ, List, arith, length, take, get_or, ap, sym, ◌∙◌, Option, Some, subst, take_all, slice_get-get_or, Thread, code_of, gap_count, gap_number, gaps_of_thread}
use Rattle.tso_program.proofs.{Found.code_found, Gaps.gap_same, Gaps.gap_below, Gaps.gap_is, GapPlaces.no_place, GapPlaces.places_are_numbered}
use Rattle.tso_program.proofs.program.Program.gap_place.Goals as goal

-- the place that is found has the number
numbered : (threads : List Thread) (t left gap : ℕ) (thread : Thread) → t < length threads → thread ≡ get_or threads t thread → gap_count (take t threads) + left ≡ gap → left < gaps_of_thread thread
    → gap_number threads t (left + 1) ≡ Some gap
numbered threads t left gap thread h is so_far small =
    let code : code_of threads t ≡ thread.code = code_found threads t thread (slice_get-get_or threads t thread h ∙ ap (λ x. Some x) (sym is)) in
    let long = ap length code in
    gap_is threads t (left + 1) gap (omega arith) (omega arith) (omega arith)

-- it is the only one
only : (threads : List Thread) (t k gap : ℕ) → gap_number threads t k ≡ Some gap → (u j : ℕ) → gap_number threads u j ≡ Some gap → ◌≡◌ {A = Option (ℕ × ℕ)} (Some (t, k)) (Some (u, j))
only threads t k gap here u j e =
    let both = gap_same threads t k u j gap here e in
    let same : ◌≡◌ {A = ℕ × ℕ} (t, k) (u, j) = λ i. (both.0 i, both.1 i) in
    ap (λ p. Some p) same

-- a number past all gaps is of no gap
none : (threads : List Thread) (t left gap : ℕ) → length threads ≤ t → gap_count (take t threads) + left ≡ gap → (u k : ℕ) → gap_number threads u k ≡ Some gap → ⊥
none threads t left gap h so_far u k e =
    let all = ap gap_count (take_all t threads h) in
    let small = gap_below threads u k gap e in
    omega arith

here : (c : goal.Then-left-gaps) → gap_number c.args.self.now.threads c.loop-t.t (c.loop-t.left + 1) ≡ Some c.args.gap
here c =
    let threads : List Thread = c.args.self.now.threads in
    let value : c.threads-thread-items.result.now ≡ threads = c.threads-thread-items.ensures.value in
    let P : List Thread → Type 0 = λ ts. (c.loop-t.t < length ts) × (c.thread-item.result ≡ get_or ts c.loop-t.t c.thread-item.result) in
    let facts = subst P value (c.loop-t-test.true, c.thread-item.is) in
    numbered threads c.loop-t.t c.loop-t.left c.args.gap c.thread-item.result facts.0 facts.1 c.loop-t.invariant (omega (arith, c.gaps_of_thread-gaps.ensures, c.if-left-gaps.true))

past : (c : goal.After-loop-t) → (u k : ℕ) → gap_number c.args.self.now.threads u k ≡ Some c.args.gap → ⊥
past c =
    let threads : List Thread = c.args.self.now.threads in
    let P : List Thread → Type 0 = λ ts. length ts ≤ c.loop-t.t in
    none threads c.loop-t.t c.loop-t.left c.args.gap (subst P c.threads-thread-items.ensures.value c.loop-t-test.false) c.loop-t.invariant

pub returns-then-left-gaps-clause-value : goal.returns-then-left-gaps-clause-value
returns-then-left-gaps-clause-value c = sym ((places_are_numbered c.args.self.now.threads c.args.gap c.loop-t.t (c.loop-t.left + 1)).1 (here c))

pub returns-then-left-gaps-clause-found : goal.returns-then-left-gaps-clause-found
returns-then-left-gaps-clause-found c = only c.args.self.now.threads c.loop-t.t (c.loop-t.left + 1) c.args.gap (here c)

pub returns-clause-value : goal.returns-clause-value
returns-clause-value c = sym (no_place c.args.self.now.threads c.args.gap (past c))

pub returns-clause-found : goal.returns-clause-found
returns-clause-found c = λ u k e. absurd (past c u k e)
