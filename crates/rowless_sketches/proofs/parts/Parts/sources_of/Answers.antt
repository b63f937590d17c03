use Rattle.rowless_sketches.proofs.Vocabulary.{◌≡◌, ◌∙◌, ◌≤◌, ℕ, [], Option, IsSome, length, refl, sym, ap, subst, arith, slice_get_past, ProgramSketch, trace_in, ReadsThisValue, IsRead, no_accesses, Event}
use Rattle.rowless_sketches.proofs.SourceLists.{first_listed, all_listed}
use Rattle.rowless_sketches.proofs.parts.Parts.sources_of.Goals as goal

is_read_by : (s : ProgramSketch) (read : Event) (l v : ℕ) → ReadsThisValue s read l v → IsRead s read
is_read_by s read l v (x, at, reads, place) = (x, at, subst (λ (o : Option ℕ). IsSome o) (sym reads) refl)

pub returns-in_ok-push_sources-in-Some : goal.returns-in_ok-push_sources-in-Some
returns-in_ok-push_sources-in-Some c =
    let s = c.args.self.now in
    let read = c.args.read in
    let reads = c.in-Some.ensures in
    let traces = c.self.inside.thread_traces.now in
    let past : (t : ℕ) → length s.program.threads ≤ t → (trace_in s t).accesses ≡ [] = λ t le.
    (let each = c.self.invariant.one_each in
    let many = ap (λ (k : ProgramSketch). length k.program.threads) c.self.view_is in
    ap (λ (k : ProgramSketch). (trace_in k t).accesses) (sym c.self.view_is)
    ∙ no_accesses c.self.inside.program.now c.self.inside.mode.now traces c.self.inside.sources.now c.self.inside.pairs.now c.self.invariant t (slice_get_past traces t (omega arith))) in
    all_listed s read (length s.program.threads) c.push_sources.new.sources.items (is_read_by s read c.in-Some.location c.in-Some.value reads) past
    (c.in_ok-push_sources-in-Some.ensures
    (first_listed s read c.in-Some.location c.in-Some.value c.new-sources.result.items c.push_if_source.new.sources.items reads c.new-sources.ensures.items
    c.in_ok-push_if_source-in-Some.ensures.exact c.in_ok-push_if_source-in-Some.ensures.ordered))
