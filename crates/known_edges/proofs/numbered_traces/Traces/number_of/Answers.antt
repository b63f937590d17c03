use Rattle.known_edges.proofs.Vocabulary.{◌≡◌, ◌∙◌, ◌+◌, ◌<◌, Contains, Some, length, slice_get, ap, sym, subst, slice_get-get_or, Event, Initial, At, NumberedTraces}
use Rattle.known_edges.proofs.Starts.{no_initial, number_at, past_count}
use Rattle.known_edges.proofs.numbered_traces.Traces.number_of.Goals as goal

pub returns-in-Initial : goal.returns-in-Initial
returns-in-Initial c = λ has. no_initial c.self.inside.thread_traces.items c.self.inside.events.items c.in-Initial.field-0 c.self.invariant.numbered.of_threads
    (subst (λ (x : NumberedTraces). Contains x.events (Initial c.in-Initial.field-0)) (sym c.self.view_is) (subst (Contains c.args.self.now.events) c.in-Initial.is has))

pub returns-then-i-count : goal.returns-then-i-count
returns-then-i-count c =
    let start = c.in_ok-start-in-Access.field-0.now in
    let count = c.in_ok-count-in-Access.field-0.now in
    let here : slice_get c.self.inside.starts c.in-Access.t ≡ Some start = slice_get-get_or c.self.inside.starts c.in-Access.t start c.in_ok-start-in-Access.ensures.lookup.3.0 ∙ ap (λ n. Some n) (sym c.in_ok-start-in-Access.ensures.lookup.1) in
    let there : slice_get c.self.inside.counts c.in-Access.t ≡ Some count = slice_get-get_or c.self.inside.counts c.in-Access.t count c.in_ok-count-in-Access.ensures.lookup.3.0 ∙ ap (λ n. Some n) (sym c.in_ok-count-in-Access.ensures.lookup.1) in
    subst (λ (e : Event). (start + c.in-Access.i < length c.args.self.now.events) × (slice_get c.args.self.now.events (start + c.in-Access.i) ≡ Some e)) (sym c.in-Access.is)
    (subst (λ (x : NumberedTraces). (start + c.in-Access.i < length x.events) × (slice_get x.events (start + c.in-Access.i) ≡ Some (At c.in-Access.t c.in-Access.i))) c.self.view_is
    (number_at c.self.inside.events.items c.self.inside.starts c.self.inside.counts c.in-Access.t c.in-Access.i c.self.invariant.starts_are c.self.invariant.counts_are start count here there c.if-i-count.true))

pub returns-else-i-count : goal.returns-else-i-count
returns-else-i-count c = λ has.
    let count = c.in_ok-count-in-Access.field-0.now in
    let there : slice_get c.self.inside.counts c.in-Access.t ≡ Some count = slice_get-get_or c.self.inside.counts c.in-Access.t count c.in_ok-count-in-Access.ensures.lookup.3.0 ∙ ap (λ n. Some n) (sym c.in_ok-count-in-Access.ensures.lookup.1) in
    past_count c.self.inside.events.items c.self.inside.starts c.self.inside.counts c.in-Access.t c.in-Access.i c.self.invariant.starts_are c.self.invariant.counts_are count there c.if-i-count.false
    (subst (λ (x : NumberedTraces). Contains x.events (At c.in-Access.t c.in-Access.i)) (sym c.self.view_is) (subst (Contains c.args.self.now.events) c.in-Access.is has))
