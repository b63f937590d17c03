use Rattle.known_edges.proofs.Vocabulary.{◌≡◌, ◌↔◌, ◌+◌, ◌∙◌, ◌<◌, ℕ, List, get_or, length, ap, sym, subst, arith, IsIn, ROW_BITS, Access, Event, At, ThreadTrace, NumberedTraces, InOrder, IsRowOf, IsLaterIn}
use Rattle.known_edges.proofs.{Accesses.accesses_read, ThreadRows.placed, ThreadRows.moved_up}
use Rattle.known_edges.proofs.numbered_traces.Traces.later_in_order.Goals as goal

pub bounds-thread_traces-t : goal.bounds-thread_traces-t
bounds-thread_traces-t c =
    let place = placed c.self.inside.thread_traces.items c.self.inside.events.items c.self.inside.whole c.self.inside.starts c.self.inside.counts c.self.inside.written c.args.self.now c.args.number c.in-Access.t c.in-Access.i c.args.from c.self.invariant c.self.view_is c.requires c.in-Access.is in
    let there = place.there in
    let long = ap length c.as_slice-thread_traces.ensures.value in
    omega arith

pub later_than-requires-clause-few : goal.later_than-requires-clause-few
later_than-requires-clause-few c =
    let place = placed c.self.inside.thread_traces.items c.self.inside.events.items c.self.inside.whole c.self.inside.starts c.self.inside.counts c.self.inside.written c.args.self.now c.args.number c.in-Access.t c.in-Access.i c.args.from c.self.invariant c.self.view_is c.requires c.in-Access.is in
    let short = place.short in
    let trace = c.index-thread_traces-t.result in
    let read = subst (λ (thread_traces : List ThreadTrace). trace ≡ get_or thread_traces c.in-Access.t trace) c.as_slice-thread_traces.ensures.value c.index-thread_traces-t.is in
    let same = ap length (accesses_read c.self.inside.thread_traces.items c.in-Access.t trace place.there read) in
    let listed = ap length (c.as_slice-accesses.ensures ∙ ap (λ (x : ThreadTrace). x.accesses) c.trace.ensures) in
    omega arith

pub later_than-requires-clause-there : goal.later_than-requires-clause-there
later_than-requires-clause-there c =
    let place = placed c.self.inside.thread_traces.items c.self.inside.events.items c.self.inside.whole c.self.inside.starts c.self.inside.counts c.self.inside.written c.args.self.now c.args.number c.in-Access.t c.in-Access.i c.args.from c.self.invariant c.self.view_is c.requires c.in-Access.is in
    let within = place.within in
    let trace = c.index-thread_traces-t.result in
    let read = subst (λ (thread_traces : List ThreadTrace). trace ≡ get_or thread_traces c.in-Access.t trace) c.as_slice-thread_traces.ensures.value c.index-thread_traces-t.is in
    let same = ap length (accesses_read c.self.inside.thread_traces.items c.in-Access.t trace place.there read) in
    let listed = ap length (c.as_slice-accesses.ensures ∙ ap (λ (x : ThreadTrace). x.accesses) c.trace.ensures) in
    omega arith

pub overflow_cast-start-in-Access : goal.overflow_cast-start-in-Access
overflow_cast-start-in-Access c = let place = placed c.self.inside.thread_traces.items c.self.inside.events.items c.self.inside.whole c.self.inside.starts c.self.inside.counts c.self.inside.written c.args.self.now c.args.number c.in-Access.t c.in-Access.i c.args.from c.self.invariant c.self.view_is c.requires c.in-Access.is in let low = place.low in omega arith

pub raised-requires : goal.raised-requires
raised-requires c = let place = placed c.self.inside.thread_traces.items c.self.inside.events.items c.self.inside.whole c.self.inside.starts c.self.inside.counts c.self.inside.written c.args.self.now c.args.number c.in-Access.t c.in-Access.i c.args.from c.self.invariant c.self.view_is c.requires c.in-Access.is in let low = place.low in omega arith

pub returns-in-Access : goal.returns-in-Access
returns-in-Access c =
    let place = placed c.self.inside.thread_traces.items c.self.inside.events.items c.self.inside.whole c.self.inside.starts c.self.inside.counts c.self.inside.written c.args.self.now c.args.number c.in-Access.t c.in-Access.i c.args.from c.self.invariant c.self.view_is c.requires c.in-Access.is in
    let trace = c.index-thread_traces-t.result in
    let items = c.self.inside.thread_traces.items in
    let events = c.self.inside.events.items in
    let row = c.later_than.result in
    let read = subst (λ (thread_traces : List ThreadTrace). trace ≡ get_or thread_traces c.in-Access.t trace) c.as_slice-thread_traces.ensures.value c.index-thread_traces-t.is in
    let listed = c.as_slice-accesses.ensures ∙ ap (λ (x : ThreadTrace). x.accesses) c.trace.ensures ∙ sym (accesses_read items c.in-Access.t trace place.there read) in
    let own = subst (λ (accesses : List Access). (j : ℕ) → IsIn row j ↔ IsLaterIn c.args.kind accesses c.in-Access.i j) listed c.later_than.ensures in
    let each = subst (λ (start : ℕ). (k : ℕ) → IsIn c.raised.result k ↔ ((k < ROW_BITS) × ((j : ℕ) × IsIn row j × (start + j ≡ k)))) (let sum = place.sum in omega arith) c.raised.ensures in
    let moved = moved_up items events c.self.inside.starts place.accesses c.self.invariant.starts_are c.self.invariant.numbered.few c.args.kind c.args.number c.in-Access.t c.in-Access.i place.start row c.raised.result place.here place.sum own each in
    subst (λ (from : Event). IsRowOf c.args.self.now.events (InOrder c.args.self.now.thread_traces c.args.kind from) c.raised.result) (sym c.in-Access.is)
    (subst (λ (x : NumberedTraces). IsRowOf x.events (InOrder x.thread_traces c.args.kind (At c.in-Access.t c.in-Access.i)) c.raised.result) c.self.view_is moved)
