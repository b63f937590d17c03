use Rattle.known_edges.proofs.Vocabulary.{◌≡◌, List, ap, sym, subst, Event, Kind, Sequential, ThreadTrace, NumberedTraces, AreRowsOf, InOrder, HasOrder}
use Rattle.candidate_executions.specs.declared.event.Kind.TheVariants as union
use Rattle.known_edges.proofs.OrderJoins.{order_joins}
use Rattle.known_edges.proofs.order_rows.in_order.Goals as goal

pub order_rows-main-requires : goal.order_rows-main-requires
order_rows-main-requires c = subst (λ (thread_traces : List ThreadTrace). (d e f : Event) → InOrder thread_traces c.main_union.result d e → InOrder thread_traces c.main_union.result e f → InOrder thread_traces c.main_union.result d f)
    (sym c.in_ok-traces.ensures.thread_traces) (order_joins c.args.thread_traces.items c.requires c.main_union.result)

pub global_rows-global-requires : goal.global_rows-global-requires
global_rows-global-requires c = subst (λ (thread_traces : List ThreadTrace). (d e f : Event) → InOrder thread_traces union.Global d e → InOrder thread_traces union.Global e f → InOrder thread_traces union.Global d f)
    (sym c.in_ok-traces.ensures.thread_traces) (order_joins c.args.thread_traces.items c.requires union.Global)

pub returns-clause-order : goal.returns-clause-order
returns-clause-order c =
    let threads = c.args.thread_traces.items in
    let events = c.in_ok-traces.traces.events in
    let main = c.order_rows-main.result in
    let global = c.global_rows-global.result in
    subst (λ (es : List Event). HasOrder c.args.mode threads es main global) (sym (ap (λ (x : NumberedTraces). x.events) c.in_ok-new.ensures.ok))
    (record {
      numbered = c.in_ok-traces.ensures.numbered;
      main_rows = subst (λ (kind : Kind). AreRowsOf events (InOrder threads kind) main) c.main_union.ensures
          (subst (λ (ts : List ThreadTrace). AreRowsOf events (InOrder ts c.main_union.result) main) c.in_ok-traces.ensures.thread_traces c.order_rows-main.ensures);
      global_rows = subst (λ (ts : List ThreadTrace). AreRowsOf events (λ d e. (c.args.mode ≡ Sequential → ⊥) × InOrder ts union.Global d e) global) c.in_ok-traces.ensures.thread_traces c.global_rows-global.ensures;
    })
