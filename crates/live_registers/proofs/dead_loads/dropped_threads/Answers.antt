use Rattle.std.proofs.Common.{◌≡◌, ◌<◌, ◌∙◌, List, [], Bool, length, get_or, sym, subst, arith}
use Rattle.std.proofs.lemmas.List.{get_or_default}
use Rattle.tso_program.specs.declared.listing.Listing.{Listing}
use Rattle.tso_program.specs.declared.listing.Thread.{Thread}
use Rattle.dataflow_laws.specs.DeadLoads.{dropped_threads}
use Rattle.live_registers.specs.DeadPlaces.{dead_by}
use Rattle.live_registers.proofs.DroppedThreads.{thread_step}
use Rattle.live_registers.proofs.dead_loads.dropped_threads.Goals as goal

pub loop-t-preserved : goal.loop-t-preserved
loop-t-preserved c =
    let p : Listing = c.args.program.now in
    let tables : List (List (List Bool)) = c.args.tables.now in
    let P : List Thread → Type 0 = λ ts. (c.loop-t.t < length ts) × (c.thread-item.result ≡ get_or ts c.loop-t.t c.thread-item.result) in
    let facts = subst P c.threads-thread-items.ensures.value (c.loop-t-test.true, c.thread-item.is) in
    let there : c.loop-t.t < length tables = omega (arith, facts.0, c.requires.many) in
    thread_step p tables c.loop-t.t c.thread-item.result c.in_ok-dropped_thread.field-0 c.as_slice.result.now c.loop-t.threads.items c.push.new.self.items (dropped_threads (dead_by p tables) 0 p.threads)
    facts.0 facts.1 (c.as_slice.ensures ∙ (c.index-tables-t.is ∙ get_or_default tables c.loop-t.t c.index-tables-t.result [] there)) c.in_ok-dropped_thread.ensures c.in_ok-push.ensures.items c.loop-t.invariant
