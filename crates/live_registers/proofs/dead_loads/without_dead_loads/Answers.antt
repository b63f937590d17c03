use Rattle.std.proofs.Common.{◌≡◌, ◌∙◌, ℕ, List, Bool, ap}
use Rattle.tso_program.specs.declared.listing.Listing.{Listing}
use Rattle.dataflow_laws.specs.DeadLoads.{drop_loads, dropped_threads}
use Rattle.live_registers.specs.DeadPlaces.{dead_by}
use Rattle.live_registers.proofs.DeadByRows.{all_dead}
use Rattle.live_registers.proofs.dead_loads.without_dead_loads.Goals as goal

pub returns-in-Ok : goal.returns-in-Ok
returns-in-Ok c =
    let p : Listing = c.args.program.now in
    let tables : List (List (List Bool)) = c.in_ok-tables.tables.items in
    let threads : c.in_ok-threads.threads.items ≡ dropped_threads (dead_by p tables) 0 p.threads =
    c.in_ok-threads.ensures ∙ ap (λ (ts : List (List (List Bool))). dropped_threads (dead_by p ts) 0 p.threads) c.as_slice.ensures.value in
    let memory : c.in_ok-memory.memory.items ≡ p.memory = c.in_ok-memory.ensures.items ∙ c.memory.ensures.value in
    let whole : ◌≡◌ {A = Listing} (record { threads = c.in_ok-threads.threads.items; memory = c.in_ok-memory.memory.items }) (drop_loads (dead_by p tables) p) =
    λ i. record { threads = threads i; memory = memory i } in
    (dead_by p tables, all_dead p c.args.shown.now tables c.in_ok-tables.ensures, c.in-Ok.ensures.value ∙ whole)
