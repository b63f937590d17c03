use Rattle.tso_machine.proofs.Vocabulary.{◌≡◌, ◌∙◌, ◌<◌, sym, ap, ℕ, length, arith, rules, with_items_is, Listing, gaps_in, action, Core, Cores, FitsProgram, no_core}
use Rattle.std.specs.Vec.{with_items}
use Rattle.tso_machine.proofs.{Link.read_is, Effects.IsNext, Effects.exec_done}
use Rattle.std.proofs.lemmas.Result.{on_ok_weaker}
use Rattle.tso_machine.proofs.state.State.exec.Goals as goal

pub returns : goal.returns
returns c =
    let s : Cores = record { cores = c.self.inside.cores.items; memory = c.self.inside.memory.items } in
    let p : Listing = c.args.program.now in
    let fits : FitsProgram p s = rw c.self.view_is c.requires in
    let place : ℕ = c.args.t in
    let core : Core = c.index_mut-core.result.now in
    let there : place < length s.cores = omega (arith, c.len.ensures, c.self.inside.cores.ok.0) in
    let next : IsNext p c.args.fenced.now c.args.model s place core c.action-action.result c.is_fenced-fenced_here.result = record {
      thread = there;
      found = read_is s.cores place core no_core there c.index_mut-core.ensures.value;
      next = c.action-action.ensures.value ∙ ap (action p.threads place) c.local-local.ensures;
      gap = c.is_fenced-fenced_here.ensures ∙ ap (λ l. gaps_in p c.args.fenced.now place l.place) c.local-local.ensures;
    } in
    let made = rw c.as_mut_slice.ensures.value at c.act.ensures.ok in
    let kept : length c.act.new.memory ≡ c.self.inside.memory.len = c.act.auto.memory ∙ ap length c.as_mut_slice.ensures.value ∙ sym c.self.inside.memory.ok.0 in
    let written : (with_items c.self.inside.memory c.act.new.memory).items ≡ c.act.new.memory = with_items_is c.self.inside.memory c.act.new.memory kept in
    record {
      ok = rw (← c.self.view_is, written) (on_ok_weaker c.act.result (λ e. (exec_done p c.args.fenced.now c.args.model s place core c.action-action.result c.is_fenced-fenced_here.result (c.act.new.self, c.act.new.memory) next fits c.action-action.ensures.located e).0) made);
      err = search rules;
      fits = rw written (on_ok_weaker c.act.result (λ e. (exec_done p c.args.fenced.now c.args.model s place core c.action-action.result c.is_fenced-fenced_here.result (c.act.new.self, c.act.new.memory) next fits c.action-action.ensures.located e).1) made);
    }
