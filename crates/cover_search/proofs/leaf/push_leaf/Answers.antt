use Rattle.cover_search.proofs.Vocabulary.{◌++◌, ◌∙◌, List, ap, AccessId, spell, Cycle}
use Rattle.cover_search.proofs.AccessesNamed.{of_thread}
use Rattle.cover_search.proofs.Leaves.{cycle_leaf}
use Rattle.std.proofs.lemmas.Result.{on_ok_weaker}
use Rattle.cover_search.proofs.leaf.push_leaf.Goals as goal

pub accesses_of-requires : goal.accesses_of-requires
accesses_of-requires c = λ e here. of_thread c.args.sketch.now e (c.requires.accesses.accesses e here)

pub returns : goal.returns
returns c = on_ok_weaker c.push_cycle.result (λ pushed shown outcomes.
    let accesses = c.in_ok-accesses.accesses.items in
    record {
      tree = Cycle c.args.kind accesses;
      is = cycle_leaf c.args.sketch.now shown outcomes c.args.kind accesses c.args.events.now c.in_ok-accesses.ensures c.requires.cycle c.requires.accesses;
      pushed = pushed ∙ ap (λ (es : List AccessId). c.args.nodes.now.items ++ spell (Cycle c.args.kind es)) c.deref.ensures.value;
    }) c.push_cycle.ensures
