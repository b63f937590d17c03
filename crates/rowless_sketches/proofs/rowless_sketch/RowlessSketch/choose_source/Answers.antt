use Rattle.rowless_sketches.proofs.Vocabulary.{List, sym, subst, Event, ProgramSketch, KeepsTraces, CanRead, source_kept}
use Rattle.rowless_sketches.proofs.rowless_sketch.RowlessSketch.choose_source.Goals as goal

pub invariant_of-self-2 : goal.invariant_of-self-2
invariant_of-self-2 c =
    let may = subst (λ (s : ProgramSketch). CanRead s c.args.read c.args.source) (sym c.self.view_is) c.requires in
    record {
      kept = subst (λ (xs : List (Event × Event)). KeepsTraces c.self.inside.base.program c.self.inside.base.mode c.self.inside.thread_traces.items (xs) c.self.inside.pairs.items) (sym c.in_ok-push.ensures.items)
          (source_kept c.self.inside.base.program c.self.inside.base.mode c.self.inside.thread_traces.items c.self.inside.sources.items c.self.inside.pairs.items c.self.invariant.kept c.args.read c.args.source may);
      lists_are = c.self.invariant.lists_are;
      tree_is = c.self.invariant.tree_is;
    }
