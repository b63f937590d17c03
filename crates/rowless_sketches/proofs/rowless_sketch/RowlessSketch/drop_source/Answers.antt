use Rattle.rowless_sketches.proofs.Vocabulary.{◌≡◌, ◌∙◌, ◌<◌, ◌++◌, ◌∷◌, [], List, length, vec_len, ap, subst, arith, option_to_list, length_push, Event, ProgramSketch, KeepsTraces, view_of}
use Rattle.rowless_sketches.proofs.ChoicesDropped.{fewer_sources, last_dropped}
use Rattle.rowless_sketches.proofs.rowless_sketch.RowlessSketch.drop_source.Goals as goal

pub invariant_of-self : goal.invariant_of-self
invariant_of-self c = record {
  kept = fewer_sources c.self.inside.base.program c.self.inside.base.mode c.self.inside.thread_traces.items c.pop.new.self.items c.self.inside.pairs.items (option_to_list c.pop.result)
      (subst (λ (xs : List (Event × Event)). KeepsTraces c.self.inside.base.program c.self.inside.base.mode c.self.inside.thread_traces.items (xs) c.self.inside.pairs.items) c.pop.ensures.items c.self.invariant.kept);
  lists_are = c.self.invariant.lists_are;
  tree_is = c.self.invariant.tree_is;
}

pub returns : goal.returns
returns c earlier read source now =
    let full = c.self.view_is ∙ now in
    let own = c.self.inside.sources.items in
    let last : Event × Event = (read, source) in
    let e : own ≡ earlier.chosen.sources ++ last ∷ [] = ap (λ (s : ProgramSketch). s.chosen.sources) full in
    let some : 0 < vec_len c.self.inside.sources = omega (arith, c.self.inside.sources.ok.0, ap length e, length_push earlier.chosen.sources last) in
    let left = last_dropped own c.pop.new.self.items earlier.chosen.sources last c.pop.result c.pop.ensures.items (c.pop.ensures.variant.1 some) e in
    ap (λ (xs : List (Event × Event)). view_of c.self.inside.base.program c.self.inside.base.mode c.self.inside.thread_traces.items xs c.self.inside.pairs.items) left
    ∙ ap (λ (s : ProgramSketch). record { program = s.program; mode = s.mode; chosen = record { given = s.chosen.given; sources = earlier.chosen.sources; pairs = s.chosen.pairs } }) full
