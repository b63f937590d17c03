use Rattle.rowless_sketches.proofs.Vocabulary.{◌≡◌, ◌∙◌, ◌<◌, ◌++◌, ◌∷◌, [], List, length, vec_len, ap, subst, arith, option_to_list, length_push, Event, ProgramSketch, KeepsTraces, view_of}
use Rattle.rowless_sketches.proofs.ChoicesDropped.{fewer_pairs, last_dropped}
use Rattle.rowless_sketches.proofs.rowless_sketch.RowlessSketch.drop_order.Goals as goal

pub invariant_of-self : goal.invariant_of-self
invariant_of-self c = record {
  kept = fewer_pairs c.self.inside.base.program c.self.inside.base.mode c.self.inside.thread_traces.items c.self.inside.sources.items c.pop.new.self.items (option_to_list c.pop.result)
      (subst (λ (xs : List (Event × Event)). KeepsTraces c.self.inside.base.program c.self.inside.base.mode c.self.inside.thread_traces.items c.self.inside.sources.items (xs)) c.pop.ensures.items c.self.invariant.kept);
  lists_are = c.self.invariant.lists_are;
  tree_is = c.self.invariant.tree_is;
}

pub returns : goal.returns
returns c earlier first second now =
    let full = c.self.view_is ∙ now in
    let own = c.self.inside.pairs.items in
    let last : Event × Event = (first, second) in
    let e : own ≡ earlier.chosen.pairs ++ last ∷ [] = ap (λ (s : ProgramSketch). s.chosen.pairs) full in
    let some : 0 < vec_len c.self.inside.pairs = omega (arith, c.self.inside.pairs.ok.0, ap length e, length_push earlier.chosen.pairs last) in
    let left = last_dropped own c.pop.new.self.items earlier.chosen.pairs last c.pop.result c.pop.ensures.items (c.pop.ensures.variant.1 some) e in
    ap (λ (xs : List (Event × Event)). view_of c.self.inside.base.program c.self.inside.base.mode c.self.inside.thread_traces.items c.self.inside.sources.items xs) left
    ∙ ap (λ (s : ProgramSketch). record { program = s.program; mode = s.mode; chosen = record { given = s.chosen.given; sources = s.chosen.sources; pairs = earlier.chosen.pairs } }) full
