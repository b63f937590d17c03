use Rattle.rowless_sketches.proofs.Vocabulary.{◌≡◌, ◌↔◌, Some, Contains, get_or, ap, subst, Event, Initial, once, found_source}
use Rattle.rowless_sketches.proofs.parts.Parts.source.Goals as goal

pub returns-then-is_same : goal.returns-then-is_same
returns-then-is_same c =
    let chosen = c.self.inside.sources.now in
    let one = once chosen c.self.invariant.lawful.one_source c.args.read in
    let found = found_source chosen c.loop-chosen.chosen-index (Initial 0, Initial 0) c.args.read c.loop-chosen-test.true (c.is_same.ensures.0 c.if-is_same.true) one in
    subst (λ ps. (source : Event) → (Some (get_or chosen c.loop-chosen.chosen-index (Initial 0, Initial 0)).1 ≡ Some source) ↔ Contains ps (c.args.read, source)) (ap (λ s. s.chosen.sources) c.self.view_is) found
