use Rattle.rowless_sketches.proofs.Vocabulary.{Contains, get_or, subst, ProgramSketch, Event, Initial, HasLater, Contains-get_or, yes}
use Rattle.rowless_sketches.proofs.parts.Parts.has_later.Goals as goal

pub returns-then-is_same : goal.returns-then-is_same
returns-then-is_same c =
    let chosen = c.self.inside.pairs.now in
    let pair : Event × Event = get_or chosen c.loop-pair.pair-index (Initial 0, Initial 0) in
    let there : Contains chosen (c.args.event, pair.1) =
    subst (λ e. Contains chosen (e, pair.1)) (c.is_same.ensures.0 c.if-is_same.true) (Contains-get_or chosen c.loop-pair.pair-index (Initial 0, Initial 0) c.loop-pair-test.true) in
    yes (HasLater c.args.self.now c.args.event) (pair.1, subst (λ (s : ProgramSketch). Contains s.chosen.pairs (c.args.event, pair.1)) c.self.view_is there)
