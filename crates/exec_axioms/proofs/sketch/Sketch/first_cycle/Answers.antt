use Rattle.exec_axioms.proofs.Vocabulary.{◌∙◌, sym, ap, MatchOption-at_none, IfOk-weaker, ProgramSketch, none_by, none_sequential, none_fenced}
use Rattle.exec_axioms.proofs.sketch.Sketch.first_cycle.Goals as goal

pub returns-in-Sequential-clause-cycle : goal.returns-in-Sequential-clause-cycle
returns-in-Sequential-clause-cycle c =
    let mode = sym (ap (λ (s : ProgramSketch). s.mode) c.self.view_is) ∙ c.in-Sequential.is in
    IfOk-weaker c.find_cycle_of.result _ _ (λ found. none_by found _ _ _ (none_sequential c.args.self.now mode)) c.find_cycle_of.ensures.cycle

pub returns-in-None-clause-cycle : goal.returns-in-None-clause-cycle
returns-in-None-clause-cycle c =
    let mode = sym (ap (λ (s : ProgramSketch). s.mode) c.self.view_is) ∙ c.in-Fenced.is in
    let location = MatchOption-at_none _ _ c.in-None.is c.in_ok-found-in-Fenced.ensures.cycle in
    IfOk-weaker c.find_cycle_of-in-None.result _ _ (λ found. none_by found _ _ _ (none_fenced c.args.self.now c.in-Fenced.field-0 mode location)) c.find_cycle_of-in-None.ensures.cycle
