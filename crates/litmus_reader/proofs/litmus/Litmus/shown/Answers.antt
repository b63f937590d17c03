use Rattle.litmus_reader.proofs.Vocabulary.{sym, ap, subst, ◌∙◌, shown_by, ShowsNamedRegisters, ShowsNamedLocations}
use Rattle.litmus_reader.proofs.ShownPlaces.{shows_registers, shows_locations}
use Rattle.litmus_reader.proofs.litmus.Litmus.shown.Goals as goal

pub returns-clause-registers : goal.returns-clause-registers
returns-clause-registers g c =
    let is = c.shown_by.ensures ∙ ap (shown_by c.args.self.now.condition.formula) c.as_slice.ensures in
    subst (ShowsNamedRegisters c.args.self.now.condition.formula c.args.self.now.observed) (sym is) (shows_registers c.args.self.now.condition.formula c.args.self.now.observed)

pub returns-clause-locations : goal.returns-clause-locations
returns-clause-locations g c =
    let is = c.shown_by.ensures ∙ ap (shown_by c.args.self.now.condition.formula) c.as_slice.ensures in
    subst (ShowsNamedLocations c.args.self.now.condition.formula c.args.self.now.observed) (sym is) (shows_locations c.args.self.now.condition.formula c.args.self.now.observed)
